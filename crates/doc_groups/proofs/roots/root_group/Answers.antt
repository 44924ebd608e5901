use Rattle.std.proofs.Common.{Bool, Some}
use Rattle.std.proofs.lemmas.Result.{err_from_is_err_and}
use Rattle.doc_forms.specs.Documents.{RootParts}
use Rattle.doc_forms.specs.Groups.{ReadTree}
use Rattle.doc_forms.specs.SeenDrafts.{draft_seen, root_parts}
use Rattle.doc_groups.proofs.Places.{none_seen, same_fit, set_in}
use Rattle.doc_groups.specs.GroupSteps.{group_step}
use Rattle.doc_entries.proofs.DocWalk.Branches.{refused_in}
use Rattle.doc_entries.specs.DocWalk.Steps.{map_rest}
use Rattle.doc_groups.proofs.roots.root_group.Goals as goal

pub returns : goal.returns
returns c =
    let keep = λ (t : ReadTree). let p : RootParts = record (root_parts c.args.draft.now.root) { tree = Some t } in p in
    rw c.put.ensures
    (same_fit (λ (b : Bool). map_rest keep (group_step 127 b c.args.tag.now)) (none_seen draft_seen c.args.draft.now.root.tree c.is_none-fits.result c.is_none-fits.ensures) (set_in keep c.in_ok-tree.ensures))

pub returns-in_err-tree : goal.returns-in_err-tree
returns-in_err-tree c =
    let keep = λ (t : ReadTree). let q : RootParts = record (root_parts c.args.draft.now.root) { tree = Some t } in q in
    let p = err_from_is_err_and c.from_residual.result c.from_residual.ensures.1 in
    rw (p.1, p.2)
    (same_fit (λ (b : Bool). map_rest keep (group_step 127 b c.args.tag.now)) (none_seen draft_seen c.args.draft.now.root.tree c.is_none-fits.result c.is_none-fits.ensures) (refused_in keep c.in_err-tree.ensures))
