use Rattle.std.proofs.Common.{[], ◌∷◌, ◌++◌}
use Rattle.std.proofs.lemmas.Result.{err_from_is_err_and}
use Rattle.vault_model.specs.declared.nodes.Tombstone.{Tombstone}
use Rattle.doc_forms.specs.Documents.{tombs_rows}
use Rattle.doc_entries.proofs.DocWalk.Branches.{passed_over, put_in, refused_in}
use Rattle.doc_groups.proofs.tombs.TombsDraftParts.read_child.Goals as goal

pub returns-in_ok-draft-in-DeletedObject : goal.returns-in_ok-draft-in-DeletedObject
returns-in_ok-draft-in-DeletedObject c =
    let steps = rw c.no_tomb.ensures at c.in_ok-draft-in-DeletedObject.ensures in
    rw c.in-DeletedObject.is (put_in (λ (t : Tombstone). c.args.self.now.tombs ++ t ∷ []) steps c.add_tomb.ensures)

pub returns-in_err-draft-in-DeletedObject : goal.returns-in_err-draft-in-DeletedObject
returns-in_err-draft-in-DeletedObject c =
    let steps = rw c.no_tomb.ensures at c.in_err-draft-in-DeletedObject.ensures in
    let p = err_from_is_err_and c.from_residual.result c.from_residual.ensures.1 in
    rw (p.1, p.2, c.in-DeletedObject.is) (refused_in (λ (t : Tombstone). c.args.self.now.tombs ++ t ∷ []) steps)

pub returns-in_default : goal.returns-in_default
returns-in_default c =
    passed_over c.args.walk.now c.pass.new.self c.pass.result tombs_rows c.args.self.now.tombs c.args.tag.now
    (λ _. (c.in_default.not-DeletedObject, tt))
    c.pass.ensures
