use Rattle.std.proofs.Common.{List, [], ◌∷◌, ◌++◌, map}
use Rattle.std.proofs.lemmas.Result.{err_from_is_err_and}
use Rattle.doc_forms.specs.Entries.{ReadEntry}
use Rattle.doc_forms.specs.Groups.{GroupParts}
use Rattle.doc_forms.specs.SeenDrafts.{entry_seen, group_parts_seen}
use Rattle.doc_entries.proofs.DocWalk.Branches.{put_in, refused_in}
use Rattle.doc_groups.proofs.Places.{one_more_seen, put_last}
use Rattle.doc_groups.proofs.group_children.entry_child.Goals as goal

pub returns : goal.returns
returns c =
    put_in (λ (e : ReadEntry). let p : GroupParts = record (group_parts_seen c.args.known.now) { entries = (group_parts_seen c.args.known.now).entries ++ e ∷ [] } in p) c.in_ok-entry.ensures
    (put_last (map entry_seen) (λ (es : List ReadEntry). let p : GroupParts = record (group_parts_seen c.args.known.now) { entries = es } in p)
    (c.args.known.now.entries.items ++ c.in_ok-entry.entry ∷ []) c.append.new.list.items (map entry_seen c.args.known.now.entries.items ++ entry_seen c.in_ok-entry.entry ∷ []) c.append.result
    (one_more_seen entry_seen c.args.known.now.entries.items c.in_ok-entry.entry) c.append.ensures)

pub returns-in_err-entry : goal.returns-in_err-entry
returns-in_err-entry c =
    let p = err_from_is_err_and c.from_residual.result c.from_residual.ensures.1 in
    rw (p.1, p.2)
    (refused_in (λ (e : ReadEntry). let q : GroupParts = record (group_parts_seen c.args.known.now) { entries = (group_parts_seen c.args.known.now).entries ++ e ∷ [] } in q) c.in_err-entry.ensures)
