use Rattle.std.proofs.Common.{List}
use Rattle.vault_model.specs.declared.nodes.Tombstone.{Tombstone}
use Rattle.doc_forms.specs.Documents.{RootParts, root_rows}
use Rattle.doc_forms.specs.SeenDrafts.{root_parts}
use Rattle.doc_entries.proofs.DocWalk.Branches.{passed_over}
use Rattle.doc_entries.proofs.DocWalk.Rests.{kept_in}
use Rattle.doc_groups.proofs.roots.RootDraftParts.read_child.Goals as goal

pub returns-in-Group : goal.returns-in-Group
returns-in-Group c = rw c.in-Group.is c.root_group.ensures

pub returns-in-DeletedObjects : goal.returns-in-DeletedObjects
returns-in-DeletedObjects c = rw c.in-DeletedObjects.is (kept_in (λ (v : List Tombstone). let p : RootParts = record (root_parts c.args.self.now.root) { tombs = v } in p) c.tombs.ensures)

pub returns-in_default : goal.returns-in_default
returns-in_default c =
    passed_over c.args.walk.now c.pass.new.self c.pass.result root_rows (root_parts c.args.self.now.root) c.args.tag.now
    (λ _. (c.in_default.not-Group, (c.in_default.not-DeletedObjects, tt)))
    c.pass.ensures
