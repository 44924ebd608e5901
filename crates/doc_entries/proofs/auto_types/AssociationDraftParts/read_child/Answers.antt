use Rattle.std.proofs.Common.{List, ℕ}
use Rattle.vault_model.specs.declared.contents.Association.{Association}
use Rattle.doc_forms.specs.Entries.{association_rows}
use Rattle.doc_walk.proofs.Branches.{passed_over}
use Rattle.doc_walk.proofs.Rests.{kept_in}
use Rattle.doc_entries.proofs.auto_types.AssociationDraftParts.read_child.Goals as goal

pub returns-in-Window : goal.returns-in-Window
returns-in-Window c = rw c.in-Window.is (kept_in (λ (v : List ℕ). let p : Association = record c.args.self.now.pair { window = v } in p) c.keep.ensures)

pub returns-in-KeystrokeSequence : goal.returns-in-KeystrokeSequence
returns-in-KeystrokeSequence c = rw c.in-KeystrokeSequence.is (kept_in (λ (v : List ℕ). let p : Association = record c.args.self.now.pair { keys = v } in p) c.keep-in-KeystrokeSequence.ensures)

pub returns-in_default : goal.returns-in_default
returns-in_default c =
    passed_over c.args.walk.now c.pass.new.self c.pass.result association_rows c.args.self.now.pair c.args.tag.now
    (λ _. (c.in_default.not-Window, (c.in_default.not-KeystrokeSequence, tt)))
    c.pass.ensures
