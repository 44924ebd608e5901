use Rattle.std.proofs.Common.{ℕ, List}
use Rattle.vault_model.specs.declared.contents.Item.{Item}
use Rattle.doc_forms.specs.Tables.{item_rows}
use Rattle.doc_walk.proofs.Branches.{passed_over}
use Rattle.doc_walk.proofs.Rests.{kept_in}
use Rattle.doc_walk.proofs.custom_items.ItemParts.read_child.Goals as goal

pub returns-in-Key : goal.returns-in-Key
returns-in-Key c = rw c.in-Key.is (kept_in (λ (v : List ℕ). let p : Item = record c.args.self.now { key = v } in p) c.keep.ensures)

pub returns-in-Value : goal.returns-in-Value
returns-in-Value c = rw c.in-Value.is (kept_in (λ (v : List ℕ). let p : Item = record c.args.self.now { value = v } in p) c.keep-in-Value.ensures)

pub returns-in-LastModificationTime : goal.returns-in-LastModificationTime
returns-in-LastModificationTime c = rw c.in-LastModificationTime.is (kept_in (λ (v : ℕ). let p : Item = record c.args.self.now { changed = v } in p) c.keep-in-LastModificationTime.ensures)

pub returns-in_default : goal.returns-in_default
returns-in_default c =
    passed_over c.args.walk.now c.pass.new.self c.pass.result item_rows c.args.self.now c.args.tag.now
    (λ _. (c.in_default.not-Key, (c.in_default.not-Value, (c.in_default.not-LastModificationTime, tt))))
    c.pass.ensures
