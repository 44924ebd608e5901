use Rattle.std.proofs.lemmas.Result.{err_from_is_err_and}
use Rattle.vault_model.specs.declared.contents.Item.{Item}
use Rattle.doc_forms.specs.Tables.{items_rows, put}
use Rattle.doc_walk.proofs.Branches.{passed_over, put_in, refused_in}
use Rattle.doc_walk.proofs.custom_items.KeyedListItemParts.read_child.Goals as goal

pub returns-in_ok-item-in-Item : goal.returns-in_ok-item-in-Item
returns-in_ok-item-in-Item c =
    let steps = rw c.no_item.ensures at c.in_ok-item-in-Item.ensures in
    rw c.in-Item.is (put_in (λ (i : Item). put (λ (j : Item). j.key) i c.args.self.now) steps c.put.ensures)

pub returns-in_err-item-in-Item : goal.returns-in_err-item-in-Item
returns-in_err-item-in-Item c =
    let steps = rw c.no_item.ensures at c.in_err-item-in-Item.ensures in
    let p = err_from_is_err_and c.from_residual.result c.from_residual.ensures.1 in
    rw (p.1, p.2, c.in-Item.is) (refused_in (λ (i : Item). put (λ (j : Item). j.key) i c.args.self.now) steps)

pub returns-in_default : goal.returns-in_default
returns-in_default c =
    passed_over c.args.walk.now c.pass.new.self c.pass.result items_rows c.args.self.now c.args.tag.now
    (λ _. (c.in_default.not-Item, tt))
    c.pass.ensures
