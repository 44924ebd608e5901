-- What was added so far and what is left come to all.
use Rattle.std.proofs.Common.{◌<◌, ◌≤◌, ◌+◌, List, ℕ, length, drop, arith, ap, sym, ◌∙◌}
use Rattle.std.specs.FinMap.{FinMap, empty, insert}
use Rattle.vault_model.specs.declared.contents.Item.{Item}
use Rattle.vault_model.specs.Orders.{bytes_cmp, later_item_cmp}
use Rattle.vault_model.specs.Unite.{greater, unite}
use Rattle.vault_model.proofs.Orders.{bytes_order, later_item_order}
use Rattle.merge_core.proofs.Semilattice.{greater_join}
use Rattle.merge_tables.proofs.UniteMaps.{unite_rows, unite_entries, unite_next, unite_none}
use Rattle.merge_tables.proofs.ListSteps.{drop_next, drop_end}
use Rattle.merge_tables.proofs.icons.ItemTable.add_all.Goals as goal

abbrev all : List (List ℕ × Item) → FinMap bytes_cmp Item
all = unite_rows bytes_order.total bytes_order.same (greater later_item_cmp)

pub loop-key-init : goal.loop-key-init
loop-key-init c =
    ap (λ (es : List (List ℕ × Item)). unite (greater later_item_cmp) (all es) c.args.self.now) c.rows-key-items.ensures
    ∙ ap (λ (m : FinMap bytes_cmp Item). unite (greater later_item_cmp) m c.args.self.now) (unite_entries bytes_order.total bytes_order.same (greater later_item_cmp) c.args.more.now)

pub loop-key-preserved : goal.loop-key-preserved
loop-key-preserved c =
    let items = c.rows-key-items.result.now in
    let i = c.loop-key.key-index in
    let e = c.loop-key-item.result in
    let lt : i < length items = omega arith in
    ap (unite (greater later_item_cmp) (all (drop (i + 1) items))) c.in_ok-add.ensures
    ∙ sym (unite_next bytes_order.total bytes_order.same (greater later_item_cmp) (greater_join later_item_order.total later_item_order.same) (insert empty e.0 e.1) (all (drop (i + 1) items)) c.loop-key.self)
    ∙ sym (ap (λ (es : List (List ℕ × Item)). unite (greater later_item_cmp) (all es) c.loop-key.self) (drop_next items i e lt c.loop-key-item.is))
    ∙ c.loop-key.invariant

pub returns : goal.returns
returns c =
    let items = c.rows-key-items.result.now in
    let end : length items ≤ c.loop-key.key-index = omega arith in
    sym (unite_none bytes_order.total bytes_order.same (greater later_item_cmp) c.loop-key.self)
    ∙ sym (ap (λ (es : List (List ℕ × Item)). unite (greater later_item_cmp) (all es) c.loop-key.self) (drop_end items c.loop-key.key-index end))
    ∙ c.loop-key.invariant
