-- What was added so far and what is left come to all.
use Rattle.std.proofs.Common.{List, ℕ, ap, sym, ◌∙◌}
use Rattle.std.specs.FinMap.{FinMap, empty, insert}
use Rattle.vault_model.specs.declared.metas.Icon.{Icon}
use Rattle.vault_model.specs.Orders.{bytes_cmp, icon_cmp}
use Rattle.vault_model.specs.Unite.{greater, unite}
use Rattle.vault_model.proofs.Orders.{id_order, icon_order}
use Rattle.merge_core.proofs.Semilattice.{greater_join}
use Rattle.merge_tables.proofs.UniteMaps.{unite_rows, unite_entries, unite_next, unite_none}
use Rattle.merge_tables.proofs.icons.add_icons.Goals as goal

abbrev all : List (List ℕ × Icon) → FinMap bytes_cmp Icon
all = unite_rows id_order.total id_order.same (greater icon_cmp)

pub loop-id-init : goal.loop-id-init
loop-id-init c =
    ap (λ (es : List (List ℕ × Icon)). unite (greater icon_cmp) (all es) c.args.icons.now) (c.into_iter-id-iterator.ensures.into_iter_gives ∙ c.iter-id-items.ensures)
    ∙ ap (λ (m : FinMap bytes_cmp Icon). unite (greater icon_cmp) m c.args.icons.now) (unite_entries id_order.total id_order.same (greater icon_cmp) c.args.more.now)

pub loop-id-preserved : goal.loop-id-preserved
loop-id-preserved c =
    let rest = c.next.new.self in
    let id = c.in-Some.id.now in
    let icon = c.in-Some.icon.now in
    ap (unite (greater icon_cmp) (all rest)) c.in_ok-add_icon.ensures
    ∙ sym (unite_next id_order.total id_order.same (greater icon_cmp) (greater_join icon_order.total icon_order.same) (insert empty id icon) (all rest) c.loop-id.icons)
    ∙ sym (ap (λ (es : List (List ℕ × Icon)). unite (greater icon_cmp) (all es) c.loop-id.icons) c.in-Some.ensures.steps)
    ∙ c.loop-id.invariant

pub returns : goal.returns
returns c =
    sym (unite_none id_order.total id_order.same (greater icon_cmp) c.loop-id.icons)
    ∙ sym (ap (λ (es : List (List ℕ × Icon)). unite (greater icon_cmp) (all es) c.loop-id.icons) c.in-None.ensures.steps.0)
    ∙ c.loop-id.invariant
