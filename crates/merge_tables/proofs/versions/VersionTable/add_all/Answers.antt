-- The versions added so far and those that are left come to all of them.
use Rattle.std.proofs.Common.{◌<◌, ◌≤◌, ◌+◌, List, length, drop, arith, ap, sym, ◌∙◌}
use Rattle.std.specs.FinMap.{empty, insert}
use Rattle.vault_model.specs.declared.contents.Stats.{Stats}
use Rattle.vault_model.specs.Db.{Mark, Versions}
use Rattle.vault_model.specs.Join.{stats_join}
use Rattle.vault_model.specs.Unite.{unite}
use Rattle.merge_core.proofs.Joins.{stats_joins}
use Rattle.vault_model.proofs.Orders.{mark_order}
use Rattle.merge_tables.proofs.UniteMaps.{unite_rows, unite_entries, unite_next, unite_none}
use Rattle.merge_tables.proofs.ListSteps.{drop_next, drop_end}
use Rattle.merge_tables.proofs.versions.VersionTable.add_all.Goals as goal

abbrev all : List (Mark × Stats) → Versions
all = unite_rows mark_order.total mark_order.same stats_join

pub loop-mark-init : goal.loop-mark-init
loop-mark-init c =
    ap (λ (es : List (Mark × Stats)). unite stats_join (all es) c.args.self.now) c.rows-mark-items.ensures
    ∙ ap (λ (m : Versions). unite stats_join m c.args.self.now) (unite_entries mark_order.total mark_order.same stats_join c.args.more.now)

pub loop-mark-preserved : goal.loop-mark-preserved
loop-mark-preserved c =
    let items = c.rows-mark-items.result.now in
    let i = c.loop-mark.mark-index in
    let e = c.loop-mark-item.result in
    let lt : i < length items = omega arith in
    ap (unite stats_join (all (drop (i + 1) items)))
    (c.in_ok-add.ensures.ok ∙ ap (λ (m : Mark). unite stats_join (insert empty m e.1) c.loop-mark.self) c.again.ensures)
    ∙ sym (unite_next mark_order.total mark_order.same stats_join stats_joins (insert empty e.0 e.1) (all (drop (i + 1) items)) c.loop-mark.self)
    ∙ sym (ap (λ (es : List (Mark × Stats)). unite stats_join (all es) c.loop-mark.self) (drop_next items i e lt c.loop-mark-item.is))
    ∙ c.loop-mark.invariant

pub returns : goal.returns
returns c =
    let items = c.rows-mark-items.result.now in
    let end : length items ≤ c.loop-mark.mark-index = omega arith in
    sym (unite_none mark_order.total mark_order.same stats_join c.loop-mark.self)
    ∙ sym (ap (λ (es : List (Mark × Stats)). unite stats_join (all es) c.loop-mark.self) (drop_end items c.loop-mark.mark-index end))
    ∙ c.loop-mark.invariant
