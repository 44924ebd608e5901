-- Filled with what stands at each of its ids, the table is the same.
use Rattle.std.proofs.Common.{◌<◌, ◌≤◌, length, arith, ap, sym, ◌∙◌}
use Rattle.std.specs.FinMap.{get}
use Rattle.merge_tables.proofs.FillTables.{fill_same, fill, fill_next}
use Rattle.merge_tables.proofs.ListSteps.{drop_end}
use Rattle.merge_arranging.proofs.laying.fill_tombs.Goals as goal

pub loop-id-preserved : goal.loop-id-preserved
loop-id-preserved c =
    let ids = c.args.ids.now in
    let lt : c.loop-id.id-index < length ids = omega arith in
    c.loop-id.invariant
    ∙ fill_next (get c.args.tombs.now) c.loop-id.same c.put_some.new.filled ids c.loop-id.id-index c.id-item.result _ lt c.id-item.is c.in_ok-put_some.ensures (c.copied-deleted.ensures ∙ c.get.ensures)

pub returns : goal.returns
returns c =
    let tombs = c.args.tombs.now in
    let ids = c.args.ids.now in
    let end : length ids ≤ c.loop-id.id-index = omega arith in
    sym (ap (fill (get tombs) c.loop-id.same) (drop_end ids c.loop-id.id-index end)) ∙ sym c.loop-id.invariant ∙ fill_same tombs
