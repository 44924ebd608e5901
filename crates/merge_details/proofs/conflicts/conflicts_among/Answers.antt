use Rattle.std.proofs.Common.{ap, map, sym, ◌∙◌}
use Rattle.std.specs.FinMap.{FinMap, get}
use Rattle.vault_model.specs.SeenNodes.{entry_record}
use Rattle.merge_details.specs.Conflicts.{key_cmp}
use Rattle.merge_details.specs.PathTables.{path_at}
use Rattle.merge_details.specs.declared.conflict_tables.ConflictTimes.{ConflictTimes}
use Rattle.merge_details.proofs.Found.{with_all, with_conflicts, with_last}
use Rattle.merge_details.proofs.conflicts.conflicts_among.Goals as goal

pub loop-row-init : goal.loop-row-init
loop-row-init c =
    let path = path_at c.args.paths.now in
    let target = get c.args.held.now.target in
    let sources = map get c.args.held.now.sources.items in
    ap (λ (m : FinMap key_cmp ConflictTimes). with_conflicts path target sources c.args.rows.items m) c.new-found.ensures
    ∙ with_all path target sources c.args.rows.items

pub loop-row-preserved : goal.loop-row-preserved
loop-row-preserved c =
    let path = path_at c.args.paths.now in
    let target = get c.args.held.now.target in
    let sources = map get c.args.held.now.sources.items in
    sym (with_last path target sources c.loop-row.rows.items c.pop.new.self.items c.in-Some.row.0 c.in-Some.row.1 (entry_record c.entry.result.now)
    c.loop-row.found c.add_conflict.new.found c.in-Some.ensures.items c.entry.ensures c.in_ok-add_conflict.ensures)
    ∙ c.loop-row.invariant
