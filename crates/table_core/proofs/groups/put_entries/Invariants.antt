use Rattle.std.proofs.Common.{◌≡◌, drop, map}
use Rattle.vault_model.specs.SeenNodes.{entry_row}
use Rattle.table_core.specs.Rows.{entry_fields}
use Rattle.table_core.specs.Tables.{rows_text}
use Rattle.table_core.proofs.groups.put_entries.Given as goal

abbrev pub invariant-loop-entry : goal.invariant-loop-entry
invariant-loop-entry g l =
    g.O.TableSink.step (g.O.TableSink.state l.out) (rows_text (map (entry_fields (map (λ n. n.now) l.names)) (map entry_row (drop l.entry-index l.entries))))
    ≡ g.O.TableSink.step (g.O.TableSink.state l.initial.out) (rows_text (map (entry_fields (map (λ n. n.now) l.names)) (map entry_row l.entries)))
