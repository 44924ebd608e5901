use Rattle.std.proofs.Common.{refl, map}
use Rattle.vault_model.specs.SeenNodes.{entry_row}
use Rattle.table_core.specs.Rows.{entry_fields}
use Rattle.table_core.specs.Tables.{row_of}
use Rattle.table_core.proofs.GroupRows.{entry_rows_text}
use Rattle.table_core.proofs.Puts.{Steps, put_more}
use Rattle.table_core.proofs.groups.put_entries.Goals as goal

pub loop-entry-preserved : goal.loop-entry-preserved
loop-entry-preserved g c =
    let laws : Steps g.O.TableSink.step = record { nothing = g.met.O.TableSink.nothing; joined = g.met.O.TableSink.joined } in
    let names = map (λ n. n.now) c.args.names.now in
    put_more laws (entry_rows_text names) (λ e. row_of (entry_fields names (entry_row e))) (λ _ _. refl) _ _ _ c.loop-entry-test.true c.entry-item.is c.in_ok-put_entry.ensures c.loop-entry.invariant
