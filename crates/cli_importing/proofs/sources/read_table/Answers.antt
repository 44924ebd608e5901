use Rattle.std.proofs.Common.{ℕ, List, subst}
use Rattle.outside_core.specs.Results.{Fails}
use Rattle.table_reading.specs.Columns.{passed_over}
use Rattle.table_reading.specs.Documents.{csv_document}
use Rattle.table_reading.specs.Refusals.{meaning_of}
use Rattle.cli_importing.specs.Imports.{table_or_refusal}
use Rattle.cli_importing.proofs.Refused.{lent_whole, source_refused, table_refused}
use Rattle.cli_importing.proofs.sources.read_table.Goals as goal

pub returns-in-Err-clause-gives : goal.returns-in-Err-clause-gives
returns-in-Err-clause-gives c =
    let lent = lent_whole c.args.bytes.now.bytes c.lend.result.now c.len.result c.lend.ensures c.len.ensures in
    source_refused (passed_over c.args.bytes.now.bytes) c.table_stop.result (table_or_refusal c.args.name.now (csv_document c.args.bytes.now.bytes c.args.now))
    (table_refused c.in-Err.fail c.table_stop.result c.args.name.now (csv_document c.args.bytes.now.bytes c.args.now) c.table_stop.ensures.stop
    (subst (λ (b : List ℕ). Fails (meaning_of c.in-Err.fail) (csv_document b c.args.now)) lent c.in-Err.ensures.doc))
