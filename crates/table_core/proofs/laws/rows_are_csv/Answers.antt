use Rattle.table_core.proofs.CsvRows.{row_is}
use Rattle.table_core.proofs.laws.rows_are_csv.Goals as goal

pub returns : goal.returns
returns c = row_is
