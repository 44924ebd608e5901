use Rattle.std.proofs.Common.{◌≡◌, vec_len}
use Rattle.std.specs.FinMap.{from_entries}
use Rattle.merge_details.proofs.Rows.{onto}
use Rattle.merge_details.proofs.tables.table_of.Given as goal

-- the rows that are left, put into the table, make the table of all
abbrev pub invariant-loop-id : goal.invariant-loop-id
invariant-loop-id g l = onto l.rows.items l.table ≡ from_entries l.fn.rows.items

abbrev pub decreases-loop-id : goal.decreases-loop-id
decreases-loop-id g l = vec_len l.rows
