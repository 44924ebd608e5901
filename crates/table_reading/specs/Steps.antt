-- The entries of rows are gathered, one after another.
use Rattle.std.specs.Prelude.{◌≡◌, ℕ, List, [], ◌∷◌, ◌++◌, Result, Ok, Err}
use Rattle.import_tree.specs.Entries.{ImportedEntry}
use Rattle.outside_core.specs.Results.{Fails}
use Rattle.table_reading.specs.Refusals.{meaning_of}
use Rattle.table_reading.specs.Rows.{row_entries, row_entry}
use Rattle.table_reading.specs.declared.fails.TableFail.{TableFail}
use Rattle.table_reading.specs.declared.rows.Table.{Table}

-- The entry of the row of this number is put after others, or the row is refused.
abbrev pub AddsRow : Table → ℕ → List (List ℕ) → List ImportedEntry → List ImportedEntry
    → Result (Unit {0}) TableFail → Type 0
AddsRow table number row old new (Ok u) = (entry : ImportedEntry)
    × (row_entry table number row ≡ Ok entry) × (new ≡ old ++ entry ∷ [])
AddsRow table number row old new (Err fail) = Fails (meaning_of fail) (row_entry table number row)

-- These are the entries of rows, or the first row that is refused is.
abbrev pub AddsRows : Table → List (List (List ℕ)) → List ImportedEntry
    → Result (Unit {0}) TableFail → Type 0
AddsRows table rows entries (Ok u) = row_entries table 1 rows ≡ Ok entries
AddsRows table rows entries (Err fail) = Fails (meaning_of fail) (row_entries table 1 rows)
