-- The entries of the rows of a table.
use Rattle.std.specs.Prelude.{ℕ, ◌==◌, Bool, true, false, List, [], ◌∷◌, length, map, None, Result, Ok, Err}
use Rattle.std.specs.List.{enumerate_from}
use Rattle.std.specs.Option.{ok_or}
use Rattle.import_tree.specs.Entries.{ImportedEntry}
use Rattle.outside_core.specs.Results.{◌>>=◌}
use Rattle.table_reading.specs.Cells.{cell, otp_of, time_of, title_of}
use Rattle.table_reading.specs.Groups.{group_names}
use Rattle.table_reading.specs.declared.columns.Columns.{Columns}
use Rattle.table_reading.specs.declared.fails.TableFail.{TableFail}
use Rattle.table_reading.specs.declared.fails.TableFail.TheVariants as fail
use Rattle.table_reading.specs.declared.rows.Table.{Table}
use Rattle.table_reading.specs.declared.rows.Times.{Times}

-- the time that this text of the row of this number is
abbrev pub row_time : ℕ → ℕ → List ℕ → Result ℕ TableFail
row_time now number text = ok_or (time_of now text) (fail.BadTime number)

-- a row has as many fields as the first
abbrev pub refuse_width : ℕ → Bool → Result (Unit {0}) TableFail
refuse_width number true = Ok tt
refuse_width number false = Err (fail.RowWidth number)

-- the times of the row of this number
abbrev pub row_times : Table → ℕ → List (List ℕ) → Result Times TableFail
row_times table number row = do
  _ ← refuse_width number (length row == table.width)
  created ← row_time table.moment number (cell table.columns.created row)
  modified ← row_time table.moment number (cell table.columns.modified row)
  Ok (record { created = created; modified = modified })

-- the entry of a row, with its times
abbrev pub timed_entry : Columns → Times → List (List ℕ) → ImportedEntry
timed_entry columns times row = record {
  groups = group_names (cell columns.group row);
  id = None;
  title = title_of columns.title columns.url row;
  user = cell columns.user row;
  password = cell columns.password row;
  url = cell columns.url row;
  notes = cell columns.notes row;
  history = None;
  otp = otp_of (cell columns.otp row);
  created = times.created;
  modified = times.modified;
}

-- the entry of the row of this number
abbrev pub row_entry : Table → ℕ → List (List ℕ) → Result ImportedEntry TableFail
row_entry table number row = do
  times ← row_times table number row
  Ok (timed_entry table.columns times row)

-- the values of results, or the first refusal among them
abbrev pub values_of : {A E : Type 0} → List (Result A E) → Result (List A) E
values_of [] = Ok []
values_of (result ∷ results) = do
  value ← result
  values ← values_of results
  Ok (value ∷ values)

-- the entries of rows that are numbered from here on, or the first refusal
abbrev pub row_entries : Table → ℕ → List (List (List ℕ)) → Result (List ImportedEntry) TableFail
row_entries table first rows =
    values_of (map (λ row. row_entry table row.0 row.1) (enumerate_from first rows))
