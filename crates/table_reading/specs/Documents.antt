-- The document of a table.
use Rattle.std.specs.Prelude.{ℕ, Bool, true, false, List, [], ◌∷◌, length, Option, None, Some, Result, Ok, Err}
use Rattle.std.specs.Str.{is_utf8}
use Rattle.std.specs.Str.Lossy.{utf8_valid_len}
use Rattle.csv.specs.Reading.{default_config, records, strip_bom}
use Rattle.import_tree.specs.Outcome.{imported_document}
use Rattle.outside_core.specs.Results.{◌>>=◌}
use Rattle.table_reading.specs.Columns.{columns_of}
use Rattle.table_reading.specs.Refusals.{as_table}
use Rattle.table_reading.specs.Rows.{row_entries}
use Rattle.table_reading.specs.declared.fails.TableFail.{TableFail}
use Rattle.table_reading.specs.declared.fails.TableFail.TheVariants as fail
use Rattle.table_reading.specs.declared.rows.Table.{Table}
use Rattle.vault_model.specs.Tree.{BareDoc}

-- bytes are UTF-8; else the length of their longest prefix that is
abbrev pub refuse_bytes : List ℕ → Bool → Result (Unit {0}) TableFail
refuse_bytes bytes true = Ok tt
refuse_bytes bytes false = Err (fail.NotUtf8 (utf8_valid_len bytes))

-- the same of some bytes
abbrev pub checked_bytes : List ℕ → Result (Unit {0}) TableFail
checked_bytes bytes = refuse_bytes bytes (is_utf8 bytes)

-- a column of titles is there, or one of URLs
abbrev pub refuse_untitled : Option ℕ → Option ℕ → Result (Unit {0}) TableFail
refuse_untitled None None = Err fail.ColumnMissing
refuse_untitled None (Some place) = Ok tt
refuse_untitled (Some place) url = Ok tt

-- what is known of the rows after the first, which names the columns
abbrev pub table_of : ℕ → List (List ℕ) → Table
table_of now names = record { columns = columns_of names; width = length names; moment = now }

-- the document of the rows of which this is known
abbrev pub table_document : Table → List (List (List ℕ)) → Result BareDoc TableFail
table_document table rows = do
  entries ← row_entries table 1 rows
  as_table (imported_document table.moment entries)

-- the document of all rows of a table
abbrev pub rows_document : ℕ → List (List (List ℕ)) → Result BareDoc TableFail
rows_document now [] = Err fail.ColumnMissing
rows_document now (names ∷ rows) = do
  _ ← refuse_untitled (columns_of names).title (columns_of names).url
  table_document (table_of now names) rows

-- The document of a table as CSV at a moment: the rows are those of RFC 4180 as the crate `csv`
-- reads them, without a byte order mark.
abbrev pub csv_document : List ℕ → ℕ → Result BareDoc TableFail
csv_document bytes now = do
  _ ← checked_bytes bytes
  rows_document now (records default_config (strip_bom bytes))
