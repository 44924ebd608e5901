-- Why a table is not imported, as what is so of its bytes.
use Rattle.std.specs.Prelude.{◌≡◌, ◌≢◌, ◌⊎◌, ◌+◌, ℕ, List, [], ◌∷◌, ◌++◌, false, length, None, Ok, Err}
use Rattle.std.specs.Str.{IsValidUpTo}
use Rattle.csv.specs.Reading.{default_config, records, strip_bom}
use Rattle.doc_forms.specs.Values.{iso_time}
use Rattle.vault_model.specs.Join.{IsIn}
use Rattle.vault_model.specs.Tree.{Tree}
use Rattle.import_tree.specs.Entries.{ImportedEntry}
use Rattle.import_tree.specs.Trees.{document_of}
use Rattle.table_reading.specs.Cells.{cell}
use Rattle.table_reading.specs.Columns.{columns_of, is_among, title_names, url_names}
use Rattle.table_reading.specs.Documents.{csv_document, table_of}
use Rattle.table_reading.specs.Rows.{row_entries}
use Rattle.table_reading.specs.declared.fails.TableFail.{TableFail}
use Rattle.table_reading.specs.declared.fails.TableFail.TheVariants.{BadTime, ColumnMissing, DuplicateId, NoMemory, NotUtf8, RowWidth, TooDeep}
use Rattle.import_cause_laws.specs.Trees.{HasTooDeep, HasTwo}

-- The rows of a table, each by its fields.
abbrev pub rows_of : List ℕ → List (List (List ℕ))
rows_of bytes = records default_config (strip_bom bytes)

-- No column has one of these names.
abbrev pub HasNone : List (List ℕ) → List (List ℕ) → Type 0
HasNone names columns = (column : List ℕ) → IsIn column columns → is_among names column ≡ false

-- A table has no row, or its first row names neither a column of titles nor one of URLs.
abbrev pub HasNoTitle : List ℕ → Type 0
HasNoTitle bytes = (rows_of bytes ≡ [])
    ⊎ ((names : List (List ℕ)) × (rows : List (List (List ℕ)))
    × (rows_of bytes ≡ names ∷ rows) × HasNone title_names names × HasNone url_names names)

-- The row of this number, from 1, after the one that names the columns.
pub record HasRow (number : ℕ) (bytes : List ℕ) : Type 0 where
  pub names : List (List ℕ)
  pub before : List (List (List ℕ))
  pub row : List (List ℕ)
  pub after : List (List (List ℕ))
  pub rows_are : rows_of bytes ≡ names ∷ (before ++ row ∷ after)
  pub number_is : number ≡ length before + 1

-- The row of this number has another number of fields than the first.
pub record HasOtherWidth (number : ℕ) (bytes : List ℕ) : Type 0 where
  pub at : HasRow number bytes
  pub apart : length at.row ≢ length at.names

-- A text is neither empty nor a time.
abbrev pub IsNoTime : List ℕ → Type 0
IsNoTime text = (text ≢ []) × (iso_time text ≡ None)

-- A time of the row of this number is none.
pub record HasBadTime (number : ℕ) (bytes : List ℕ) : Type 0 where
  pub at : HasRow number bytes
  pub bad : IsNoTime (cell (columns_of at.names).created at.row)
      ⊎ IsNoTime (cell (columns_of at.names).modified at.row)

-- The rows of a table give such a tree at a moment.
pub record GivesTree (is_so : Tree → Type 0) (now : ℕ) (bytes : List ℕ) : Type 0 where
  pub names : List (List ℕ)
  pub rows : List (List (List ℕ))
  pub rows_are : rows_of bytes ≡ names ∷ rows
  pub entries : List ImportedEntry
  pub entries_are : row_entries (table_of now names) 1 rows ≡ Ok entries
  pub so : is_so (document_of now entries).tree

-- The cause of each refusal.
abbrev pub TableCause : TableFail → List ℕ → ℕ → Type 0
TableCause (NotUtf8 len) bytes now = IsValidUpTo bytes len
TableCause ColumnMissing bytes now = HasNoTitle bytes
TableCause (RowWidth number) bytes now = HasOtherWidth number bytes
TableCause (BadTime number) bytes now = HasBadTime number bytes
TableCause (DuplicateId id) bytes now = GivesTree (HasTwo id) now bytes
TableCause (TooDeep id) bytes now = GivesTree (HasTooDeep id) now bytes
TableCause NoMemory bytes now = ⊥

-- A table that is refused has the cause.
abbrev pub TableRefusalsHaveCauses : Type 0
TableRefusalsHaveCauses = (bytes : List ℕ) (now : ℕ) (fail : TableFail)
    → csv_document bytes now ≡ Err fail → TableCause fail bytes now
