-- The entries of rows, gathered one after another.
use Rattle.std.proofs.Common.{◌≡◌, ◌<◌, ◌+◌, ℕ, suc, List, [], ◌∷◌, ◌++◌, Result, Ok, Err, drop, length, map, get_or, append_assoc, append-nil, refl, sym, ap, ◌∙◌, arith}
use Rattle.std.proofs.Math.Seq.{drop-cons}
use Rattle.csv.specs.Records.{Row, fields_of}
use Rattle.import_tree.specs.Entries.{ImportedEntry}
use Rattle.outside_core.specs.Results.{Fails, ◌>>=◌}
use Rattle.table_reading.specs.Refusals.{meaning_of}
use Rattle.table_reading.specs.Rows.{row_entries, row_entry}
use Rattle.table_reading.specs.declared.fails.TableFail.{TableFail}
use Rattle.table_reading.specs.declared.fails.TableFail.TheVariants as fail
use Rattle.table_reading.specs.declared.rows.Table.{Table}

-- what comes after some entries, with them
abbrev pub after_these : List ImportedEntry → Result (List ImportedEntry) TableFail → Result (List ImportedEntry) TableFail
after_these entries r = r >>= λ more. Ok (entries ++ more)

pub none_yet : (r : Result (List ImportedEntry) TableFail) → r ≡ after_these [] r
none_yet (Ok entries) = refl
none_yet (Err e) = refl

one_by_one : (entries : List ImportedEntry) (entry : ImportedEntry) (r : Result (List ImportedEntry) TableFail)
    → after_these entries (r >>= λ more. Ok (entry ∷ more)) ≡ after_these (entries ++ entry ∷ []) r
one_by_one entries entry (Ok more) = ap (λ (l : List ImportedEntry). let r : Result (List ImportedEntry) TableFail = Ok l in r) (sym (append_assoc entries (entry ∷ []) more))
one_by_one entries entry (Err e) = refl

module _ (table : Table) (number : ℕ) (row : List (List ℕ)) (rows : List (List (List ℕ))) (entries : List ImportedEntry) where
  abbrev after : ImportedEntry → Result (List ImportedEntry) TableFail
  after entry = row_entries table (number + 1) rows >>= λ more. Ok (entry ∷ more)

  pub one_more : (entry : ImportedEntry) (new : List ImportedEntry) → row_entry table number row ≡ Ok entry → new ≡ entries ++ entry ∷ []
      → after_these entries (row_entries table number (row ∷ rows)) ≡ after_these new (row_entries table (number + 1) rows)
  one_more entry new is added =
      ap (λ r. after_these entries (r >>= after)) is
      ∙ one_by_one entries entry (row_entries table (number + 1) rows)
      ∙ ap (λ l. after_these l (row_entries table (number + 1) rows)) (sym added)

  fails_on : {A B : Type 0} (e : TableFail) (r : Result A TableFail) (next : A → Result B TableFail) → Fails (meaning_of e) r → Fails (meaning_of e) (r >>= next)
  fails_on (fail.NotUtf8 n) r next h = ap (λ x. x >>= next) h
  fails_on fail.ColumnMissing r next h = ap (λ x. x >>= next) h
  fails_on (fail.RowWidth n) r next h = ap (λ x. x >>= next) h
  fails_on (fail.BadTime n) r next h = ap (λ x. x >>= next) h
  fails_on (fail.DuplicateId id) r next h = ap (λ x. x >>= next) h
  fails_on (fail.TooDeep id) r next h = ap (λ x. x >>= next) h
  fails_on fail.NoMemory r next h = tt

  pub refused : (e : TableFail) → Fails (meaning_of e) (row_entry table number row) → Fails (meaning_of e) (after_these entries (row_entries table number (row ∷ rows)))
  refused e h = fails_on e (row_entry table number row >>= after) (λ more. Ok (entries ++ more)) (fails_on e (row_entry table number row) after h)

pub none_left : (table : Table) (number : ℕ) (entries : List ImportedEntry) → after_these entries (row_entries table number []) ≡ Ok entries
none_left table number entries = ap (λ (l : List ImportedEntry). let r : Result (List ImportedEntry) TableFail = Ok l in r) (append-nil entries)

-- the rows from a place on, the first of them apart
pub row_at : (rows : List Row) (at : ℕ) (row : Row) → at < length rows → row ≡ get_or rows at row → map fields_of (drop at rows) ≡ fields_of row ∷ map fields_of (drop (at + 1) rows)
row_at rows at row less is =
    let next : suc at ≡ at + 1 = omega arith in
    ap (map fields_of) (drop-cons rows at row less)
    ∙ ap (λ r. fields_of r ∷ map fields_of (drop (suc at) rows)) (sym is)
    ∙ ap (λ n. fields_of row ∷ map fields_of (drop n rows)) next
