-- Refusals to import a table have their causes.
use Rattle.std.proofs.Common.{◌≡◌, ◌⊎◌, ◌+◌, ◌<◌, ◌≤◌, ℕ, zero, suc, Bool, true, false, inl, inr, cond, List, [], ◌∷◌, ◌++◌, length, take, Option, None, Some, Result, Ok, Err, nat_le, refl, sym, ap, subst, ◌∙◌, arith}
use Rattle.std.specs.Prelude.{◌==◌}
use Rattle.std.specs.Option.{ok_or}
use Rattle.std.specs.Str.{IsValidUpTo, is_utf8}
use Rattle.std.specs.Str.Lossy.{utf8_valid_len, valid_len_up_to}
use Rattle.std.proofs.lemmas.Bool.{eqb-false, eqb-true, leb-false, leb-true}
use Rattle.std.proofs.lemmas.List.{take_all}
use Rattle.std.proofs.lemmas.Str.{IsUtf8-from_is_utf8, is_utf8-from_IsUtf8}
use Rattle.vault_model.specs.Tree.{BareDoc}
use Rattle.vault_model.proofs.Tests.{apart}
use Rattle.import_tree.specs.Entries.{ImportedEntry}
use Rattle.import_tree.specs.Outcome.{imported_document}
use Rattle.import_tree.specs.Trees.{document_of}
use Rattle.import_tree.specs.declared.fails.TreeFail.{TreeFail}
use Rattle.import_tree.specs.declared.fails.TreeFail.TheVariants as tree
use Rattle.table_reading.specs.Cells.{cell, time_of}
use Rattle.table_reading.specs.Columns.{columns_of, is_among, place_after, place_of, title_names, url_names}
use Rattle.table_reading.specs.Documents.{csv_document, refuse_bytes, refuse_untitled, rows_document, table_document, table_of}
use Rattle.table_reading.specs.Refusals.{as_table, of_tree}
use Rattle.table_reading.specs.Rows.{refuse_width, row_entries, row_entry, row_time, row_times}
use Rattle.table_reading.specs.declared.fails.TableFail.{TableFail}
use Rattle.table_reading.specs.declared.fails.TableFail.TheVariants as fail
use Rattle.import_cause_laws.specs.TableCauses.{HasNone, HasRow, IsNoTime, TableCause, TableRefusalsHaveCauses, rows_of}
use Rattle.import_cause_laws.proofs.TreeRefusals.{TreeCause, refused_at, same_fail, tree_refusals}

-- ---- bytes that are no text

-- Up to a length, the first bytes are a text, and no more of them are.
record UpTo (bytes : List ℕ) (n m : ℕ) : Type 0 where
  front : is_utf8 (take n bytes) ≡ true
  longest : (k : ℕ) → n < k → k ≤ m → is_utf8 (take k bytes) ≡ false
  within : n ≤ m

no_bytes : is_utf8 [] ≡ true
no_bytes = is_utf8-from_IsUtf8 [] ([], (refl, refl))

up_to : (bytes : List ℕ) (m : ℕ) → UpTo bytes (valid_len_up_to bytes m) m
up_to bytes zero = record { front = no_bytes; longest = λ k above below. absurd (omega (arith, above, below)); within = omega arith }
up_to bytes (suc m) = by (up_to bytes m) (is_utf8 (take (suc m) bytes)) refl
  where
    by : UpTo bytes (valid_len_up_to bytes m) m → (b : Bool) → is_utf8 (take (suc m) bytes) ≡ b → UpTo bytes (cond b (suc m) (valid_len_up_to bytes m)) (suc m)
    by rest true e = record { front = e; longest = λ k above below. absurd (omega (arith, above, below)); within = omega arith }
    by rest false e =
        let within = rest.within in
        record { front = rest.front; longest = λ k above below. at rest k above (k == suc m) refl below; within = omega (arith, within) }
      where
        at : UpTo bytes (valid_len_up_to bytes m) m → (k : ℕ) → valid_len_up_to bytes m < k → (b : Bool) → (k == suc m) ≡ b → k ≤ suc m → is_utf8 (take k bytes) ≡ false
        at rest k above true same below = ap (λ n. is_utf8 (take n bytes)) (eqb-true k (suc m) same) ∙ e
        at rest k above false other below =
            let differ = eqb-false k (suc m) other in
            rest.longest k above (less k m differ below)
          where
            less : (j n : ℕ) → (j ≡ suc n → ⊥) → j ≤ suc n → j ≤ n
            less j n differ most = omega (arith, differ, most)

no_text : (bytes : List ℕ) → is_utf8 bytes ≡ false → IsValidUpTo bytes (utf8_valid_len bytes)
unfolding utf8_valid_len
no_text bytes off =
    let up = up_to bytes (length bytes) in
    record {
      short = short up (valid_len_up_to bytes (length bytes) == length bytes) refl;
      front = IsUtf8-from_is_utf8 (take (valid_len_up_to bytes (length bytes)) bytes) up.front;
      longest = λ m above is. apart (is_utf8 (take m bytes)) (is_utf8-from_IsUtf8 (take m bytes) is) (longer up m above (nat_le m (length bytes)) refl);
    }
  where
    Up : Type 0
    Up = UpTo bytes (valid_len_up_to bytes (length bytes)) (length bytes)

    whole : (n : ℕ) → length bytes ≤ n → is_utf8 (take n bytes) ≡ false
    whole n most = ap is_utf8 (take_all n bytes most) ∙ off

    short : Up → (b : Bool) → (valid_len_up_to bytes (length bytes) == length bytes) ≡ b → valid_len_up_to bytes (length bytes) < length bytes
    short up true same =
        let eq = eqb-true (valid_len_up_to bytes (length bytes)) (length bytes) same in
        apart (is_utf8 (take (valid_len_up_to bytes (length bytes)) bytes)) up.front (whole (valid_len_up_to bytes (length bytes)) (omega (arith, eq)))
    short up false other =
        let differ = eqb-false (valid_len_up_to bytes (length bytes)) (length bytes) other in
        let within = up.within in
        omega (arith, differ, within)

    longer : Up → (m : ℕ) → valid_len_up_to bytes (length bytes) < m → (b : Bool) → nat_le m (length bytes) ≡ b → is_utf8 (take m bytes) ≡ false
    longer up m above true most = up.longest m above (leb-true m (length bytes) most)
    longer up m above false more = let over = leb-false m (length bytes) more in whole m (omega (arith, over))

-- ---- columns

some_place : {B : Type 0} (first : Option ℕ) (place : ℕ) → place_after first (Some place) ≡ None → B
some_place first place h = cc h

no_place : {B : Type 0} (x : ℕ) → Some x ≡ None → B
no_place x h = cc h

unnamed : (names : List (List ℕ)) (columns : List (List ℕ)) → place_of names columns ≡ None → HasNone names columns
unnamed names [] h column there = absurd there
unnamed names (c ∷ cs) h column there = by (unnamed names cs) (place_of names cs) refl h
  where
    here : (b : Bool) → is_among names c ≡ b → cond {A = Option ℕ} b (Some 0) None ≡ None → HasNone names cs → is_among names column ≡ false
    here true e k later = no_place 0 k
    here false e k later = elim there [ inl same ↦ ap (is_among names) (sym same) ∙ e | inr in_rest ↦ later column in_rest ]

    by : (place_of names cs ≡ None → HasNone names cs) → (o : Option ℕ) → place_of names cs ≡ o → place_after (cond {A = Option ℕ} (is_among names c) (Some 0) None) o ≡ None → is_among names column ≡ false
    by later (Some place) is k = some_place (cond {A = Option ℕ} (is_among names c) (Some 0) None) place k
    by later None is k = here (is_among names c) refl k (later is)

-- ---- rows

-- A row with this number among rows that are numbered from here on.
record At (first : ℕ) (rows : List (List (List ℕ))) (number : ℕ) : Type 0 where
  before : List (List (List ℕ))
  row : List (List ℕ)
  after : List (List (List ℕ))
  rows_are : rows ≡ before ++ row ∷ after
  number_is : number ≡ first + length before

-- The row whose entry is refused so.
record Refused (now : ℕ) (names : List (List ℕ)) (first : ℕ) (rows : List (List (List ℕ))) (why : TableFail) : Type 0 where
  number : ℕ
  at : At first rows number
  refused : row_entry (table_of now names) number at.row ≡ Err why

refused_row : (now : ℕ) (names : List (List ℕ)) (first : ℕ) (rows : List (List (List ℕ))) (why : TableFail) → row_entries (table_of now names) first rows ≡ Err why → Refused now names first rows why
refused_row now names first [] why h = cc h
refused_row now names first (row ∷ rows) why h = elim (refused_at (row_entry (table_of now names) first row) _ why h) [
  | inl a ↦ record { number = first; at = record { before = []; row = row; after = rows; rows_are = refl; number_is = omega arith }; refused = a }
  | inr a ↦ elim (refused_at (row_entries (table_of now names) (first + 1) rows) _ why a.1.1) [
    | inl b ↦ later (refused_row now names (first + 1) rows why b)
    | inr b ↦ cc b.1.1
  ]
]
  where
    later : Refused now names (first + 1) rows why → Refused now names first (row ∷ rows) why
    later r =
        let is = r.at.number_is in
        record {
          number = r.number;
          at = record { before = row ∷ r.at.before; row = r.at.row; after = r.at.after; rows_are = ap (λ rs. row ∷ rs) r.at.rows_are; number_is = counted is };
          refused = r.refused;
        }
      where
        counted : r.number ≡ first + 1 + length r.at.before → r.number ≡ first + suc (length r.at.before)
        counted is = omega (arith, is)

no_time : (now : ℕ) (text : List ℕ) → time_of now text ≡ None → IsNoTime text
no_time now [] h = cc h
no_time now (b ∷ bs) h = (λ none. cc none, h)

-- ---- the whole table

module _ (bytes : List ℕ) (now : ℕ) (why : TableFail) where
  abbrev Cause : TableFail → Type 0
  Cause f = TableCause f bytes now

  is_so : (f : TableFail) → f ≡ why → Cause f → Cause why
  is_so f same c = subst (λ (g : TableFail). Cause g) same c

  module _ (names : List (List ℕ)) (rows : List (List (List ℕ))) (are : rows_of bytes ≡ names ∷ rows) where
    abbrev has_row : (number : ℕ) → At 1 rows number → HasRow number bytes
    has_row number at =
        let is = at.number_is in
        record { names = names; before = at.before; row = at.row; after = at.after; rows_are = are ∙ ap (λ rs. names ∷ rs) at.rows_are; number_is = omega (arith, is) }

    module _ (number : ℕ) (at : At 1 rows number) where
      in_width : (b : Bool) → (length at.row == length names) ≡ b → refuse_width number b ≡ Err why → Cause why
      in_width true same h = cc h
      in_width false other h = is_so (fail.RowWidth number) (same_fail (fail.RowWidth number) why h) (record { at = has_row number at; apart = eqb-false (length at.row) (length names) other })

      in_time : (text : List ℕ) → (IsNoTime text → IsNoTime (cell (columns_of names).created at.row) ⊎ IsNoTime (cell (columns_of names).modified at.row)) → (o : Option ℕ) → time_of now text ≡ o → ok_or o (fail.BadTime number) ≡ Err why → Cause why
      in_time text which (Some time) is h = cc h
      in_time text which None is h = is_so (fail.BadTime number) (same_fail (fail.BadTime number) why h) (record { at = has_row number at; bad = which (no_time now text is) })

      in_row : row_entry (table_of now names) number at.row ≡ Err why → Cause why
      in_row h = elim (refused_at (row_times (table_of now names) number at.row) _ why h) [
        | inl a ↦ elim (refused_at (refuse_width number (length at.row == length names)) _ why a) [
          | inl b ↦ in_width (length at.row == length names) refl b
          | inr b ↦ elim (refused_at (row_time now number (cell (columns_of names).created at.row)) _ why b.1.1) [
            | inl c ↦ in_time (cell (columns_of names).created at.row) (λ bad. inl bad) (time_of now (cell (columns_of names).created at.row)) refl c
            | inr c ↦ elim (refused_at (row_time now number (cell (columns_of names).modified at.row)) _ why c.1.1) [
              | inl d ↦ in_time (cell (columns_of names).modified at.row) (λ bad. inr bad) (time_of now (cell (columns_of names).modified at.row)) refl d
              | inr d ↦ cc d.1.1
            ]
          ]
        ]
        | inr a ↦ cc a.1.1
      ]

    in_tree : (entries : List ImportedEntry) → row_entries (table_of now names) 1 rows ≡ Ok entries → (r : Result BareDoc TreeFail) → imported_document now entries ≡ r → as_table r ≡ Err why → Cause why
    in_tree entries taken (Ok doc) is h = cc h
    in_tree entries taken (Err f) is h = is_so (of_tree f) (same_fail (of_tree f) why h) (of f (tree_refusals now entries f is))
      where
        of : (f : TreeFail) → TreeCause f (document_of now entries).tree → Cause (of_tree f)
        of (tree.DuplicateId id) c = record { names = names; rows = rows; rows_are = are; entries = entries; entries_are = taken; so = c }
        of (tree.TooDeep id) c = record { names = names; rows = rows; rows_are = are; entries = entries; entries_are = taken; so = c }
        of tree.NoMemory c = c

    in_table : table_document (table_of now names) rows ≡ Err why → Cause why
    in_table h = elim (refused_at (row_entries (table_of now names) 1 rows) _ why h) [
      | inl a ↦ let r = refused_row now names 1 rows why a in in_row r.number r.at r.refused
      | inr a ↦ in_tree a.0 a.1.0 (imported_document now a.0) refl a.1.1
    ]

    in_title : (o p : Option ℕ) → place_of title_names names ≡ o → place_of url_names names ≡ p → refuse_untitled o p ≡ Err why → Cause why
    in_title (Some place) p is at h = cc h
    in_title None (Some place) is at h = cc h
    in_title None None is at h = is_so fail.ColumnMissing (same_fail fail.ColumnMissing why h) (inr (names, rows, are, unnamed title_names names is, unnamed url_names names at))

  in_rows : (rows : List (List (List ℕ))) → rows_of bytes ≡ rows → rows_document now rows ≡ Err why → Cause why
  in_rows [] are h = is_so fail.ColumnMissing (same_fail fail.ColumnMissing why h) (inl are)
  in_rows (names ∷ rows) are h = elim (refused_at (refuse_untitled (columns_of names).title (columns_of names).url) _ why h) [
    | inl a ↦ in_title names rows are (place_of title_names names) (place_of url_names names) refl refl a
    | inr a ↦ in_table names rows are a.1.1
  ]

  in_text : (b : Bool) → is_utf8 bytes ≡ b → refuse_bytes bytes b ≡ Err why → Cause why
  in_text true is h = cc h
  in_text false is h = is_so (fail.NotUtf8 (utf8_valid_len bytes)) (same_fail (fail.NotUtf8 (utf8_valid_len bytes)) why h) (no_text bytes is)

  in_bytes : csv_document bytes now ≡ Err why → Cause why
  in_bytes h = elim (refused_at (refuse_bytes bytes (is_utf8 bytes)) _ why h) [
    | inl a ↦ in_text (is_utf8 bytes) refl a
    | inr a ↦ in_rows (rows_of bytes) refl a.1.1
  ]

pub table_refusals_have_causes : TableRefusalsHaveCauses
table_refusals_have_causes bytes now why h = in_bytes bytes now why h
