-- What a table and a file of Password Safe give at a moment and at a later one.
use Rattle.std.proofs.Common.{◌≡◌, ◌<◌, ◌≤◌, ◌==◌, ℕ, ◌+◌, length, List, [], ◌∷◌, Option, None, Some, Result, Ok, Err, refl, ap, subst, ◌∙◌, arith}
use Rattle.std.specs.Option.{unwrap_or}
use Rattle.csv.specs.Reading.{default_config, records, strip_bom}
use Rattle.import_again_laws.proofs.Later.{OneByOne}
use Rattle.import_again_laws.proofs.Moments.{IsLater, LaterImported, document_later, entry_places}
use Rattle.import_laws.proofs.Sources.{imported_is, same_ok, table_ok, then_ok, tree_ok, untimed_row}
use Rattle.import_tree.specs.Entries.{ImportedEntry}
use Rattle.import_tree.specs.Outcome.{imported_document}
use Rattle.import_tree.specs.Trees.{placed_after}
use Rattle.mac_core.specs.Hmac.{hmac}
use Rattle.outside_core.specs.Results.{◌>>=◌}
use Rattle.psafe_core.specs.Outcome.{content_outcome, nil_check, nil_record, or_field_form, psafe_outcome, records_outcome}
use Rattle.psafe_core.specs.Records.{imported_records, last_of, moment_in, time_of}
use Rattle.psafe_file.specs.Faults.{sound_fields}
use Rattle.psafe_file.specs.Fields.{SafeField, contents_of, records_of}
use Rattle.psafe_file.specs.Kinds.{created_kind, modified_kind}
use Rattle.psafe_file.specs.Macs.{mac_check}
use Rattle.psafe_file.specs.Opened.{SafeContent, file_mac_key, safe_outcome}
use Rattle.table_reading.specs.Cells.{cell}
use Rattle.table_reading.specs.Columns.{columns_of}
use Rattle.table_reading.specs.Documents.{checked_bytes, csv_document, refuse_untitled, rows_document, table_of}
use Rattle.table_reading.specs.Rows.{refuse_width, row_entries, row_entry, row_time, row_times, timed_entry}
use Rattle.vault_model.specs.Tree.{BareDoc}

-- the times of a row, where it has them
times_of : {A F : Type 0} (width : Result (Unit {0}) F) (created modified : Result ℕ F) (make : ℕ → ℕ → A) (times : A)
    → (width >>= λ _. created >>= λ a. modified >>= λ b. let made : Result A F = Ok (make a b) in made) ≡ Ok times
    → (a : ℕ) × (b : ℕ) × (created ≡ Ok a) × (modified ≡ Ok b) × (make a b ≡ times)
times_of (Ok u) (Ok a) (Ok b) make times e = (a, b, refl, refl, cc e)
times_of (Ok u) (Ok a) (Err f) make times e = absurd (cc e)
times_of (Ok u) (Err f) modified make times e = absurd (cc e)
times_of (Err f) created modified make times e = absurd (cc e)

module _ (now later : ℕ) (less : now < later) where
  pub entries_later : (xs ys : List ImportedEntry) → OneByOne LaterImported xs ys → (d e : BareDoc) → imported_document now xs ≡ Ok d → imported_document later ys ≡ Ok e → IsLater d e
  entries_later xs ys h d e one other =
      document_later now later less (placed_after now [] xs) (placed_after later [] ys) (entry_places now later less [] xs ys h) d e (imported_is now xs d one) (imported_is later ys e other)

  -- ---- files of Password Safe

  record_time : (kind : ℕ) (fields : List SafeField) → time_of kind now fields ≤ time_of kind later fields
  record_time kind fields = or_moment (last_of (moment_in kind) fields)
    where
      or_moment : (o : Option ℕ) → unwrap_or o now ≤ unwrap_or o later
      or_moment None = omega (arith, less)
      or_moment (Some time) = omega arith

  records_later : (rs : List (List SafeField)) → OneByOne LaterImported (imported_records now rs) (imported_records later rs)
  records_later [] = tt
  records_later (r ∷ rs) = (record { same = refl; created = record_time created_kind r; modified = record_time modified_kind r }, records_later rs)

  of_records : (rs : List (List SafeField)) (d e : BareDoc) → records_outcome now rs ≡ Ok d → records_outcome later rs ≡ Ok e → IsLater d e
  unfolding records_outcome
  of_records rs d e h k =
      let a = then_ok (nil_check (nil_record 1 rs)) _ d h in
      let b = then_ok (nil_check (nil_record 1 rs)) _ e k in
      entries_later (imported_records now rs) (imported_records later rs) (records_later rs) d e (tree_ok _ d a.1.1) (tree_ok _ e b.1.1)

  of_content : (key : List ℕ) (content : SafeContent) (d e : BareDoc) → content_outcome key now content ≡ Ok d → content_outcome key later content ≡ Ok e → IsLater d e
  unfolding content_outcome
  of_content key content d e h k =
      let a = then_ok (or_field_form (sound_fields content.bytes)) _ d h in
      let b = then_ok (or_field_form (sound_fields content.bytes)) _ e k in
      let same = same_ok (or_field_form (sound_fields content.bytes)) b.0 a.0 b.1.0 a.1.0 in
      let c = then_ok (mac_check content.mac (hmac key (contents_of a.0))) _ d a.1.1 in
      let f = then_ok (mac_check content.mac (hmac key (contents_of b.0))) _ e b.1.1 in
      of_records (records_of a.0) d e c.1.1 (subst (λ (fs : List SafeField). records_outcome later (records_of fs) ≡ Ok e) same f.1.1)

  pub safe_later : (bytes password : List ℕ) (d e : BareDoc) → psafe_outcome bytes password now ≡ Ok d → psafe_outcome bytes password later ≡ Ok e → IsLater d e
  unfolding psafe_outcome
  safe_later bytes password d e h k =
      let a = then_ok (safe_outcome bytes password) _ d h in
      let b = then_ok (safe_outcome bytes password) _ e k in
      let same = same_ok (safe_outcome bytes password) b.0 a.0 b.1.0 a.1.0 in
      of_content (file_mac_key bytes password) a.0 d e a.1.1 (subst (λ (c : SafeContent). content_outcome (file_mac_key bytes password) later c ≡ Ok e) same b.1.1)

  -- ---- tables

  cell_time : (number : ℕ) (text : List ℕ) (a b : ℕ) → row_time now number text ≡ Ok a → row_time later number text ≡ Ok b → a ≤ b
  cell_time number [] a b h k = let one : now ≡ a = cc h in let other : later ≡ b = cc k in omega (arith, one, other, less)
  cell_time number (byte ∷ bytes) a b h k = let same = same_ok (row_time now number (byte ∷ bytes)) a b h k in omega (arith, same)

  row_later : (number : ℕ) (names row : List (List ℕ)) (x y : ImportedEntry) → row_entry (table_of now names) number row ≡ Ok x → row_entry (table_of later names) number row ≡ Ok y → LaterImported x y
  row_later number names row x y h k =
      let columns = columns_of names in
      let width = refuse_width number (length row == length names) in
      let a = then_ok (row_times (table_of now names) number row) _ x h in
      let b = then_ok (row_times (table_of later names) number row) _ y k in
      let p = times_of width (row_time now number (cell columns.created row)) (row_time now number (cell columns.modified row)) _ a.0 a.1.0 in
      let q = times_of width (row_time later number (cell columns.created row)) (row_time later number (cell columns.modified row)) _ b.0 b.1.0 in
      let made : timed_entry columns a.0 row ≡ x = cc a.1.1 in
      let too : timed_entry columns b.0 row ≡ y = cc b.1.1 in
      let one = ap (λ times. timed_entry columns times row) p.4 ∙ made in
      let other = ap (λ times. timed_entry columns times row) q.4 ∙ too in
      let created = cell_time number (cell columns.created row) p.0 q.0 p.2 q.2 in
      let modified = cell_time number (cell columns.modified row) p.1 q.1 p.3 q.3 in
      let c1 : p.0 ≡ x.created = ap (λ (e : ImportedEntry). e.created) one in
      let c2 : q.0 ≡ y.created = ap (λ (e : ImportedEntry). e.created) other in
      let m1 : p.1 ≡ x.modified = ap (λ (e : ImportedEntry). e.modified) one in
      let m2 : q.1 ≡ y.modified = ap (λ (e : ImportedEntry). e.modified) other in
      record { same = untimed_row now later number names row x y h k; created = omega (arith, created, c1, c2); modified = omega (arith, modified, m1, m2) }

  rows_later : (number : ℕ) (names : List (List ℕ)) (rows : List (List (List ℕ))) (xs ys : List ImportedEntry)
      → row_entries (table_of now names) number rows ≡ Ok xs → row_entries (table_of later names) number rows ≡ Ok ys → OneByOne LaterImported xs ys
  rows_later number names [] xs ys h k =
      let none : [] ≡ xs = cc h in
      let too : [] ≡ ys = cc k in
      subst (λ (l : List ImportedEntry). OneByOne LaterImported l ys) none (subst (λ (l : List ImportedEntry). OneByOne LaterImported [] l) too tt)
  rows_later number names (row ∷ rows) xs ys h k =
      let a = then_ok (row_entry (table_of now names) number row) _ xs h in
      let b = then_ok (row_entry (table_of later names) number row) _ ys k in
      let c = then_ok (row_entries (table_of now names) (number + 1) rows) _ xs a.1.1 in
      let f = then_ok (row_entries (table_of later names) (number + 1) rows) _ ys b.1.1 in
      let first = row_later number names row a.0 b.0 a.1.0 b.1.0 in
      let rest = rows_later (number + 1) names rows c.0 f.0 c.1.0 f.1.0 in
      let made : a.0 ∷ c.0 ≡ xs = cc c.1.1 in
      let too : b.0 ∷ f.0 ≡ ys = cc f.1.1 in
      subst (λ (l : List ImportedEntry). OneByOne LaterImported l ys) made
      (subst (λ (l : List ImportedEntry). OneByOne LaterImported (a.0 ∷ c.0) l) too (first, rest))

  of_rows : (rows : List (List (List ℕ))) (d e : BareDoc) → rows_document now rows ≡ Ok d → rows_document later rows ≡ Ok e → IsLater d e
  of_rows [] d e h k = absurd (cc h)
  of_rows (names ∷ rows) d e h k =
      let a = then_ok (refuse_untitled (columns_of names).title (columns_of names).url) _ d h in
      let b = then_ok (refuse_untitled (columns_of names).title (columns_of names).url) _ e k in
      let c = then_ok (row_entries (table_of now names) 1 rows) _ d a.1.1 in
      let f = then_ok (row_entries (table_of later names) 1 rows) _ e b.1.1 in
      entries_later c.0 f.0 (rows_later 1 names rows c.0 f.0 c.1.0 f.1.0) d e (table_ok _ d c.1.1) (table_ok _ e f.1.1)

  pub table_later : (bytes : List ℕ) (d e : BareDoc) → csv_document bytes now ≡ Ok d → csv_document bytes later ≡ Ok e → IsLater d e
  table_later bytes d e h k =
      let a = then_ok (checked_bytes bytes) _ d h in
      let b = then_ok (checked_bytes bytes) _ e k in
      of_rows (records default_config (strip_bom bytes)) d e a.1.1 b.1.1
