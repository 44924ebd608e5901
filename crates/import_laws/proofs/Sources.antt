-- What a source gives at two moments is alike.
use Rattle.std.proofs.Common.{◌≡◌, ℕ, ◌+◌, List, [], ◌∷◌, map, Result, Ok, Err, refl, sym, ap, subst, ◌∙◌}
use Rattle.csv.specs.Reading.{default_config, records, strip_bom}
use Rattle.outside_core.specs.Results.{◌>>=◌}
use Rattle.import_tree.specs.Entries.{ImportedEntry}
use Rattle.import_tree.specs.Outcome.{imported_document, sound_tree}
use Rattle.import_tree.specs.Trees.{document_of, import_root, placed_after, with_all_placed}
use Rattle.import_tree.specs.declared.fails.TreeFail.{TreeFail}
use Rattle.psafe_core.specs.Outcome.{content_outcome, nil_check, nil_record, or_field_form, or_tree_fail, psafe_outcome, records_outcome}
use Rattle.psafe_core.specs.Records.{imported_record, imported_records}
use Rattle.psafe_file.specs.Faults.{sound_fields}
use Rattle.psafe_file.specs.Fields.{SafeField, contents_of, records_of}
use Rattle.psafe_file.specs.Macs.{mac_check}
use Rattle.psafe_file.specs.Opened.{SafeContent, file_mac_key, safe_outcome}
use Rattle.mac_core.specs.Hmac.{hmac}
use Rattle.table_reading.specs.Columns.{columns_of}
use Rattle.table_reading.specs.Documents.{checked_bytes, refuse_untitled, rows_document, table_of}
use Rattle.table_reading.specs.Refusals.{as_table}
use Rattle.table_reading.specs.Rows.{row_entries, row_entry, row_times, timed_entry}
use Rattle.vault_model.specs.Tree.{BareDoc, Tree, child_rows, entry_rows, id_of}
use Rattle.import_laws.specs.Agreement.{Agree, EntriesAgree, SafesAgree, TablesAgree, untimed}
use Rattle.import_laws.proofs.Alike.{IsAlike, alike_agree}
use Rattle.import_laws.proofs.Bare.{bare, bare_children, bare_document, bare_entries, bare_placed, entry_id, id_bare}

-- ---- entries

pub imported_is : (now : ℕ) (es : List ImportedEntry) (d : BareDoc) → imported_document now es ≡ Ok d → document_of now es ≡ d
unfolding imported_document
imported_is now es d is = by (sound_tree (document_of now es).tree) is
  where
    by : (r : Result (Unit {0}) TreeFail) → (r >>= λ _. Ok (document_of now es)) ≡ Ok d → document_of now es ≡ d
    by (Ok u) h = cc h
    by (Err f) h = absurd (cc h)

same_bare : (now later : ℕ) (es fs : List ImportedEntry) → map untimed es ≡ map untimed fs → bare (document_of now es).tree ≡ bare (document_of later fs).tree
same_bare now later es fs same = bare_document now es ∙ ap (λ (l : List ImportedEntry). with_all_placed (map bare_placed (placed_after 0 [] l)) (bare (import_root 0))) same ∙ sym (bare_document later fs)

alike : (now later : ℕ) (es fs : List ImportedEntry) → map untimed es ≡ map untimed fs → IsAlike (document_of now es) (document_of later fs)
alike now later es fs same =
    let t = (document_of now es).tree in
    let u = (document_of later fs).tree in
    let b = same_bare now later es fs same in
    record {
      root = sym (id_bare t) ∙ ap id_of b ∙ id_bare u;
      children = sym (bare_children t) ∙ ap child_rows b ∙ bare_children u;
      entries = sym (bare_entries t) ∙ ap (λ (x : Tree). map entry_id (entry_rows x)) b ∙ bare_entries u;
      no_tombs = (refl, refl);
    }

pub entries_agree : EntriesAgree
entries_agree now later es fs d e same is too one other =
    let a = alike now later es fs same in
    let b = subst (λ (x : BareDoc). IsAlike x (document_of later fs)) (imported_is now es d is) a in
    alike_agree d e one other (subst (λ (x : BareDoc). IsAlike d x) (imported_is later fs e too) b)

-- ---- files of Password Safe

pub then_ok : {A B E : Type 0} (r : Result A E) (next : A → Result B E) (y : B) → (r >>= next) ≡ Ok y → (x : A) × ((r ≡ Ok x) × (next x ≡ Ok y))
then_ok (Ok x) next y h = (x, (refl, h))
then_ok (Err f) next y h = absurd (cc h)

pub same_ok : {A E : Type 0} (r : Result A E) (x y : A) → r ≡ Ok x → r ≡ Ok y → x ≡ y
same_ok r x y h k = cc (sym h ∙ k)

pub tree_ok : (r : Result BareDoc TreeFail) (d : BareDoc) → or_tree_fail r ≡ Ok d → r ≡ Ok d
tree_ok (Ok x) d h = ap (λ (y : BareDoc). let r : Result BareDoc TreeFail = Ok y in r) (cc h)
tree_ok (Err f) d h = absurd (cc h)

untimed_records : (now later : ℕ) (rs : List (List SafeField)) → map untimed (imported_records now rs) ≡ map untimed (imported_records later rs)
untimed_records now later [] = refl
untimed_records now later (r ∷ rs) = ap (λ es. untimed (imported_record now r) ∷ es) (untimed_records now later rs)

records_agree : (rs : List (List SafeField)) (now later : ℕ) (d e : BareDoc) → records_outcome now rs ≡ Ok d → records_outcome later rs ≡ Ok e → Agree d e
unfolding records_outcome
records_agree rs now later d e h k =
    let a = then_ok (nil_check (nil_record 1 rs)) _ d h in
    let b = then_ok (nil_check (nil_record 1 rs)) _ e k in
    entries_agree now later (imported_records now rs) (imported_records later rs) d e (untimed_records now later rs) (tree_ok _ d a.1.1) (tree_ok _ e b.1.1)

content_agree : (key : List ℕ) (content : SafeContent) (now later : ℕ) (d e : BareDoc) → content_outcome key now content ≡ Ok d → content_outcome key later content ≡ Ok e → Agree d e
unfolding content_outcome
content_agree key content now later d e h k =
    let a = then_ok (or_field_form (sound_fields content.bytes)) _ d h in
    let b = then_ok (or_field_form (sound_fields content.bytes)) _ e k in
    let same = same_ok (or_field_form (sound_fields content.bytes)) b.0 a.0 b.1.0 a.1.0 in
    let c = then_ok (mac_check content.mac (hmac key (contents_of a.0))) _ d a.1.1 in
    let f = then_ok (mac_check content.mac (hmac key (contents_of b.0))) _ e b.1.1 in
    records_agree (records_of a.0) now later d e c.1.1 (subst (λ (fs : List SafeField). records_outcome later (records_of fs) ≡ Ok e) same f.1.1)

pub safes_agree : SafesAgree
unfolding psafe_outcome
safes_agree bytes password now later d e h k =
    let a = then_ok (safe_outcome bytes password) _ d h in
    let b = then_ok (safe_outcome bytes password) _ e k in
    let same = same_ok (safe_outcome bytes password) b.0 a.0 b.1.0 a.1.0 in
    content_agree (file_mac_key bytes password) a.0 now later d e a.1.1 (subst (λ (c : SafeContent). content_outcome (file_mac_key bytes password) later c ≡ Ok e) same b.1.1)

-- ---- tables

pub table_ok : (r : Result BareDoc TreeFail) (d : BareDoc) → as_table r ≡ Ok d → r ≡ Ok d
table_ok (Ok x) d h = ap (λ (y : BareDoc). let r : Result BareDoc TreeFail = Ok y in r) (cc h)
table_ok (Err f) d h = absurd (cc h)

pub untimed_row : (now later number : ℕ) (names row : List (List ℕ)) (x y : ImportedEntry) → row_entry (table_of now names) number row ≡ Ok x → row_entry (table_of later names) number row ≡ Ok y → untimed x ≡ untimed y
untimed_row now later number names row x y h k =
    let a = then_ok (row_times (table_of now names) number row) _ x h in
    let b = then_ok (row_times (table_of later names) number row) _ y k in
    let made : timed_entry (columns_of names) a.0 row ≡ x = cc a.1.1 in
    let too : timed_entry (columns_of names) b.0 row ≡ y = cc b.1.1 in
    sym (ap untimed made) ∙ ap untimed too

untimed_rows : (now later number : ℕ) (names : List (List ℕ)) (rows : List (List (List ℕ))) (xs ys : List ImportedEntry)
    → row_entries (table_of now names) number rows ≡ Ok xs → row_entries (table_of later names) number rows ≡ Ok ys → map untimed xs ≡ map untimed ys
untimed_rows now later number names [] xs ys h k =
    let none : [] ≡ xs = cc h in
    let too : [] ≡ ys = cc k in
    sym (ap (map untimed) none) ∙ ap (map untimed) too
untimed_rows now later number names (row ∷ rows) xs ys h k =
    let a = then_ok (row_entry (table_of now names) number row) _ xs h in
    let b = then_ok (row_entry (table_of later names) number row) _ ys k in
    let c = then_ok (row_entries (table_of now names) (number + 1) rows) _ xs a.1.1 in
    let f = then_ok (row_entries (table_of later names) (number + 1) rows) _ ys b.1.1 in
    let first = untimed_row now later number names row a.0 b.0 a.1.0 b.1.0 in
    let rest = untimed_rows now later (number + 1) names rows c.0 f.0 c.1.0 f.1.0 in
    let made : a.0 ∷ c.0 ≡ xs = cc c.1.1 in
    let too : b.0 ∷ f.0 ≡ ys = cc f.1.1 in
    sym (ap (map untimed) made) ∙ ap (λ x. x ∷ map untimed c.0) first ∙ ap (λ l. untimed b.0 ∷ l) rest ∙ ap (map untimed) too

rows_agree : (rows : List (List (List ℕ))) (now later : ℕ) (d e : BareDoc) → rows_document now rows ≡ Ok d → rows_document later rows ≡ Ok e → Agree d e
rows_agree [] now later d e h k = absurd (cc h)
rows_agree (names ∷ rows) now later d e h k =
    let a = then_ok (refuse_untitled (columns_of names).title (columns_of names).url) _ d h in
    let b = then_ok (refuse_untitled (columns_of names).title (columns_of names).url) _ e k in
    let c = then_ok (row_entries (table_of now names) 1 rows) _ d a.1.1 in
    let f = then_ok (row_entries (table_of later names) 1 rows) _ e b.1.1 in
    entries_agree now later c.0 f.0 d e (untimed_rows now later 1 names rows c.0 f.0 c.1.0 f.1.0) (table_ok _ d c.1.1) (table_ok _ e f.1.1)

pub tables_agree : TablesAgree
tables_agree bytes now later d e h k =
    let a = then_ok (checked_bytes bytes) _ d h in
    let b = then_ok (checked_bytes bytes) _ e k in
    rows_agree (records default_config (strip_bom bytes)) now later d e a.1.1 b.1.1
