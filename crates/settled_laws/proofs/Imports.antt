-- The documents of imports are in order.
use Rattle.std.proofs.Common.{◌≡◌, ℕ, Bool, true, List, [], ◌∷◌, ◌++◌, Ok, refl, sym, ap, ◌∙◌}
use Rattle.std.specs.List.{list_all}
use Rattle.csv.specs.Reading.{default_config, records, strip_bom}
use Rattle.import_ids.specs.Names.{EntryTexts}
use Rattle.import_laws.proofs.Sources.{imported_is, table_ok, then_ok, tree_ok}
use Rattle.import_tree.proofs.Kept.{entries_kept}
use Rattle.import_tree.specs.Entries.{ImportedEntry, texts_of}
use Rattle.import_tree.specs.Outcome.{imported_document}
use Rattle.import_tree.specs.Trees.{Placed, import_root, placed_after, placed_document, with_all_placed, with_rows}
use Rattle.mac_core.specs.Hmac.{hmac}
use Rattle.psafe_core.specs.Outcome.{content_outcome, nil_check, nil_record, or_field_form, psafe_outcome, records_outcome}
use Rattle.psafe_core.specs.Records.{imported_records}
use Rattle.psafe_file.specs.Faults.{sound_fields}
use Rattle.psafe_file.specs.Fields.{SafeField, contents_of, records_of}
use Rattle.psafe_file.specs.Macs.{mac_check}
use Rattle.psafe_file.specs.Opened.{SafeContent, file_mac_key, safe_outcome}
use Rattle.settled_laws.proofs.Settled.{orderly_is_settled}
use Rattle.settled_laws.specs.Imports.{SafesSettle, TablesSettle}
use Rattle.settled_laws.specs.Settled.{is_orderly, is_orderly_entry}
use Rattle.table_reading.specs.Columns.{columns_of}
use Rattle.table_reading.specs.Documents.{checked_bytes, refuse_untitled, rows_document, table_of}
use Rattle.table_reading.specs.Rows.{row_entries}
use Rattle.vault_model.specs.Db.{NodeId}
use Rattle.vault_model.specs.Shape.{EntryRecord}
use Rattle.vault_model.specs.Tree.{BareDoc, Tree, entry_rows}

abbrev pub are_orderly : List (NodeId × EntryRecord) → Bool
are_orderly rows = list_all (λ (r : NodeId × EntryRecord). is_orderly_entry r.1) rows

-- what is put at places is in order
abbrev pub OrderlyPlaces : List Placed → Type 0
OrderlyPlaces [] = Unit {0}
OrderlyPlaces (p ∷ ps) = (are_orderly p.rows ≡ true) × OrderlyPlaces ps

tree_orderly : (ps : List Placed) (t : Tree) → OrderlyPlaces ps → are_orderly (entry_rows t) ≡ true → are_orderly (entry_rows (with_all_placed ps t)) ≡ true
tree_orderly [] t places all = all
tree_orderly (p ∷ ps) t places all =
    tree_orderly ps (with_rows p.now p.names p.rows t) places.1
    (entries_kept p.now p.rows (λ (r : NodeId × EntryRecord). is_orderly_entry r.1) places.0 p.names t all)

pub placed_orderly : (now : ℕ) (ps : List Placed) → OrderlyPlaces ps → is_orderly (placed_document now ps) ≡ true
placed_orderly now ps places = tree_orderly ps (import_root now) places refl

-- ---- entries that have no history

places_orderly : (now : ℕ) (before : List EntryTexts) (es : List ImportedEntry) → OrderlyPlaces (placed_after now before es)
places_orderly now before [] = tt
places_orderly now before (e ∷ es) = (refl, places_orderly now (before ++ texts_of e ∷ []) es)

entries_orderly : (now : ℕ) (es : List ImportedEntry) (d : BareDoc) → imported_document now es ≡ Ok d → is_orderly d ≡ true
entries_orderly now es d h = ap is_orderly (sym (imported_is now es d h)) ∙ placed_orderly now (placed_after now [] es) (places_orderly now [] es)

-- ---- tables

rows_orderly : (rows : List (List (List ℕ))) (now : ℕ) (d : BareDoc) → rows_document now rows ≡ Ok d → is_orderly d ≡ true
rows_orderly [] now d h = absurd (cc h)
rows_orderly (names ∷ rows) now d h =
    let a = then_ok (refuse_untitled (columns_of names).title (columns_of names).url) _ d h in
    let c = then_ok (row_entries (table_of now names) 1 rows) _ d a.1.1 in
    entries_orderly now c.0 d (table_ok _ d c.1.1)

pub tables_settle : TablesSettle
tables_settle bytes now d h is =
    let a = then_ok (checked_bytes bytes) _ d h in
    orderly_is_settled d is (rows_orderly (records default_config (strip_bom bytes)) now d a.1.1)

-- ---- files of Password Safe

records_orderly : (rs : List (List SafeField)) (now : ℕ) (d : BareDoc) → records_outcome now rs ≡ Ok d → is_orderly d ≡ true
unfolding records_outcome
records_orderly rs now d h =
    let a = then_ok (nil_check (nil_record 1 rs)) _ d h in
    entries_orderly now (imported_records now rs) d (tree_ok _ d a.1.1)

content_orderly : (key : List ℕ) (content : SafeContent) (now : ℕ) (d : BareDoc) → content_outcome key now content ≡ Ok d → is_orderly d ≡ true
unfolding content_outcome
content_orderly key content now d h =
    let a = then_ok (or_field_form (sound_fields content.bytes)) _ d h in
    let c = then_ok (mac_check content.mac (hmac key (contents_of a.0))) _ d a.1.1 in
    records_orderly (records_of a.0) now d c.1.1

pub safes_settle : SafesSettle
unfolding psafe_outcome
safes_settle bytes password now d h is =
    let a = then_ok (safe_outcome bytes password) _ d h in
    orderly_is_settled d is (content_orderly (file_mac_key bytes password) a.0 now d a.1.1)
