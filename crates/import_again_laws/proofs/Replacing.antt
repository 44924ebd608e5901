-- The laws of a source that is imported again.
use Rattle.std.proofs.Common.{◌≡◌, ℕ, List, [], ◌∷◌, Option, None, Some, Ok, refl, sym, ap, ◌∙◌}
use Rattle.csv.specs.Reading.{default_config, records, strip_bom}
use Rattle.std.specs.FinMap.{get}
use Rattle.history_laws.proofs.CurrentJoin.{view_entries}
use Rattle.history_laws.proofs.Newest.{currents}
use Rattle.history_laws.specs.Current.{current}
use Rattle.import_again_laws.specs.Again.{LaterReplaces, SafesReplace, TablesReplace}
use Rattle.import_again_laws.proofs.Moments.{IsLater, not_earlier}
use Rattle.import_again_laws.proofs.Replaced.{alike, replaced}
use Rattle.import_again_laws.proofs.Sources.{safe_later, table_later}
use Rattle.import_laws.proofs.Alike.{alike_agree, turned}
use Rattle.import_laws.proofs.Sources.{imported_is, table_ok, then_ok, tree_ok}
use Rattle.import_laws.specs.Agreement.{Agree}
use Rattle.mac_core.specs.Hmac.{hmac}
use Rattle.psafe_core.specs.Outcome.{content_outcome, nil_check, nil_record, or_field_form, psafe_outcome, records_outcome}
use Rattle.psafe_core.specs.Records.{imported_records}
use Rattle.psafe_file.specs.Faults.{sound_fields}
use Rattle.psafe_file.specs.Fields.{SafeField, contents_of, records_of}
use Rattle.psafe_file.specs.Macs.{mac_check}
use Rattle.psafe_file.specs.Opened.{SafeContent, file_mac_key, safe_outcome}
use Rattle.table_reading.specs.Columns.{columns_of}
use Rattle.table_reading.specs.Documents.{checked_bytes, csv_document, refuse_untitled, rows_document, table_of}
use Rattle.table_reading.specs.Rows.{row_entries}
use Rattle.vault_model.specs.Db.{Db, Versions}
use Rattle.vault_model.specs.Join.{join}
use Rattle.vault_model.specs.Tree.{BareDoc, db_in}

-- ---- a later document

some_current : (o : Option Versions) (c : Versions) → currents o ≡ Some c → (all : Versions) × (o ≡ Some all) × (current all ≡ c)
some_current None c e = absurd (cc e)
some_current (Some all) c e = (all, refl, cc e)

pub replaces : (d e : BareDoc) → IsLater d e → LaterReplaces d e
replaces d e l is too =
    let both = db_in d ∷ db_in e ∷ [] in
    let views = replaced d e is too l.tree l.first l.second l.metas in
    record {
      databases = views;
      entries = λ entry versions q.
          some_current (get (join both).entries entry) (current versions)
          (sym (view_entries (join both) entry) ∙ ap (λ (m : Db). get m.entries entry) views ∙ view_entries (db_in e) entry ∙ ap currents q);
    }

pub agree : (d e : BareDoc) → IsLater d e → Agree d e
agree d e l is too = alike_agree d e is too (alike d e is too l.tree l.first l.second l.metas)

pub agree_turned : (d e : BareDoc) → IsLater e d → Agree d e
agree_turned d e l is too = alike_agree d e is too (turned e d (alike e d too is l.tree l.first l.second l.metas))

-- ---- an import has no tombstones

table_bare : (bytes : List ℕ) (now : ℕ) (d : BareDoc) → csv_document bytes now ≡ Ok d → d.tombs ≡ []
table_bare bytes now d h = let a = then_ok (checked_bytes bytes) _ d h in of_rows (records default_config (strip_bom bytes)) a.1.1
  where
    of_rows : (rows : List (List (List ℕ))) → rows_document now rows ≡ Ok d → d.tombs ≡ []
    of_rows [] e = absurd (cc e)
    of_rows (names ∷ rows) e =
        let b = then_ok (refuse_untitled (columns_of names).title (columns_of names).url) _ d e in
        let c = then_ok (row_entries (table_of now names) 1 rows) _ d b.1.1 in
        ap (λ (x : BareDoc). x.tombs) (sym (imported_is now c.0 d (table_ok _ d c.1.1)))

records_bare : (rs : List (List SafeField)) (now : ℕ) (d : BareDoc) → records_outcome now rs ≡ Ok d → d.tombs ≡ []
unfolding records_outcome
records_bare rs now d h =
    let a = then_ok (nil_check (nil_record 1 rs)) _ d h in
    ap (λ (x : BareDoc). x.tombs) (sym (imported_is now (imported_records now rs) d (tree_ok _ d a.1.1)))

content_bare : (key : List ℕ) (content : SafeContent) (now : ℕ) (d : BareDoc) → content_outcome key now content ≡ Ok d → d.tombs ≡ []
unfolding content_outcome
content_bare key content now d h =
    let a = then_ok (or_field_form (sound_fields content.bytes)) _ d h in
    let b = then_ok (mac_check content.mac (hmac key (contents_of a.0))) _ d a.1.1 in
    records_bare (records_of a.0) now d b.1.1

safe_bare : (bytes password : List ℕ) (now : ℕ) (d : BareDoc) → psafe_outcome bytes password now ≡ Ok d → d.tombs ≡ []
unfolding psafe_outcome
safe_bare bytes password now d h = let a = then_ok (safe_outcome bytes password) _ d h in content_bare (file_mac_key bytes password) a.0 now d a.1.1

-- ---- the laws

pub tables_replace : TablesReplace
tables_replace bytes now later d e le h k =
    replaces d e (not_earlier (csv_document bytes) (table_bare bytes) (λ a b less x y i j. table_later a b less bytes x y i j) now later le d e h k)

pub safes_replace : SafesReplace
safes_replace bytes password now later d e le h k =
    replaces d e (not_earlier (psafe_outcome bytes password) (safe_bare bytes password) (λ a b less x y i j. safe_later a b less bytes password x y i j) now later le d e h k)
