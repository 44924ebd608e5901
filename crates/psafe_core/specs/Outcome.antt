-- What a file of Password Safe is imported as, or the first reason why it is not.
use Rattle.std.specs.Prelude.{ℕ, Bool, false, ◌+◌, if◌then◌else◌, Option, None, Some, List, [], ◌∷◌, bytes_eq, Result, Ok, Err}
use Rattle.import_tree.specs.Outcome.{imported_document}
use Rattle.import_tree.specs.declared.fails.TreeFail.{TreeFail}
use Rattle.import_tree.specs.declared.fails.TreeFail.TheVariants as tree
use Rattle.mac_core.specs.Hmac.{hmac}
use Rattle.outside_core.specs.Results.{◌>>=◌}
use Rattle.psafe_core.specs.Records.{imported_records, own_id}
use Rattle.psafe_file.specs.Faults.{sound_fields}
use Rattle.psafe_file.specs.Fields.{SafeField, contents_of, records_of}
use Rattle.psafe_file.specs.Macs.{mac_check}
use Rattle.psafe_file.specs.Opened.{SafeContent, file_mac_key, safe_outcome}
use Rattle.psafe_file.specs.declared.fails.PsafeFail.{PsafeFail}
use Rattle.psafe_file.specs.declared.fails.PsafeFail.TheVariants as fail
use Rattle.vault_model.specs.Db.{NodeId, nil_id}
use Rattle.vault_model.specs.Tree.{BareDoc}

-- Fields, or the refusal with the place of their first fault.
abbrev pub or_field_form : Result (List SafeField) ℕ → Result (List SafeField) PsafeFail
or_field_form (Ok fields) = Ok fields
or_field_form (Err place) = Err (fail.FieldForm place)

-- An id is there, and is the nil id.
abbrev pub is_nil : Option NodeId → Bool
is_nil None = false
is_nil (Some id) = bytes_eq id nil_id

-- The number of the first record that has the nil id; the first of these has this number.
abbrev pub nil_record : ℕ → List (List SafeField) → Option ℕ
nil_record number [] = None
nil_record number (r ∷ rs) =
    if is_nil (own_id r) then Some number else nil_record (number + 1) rs

-- No record has the nil id.
abbrev pub nil_check : Option ℕ → Result (Unit {0}) PsafeFail
nil_check None = Ok tt
nil_check (Some number) = Err (fail.NilId number)

-- A refusal of imported entries, as one of the file.
abbrev pub of_tree : TreeFail → PsafeFail
of_tree (tree.DuplicateId id) = fail.DuplicateId id
of_tree (tree.TooDeep id) = fail.TooDeep id
of_tree tree.NoMemory = fail.NoMemory

-- A document, or the refusal of its entries.
abbrev pub or_tree_fail : Result BareDoc TreeFail → Result BareDoc PsafeFail
or_tree_fail (Ok doc) = Ok doc
or_tree_fail (Err refusal) = Err (of_tree refusal)

-- The document of records at a moment.
unfoldable pub records_outcome : ℕ → List (List SafeField) → Result BareDoc PsafeFail
records_outcome now records = do
  _ ← nil_check (nil_record 1 records)
  or_tree_fail (imported_document now (imported_records now records))

-- The document of what a password opened, by the key of its MAC.
unfoldable pub content_outcome : List ℕ → ℕ → SafeContent → Result BareDoc PsafeFail
content_outcome key now content = do
  fields ← or_field_form (sound_fields content.bytes)
  _ ← mac_check content.mac (hmac key (contents_of fields))
  records_outcome now (records_of fields)

-- What a file is imported as under a password, at a moment.
unfoldable pub psafe_outcome : List ℕ → List ℕ → ℕ → Result BareDoc PsafeFail
psafe_outcome bytes password now = do
  content ← safe_outcome bytes password
  content_outcome (file_mac_key bytes password) now content
