-- Why a file of Password Safe is not imported, as what is so of its bytes.
use Rattle.std.specs.Prelude.{◌≡◌, ◌≢◌, ◌⊎◌, ◌+◌, ◌*◌, ◌<◌, ◌≤◌, ℕ, true, false, List, ◌∷◌, ◌++◌, length, take, drop, Some, Err}
use Rattle.sha2.specs.Sha256.{sha256}
use Rattle.mac_core.specs.Hmac.{hmac}
use Rattle.vault_model.specs.Db.{nil_id}
use Rattle.vault_model.specs.Join.{IsIn}
use Rattle.vault_model.specs.Tree.{Tree}
use Rattle.import_tree.specs.Trees.{document_of}
use Rattle.psafe_file.specs.Fields.{SafeField, after_header, contents_of, fields_of, is_ended, records_of}
use Rattle.psafe_file.specs.Keys.{max_iterations, stretched_key}
use Rattle.psafe_file.specs.Kinds.{is_faulty}
use Rattle.psafe_file.specs.Opened.{SafeContent, file_mac_key}
use Rattle.psafe_file.specs.SafeFiles.{SafeFile, end_mark, preamble_len, tag}
use Rattle.psafe_file.specs.SafeForms.{IsOpened, IsSafeFile}
use Rattle.psafe_file.specs.declared.fails.PsafeFail.{PsafeFail}
use Rattle.psafe_file.specs.declared.fails.PsafeFail.TheVariants.{DuplicateId, FieldForm, IterLimit, Mac, NilId, NoMemory, NotPsafe, TooDeep, Truncated, WrongPassword}
use Rattle.psafe_core.specs.Outcome.{psafe_outcome}
use Rattle.psafe_core.specs.Records.{imported_records, own_id}
use Rattle.import_cause_laws.specs.Trees.{HasTooDeep, HasTwo}

-- ---- the parts of a file

-- Bytes do not begin with the tag.
abbrev pub HasNoTag : List ℕ → Type 0
HasNoTag bytes = (rest : List ℕ) → bytes ≢ tag ++ rest

-- Bytes of this length begin with the tag, and none of their blocks is the mark of the end with a
-- whole MAC after it.
pub record HasNoEnd (len : ℕ) (bytes : List ℕ) : Type 0 where
  pub len_is : len ≡ length bytes
  pub rest : List ℕ
  pub begins : bytes ≡ tag ++ rest
  pub unmarked : (k : ℕ) → preamble_len + 16 * k + 48 ≤ length bytes
      → take 16 (drop (16 * k) (drop preamble_len bytes)) ≢ end_mark

-- ---- the key

-- A file asks that its key be hashed again so often, which is more than is done.
pub record AsksTooMuch (count : ℕ) (bytes : List ℕ) : Type 0 where
  pub file : SafeFile
  pub is_file : IsSafeFile bytes file
  pub count_is : count ≡ file.preamble.iterations
  pub more : max_iterations < count

-- A file keeps a hash that is not that of the key which the password gives.
pub record HasWrongKey (bytes password kept found : List ℕ) : Type 0 where
  pub file : SafeFile
  pub is_file : IsSafeFile bytes file
  pub kept_is : kept ≡ file.preamble.check
  pub found_is : found ≡ sha256 (stretched_key password file.preamble)
  pub apart : kept ≢ found

-- ---- the content

-- The fields of a text.
abbrev pub fields_in : List ℕ → List SafeField
fields_in text = (fields_of text).fields

-- A field of a record that begins at this place has not the form of its type.
pub record HasWrongField (place : ℕ) (text : List ℕ) : Type 0 where
  pub field : SafeField
  pub is_there : IsIn field (after_header (fields_in text))
  pub begins : field.offset ≡ place
  pub faulty : is_faulty field.kind field.content ≡ true

-- What is wrong at a place in a text: a field has not its form; a field passes the end; or the
-- header or a record is not ended where the text is.
abbrev pub IsWrongAt : ℕ → List ℕ → Type 0
IsWrongAt place text = HasWrongField place text
    ⊎ (((fields_of text).cut_off ≡ Some place)
    ⊎ ((is_ended (fields_in text) ≡ false) × (place ≡ length text)))

-- A password opens a file whose text is wrong at this place.
pub record HasWrongText (place : ℕ) (bytes password : List ℕ) : Type 0 where
  pub content : SafeContent
  pub opened : IsOpened bytes password content
  pub wrong : IsWrongAt place content.bytes

-- A password opens a file that keeps a MAC which is not that of its fields.
pub record HasWrongMac (bytes password kept found : List ℕ) : Type 0 where
  pub content : SafeContent
  pub opened : IsOpened bytes password content
  pub kept_is : kept ≡ content.mac
  pub found_is : found ≡ hmac (file_mac_key bytes password)
      (contents_of (fields_in content.bytes))
  pub apart : kept ≢ found

-- ---- the records

-- The records of a content.
abbrev pub records_in_content : SafeContent → List (List SafeField)
records_in_content content = records_of (fields_in content.bytes)

-- A password opens a file of which the record of this number, from 1, has the nil id.
pub record HasNilRecord (number : ℕ) (bytes password : List ℕ) : Type 0 where
  pub content : SafeContent
  pub opened : IsOpened bytes password content
  pub before : List (List SafeField)
  pub nil : List SafeField
  pub after : List (List SafeField)
  pub records_are : records_in_content content ≡ before ++ nil ∷ after
  pub number_is : number ≡ length before + 1
  pub is_nil : own_id nil ≡ Some nil_id

-- The tree that the records of a content give at a moment.
abbrev pub tree_of : ℕ → SafeContent → Tree
tree_of now content =
    (document_of now (imported_records now (records_in_content content))).tree

-- A password opens a file whose records give such a tree at a moment.
pub record GivesTree (is_so : Tree → Type 0) (now : ℕ) (bytes password : List ℕ) : Type 0 where
  pub content : SafeContent
  pub opened : IsOpened bytes password content
  pub so : is_so (tree_of now content)

-- ---- the law

-- The cause of each refusal.
abbrev pub SafeCause : PsafeFail → (bytes password : List ℕ) → ℕ → Type 0
SafeCause NotPsafe bytes password now = HasNoTag bytes
SafeCause (Truncated len) bytes password now = HasNoEnd len bytes
SafeCause (IterLimit count) bytes password now = AsksTooMuch count bytes
SafeCause (WrongPassword kept found) bytes password now = HasWrongKey bytes password kept found
SafeCause (FieldForm place) bytes password now = HasWrongText place bytes password
SafeCause (Mac kept found) bytes password now = HasWrongMac bytes password kept found
SafeCause (NilId number) bytes password now = HasNilRecord number bytes password
SafeCause (DuplicateId id) bytes password now = GivesTree (HasTwo id) now bytes password
SafeCause (TooDeep id) bytes password now = GivesTree (HasTooDeep id) now bytes password
SafeCause NoMemory bytes password now = ⊥

-- A file of Password Safe that is refused has the cause.
abbrev pub SafeRefusalsHaveCauses : Type 0
SafeRefusalsHaveCauses = (bytes password : List ℕ) (now : ℕ) (fail : PsafeFail)
    → psafe_outcome bytes password now ≡ Err fail → SafeCause fail bytes password now
