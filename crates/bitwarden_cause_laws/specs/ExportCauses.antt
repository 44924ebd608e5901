-- Why an export of Bitwarden is not imported, as what is so of its bytes.
use Rattle.std.specs.Prelude.{◌≡◌, ◌≢◌, ◌⊎◌, ◌+◌, ◌<◌, ◌≤◌, ℕ, true, List, ◌∷◌, ◌++◌, length, codes, None, Some, Ok, Err}
use Rattle.std.specs.Str.{IsUtf8}
use Rattle.bitwarden_core.specs.Documents.{bitwarden_document}
use Rattle.bitwarden_core.specs.Placing.{export_places}
use Rattle.bitwarden_forms.specs.Exports.{folders_in}
use Rattle.bitwarden_forms.specs.Json.{values}
use Rattle.bitwarden_forms.specs.Kinds.{given_id}
use Rattle.bitwarden_forms.specs.declared.fails.BitwardenFail.{BitwardenFail}
use Rattle.bitwarden_forms.specs.declared.fails.BitwardenFail.TheVariants.{DuplicateId, Encrypted, FolderForm, JsonForm, Member, NilId, NoMemory, StampLimit, TooDeep}
use Rattle.bitwarden_items.specs.Versions.{modified_at}
use Rattle.import_tree.specs.Trees.{Placed, placed_document}
use Rattle.serde_json.specs.Data.{Data, boolean}
use Rattle.serde_json.specs.Find.{get}
use Rattle.serde_json.specs.Read.{read}
use Rattle.time_core.specs.Times.{last_stamp}
use Rattle.vault_model.specs.Db.{nil_id}
use Rattle.vault_model.specs.Join.{IsIn}
use Rattle.vault_model.specs.Tree.{Tree}
use Rattle.import_cause_laws.specs.Trees.{HasTooDeep, HasTwo}
use Rattle.bitwarden_cause_laws.specs.OtherKinds.{HasOther, IsNoFolder, IsNoItem, IsNoList, IsNoObject}

-- ---- what bytes say

-- Bytes are UTF-8, and this value in JSON.
pub record IsJson (bytes : List ℕ) (value : Data) : Type 0 where
  pub is_text : IsUtf8 bytes
  pub is_read : read bytes ≡ Some value

-- Bytes are no UTF-8, no JSON or no object.
abbrev pub SaysNoObject : List ℕ → Type 0
SaysNoObject bytes = (IsUtf8 bytes → ⊥)
    ⊎ ((read bytes ≡ None) ⊎ ((value : Data) × IsJson bytes value × IsNoObject value))

-- Bytes say that they are encrypted.
abbrev pub SaysEncrypted : List ℕ → Type 0
SaysEncrypted bytes = (value : Data) × IsJson bytes value
    × (get (codes "encrypted") value ≡ Some (boolean true))

-- The member of this name in bytes is there, not null and no list.
abbrev pub SaysNoList : List ℕ → List ℕ → Type 0
SaysNoList name bytes = (value : Data) × IsJson bytes value × HasOther IsNoList name value

-- The element of this number, from 1, in the list of this name in bytes.
pub record HasElement (name : List ℕ) (number : ℕ) (bytes : List ℕ) : Type 0 where
  pub value : Data
  pub is_json : IsJson bytes value
  pub before : List Data
  pub element : Data
  pub after : List Data
  pub elements_are : values name (Some value) ≡ before ++ element ∷ after
  pub number_is : number ≡ length before + 1

-- ---- folders and items

-- The folder of this number, from 1, is the first that is none.
pub record HasOtherFolder (number : ℕ) (bytes : List ℕ) : Type 0 where
  pub at : HasElement (codes "folders") number bytes
  pub is_none : IsNoFolder at.element
  pub earlier : (folder : Data) → IsIn folder at.before → IsNoFolder folder → ⊥

-- The item of this number, from 1, is the first that is none.
pub record HasOtherItem (number : ℕ) (bytes : List ℕ) : Type 0 where
  pub at : HasElement (codes "items") number bytes
  pub is_none : IsNoItem (folders_in at.value) at.element
  pub earlier : (item : Data) → IsIn item at.before → IsNoItem (folders_in at.value) item → ⊥

-- The item of this number, from 1, is the first whose id is nil.
pub record HasNilItem (number : ℕ) (bytes : List ℕ) : Type 0 where
  pub at : HasElement (codes "items") number bytes
  pub is_nil : given_id at.element ≡ Some nil_id
  pub earlier : (item : Data) → IsIn item at.before → given_id item ≢ Some nil_id

-- What is wrong with the folders of bytes: for 0 they are no list; else the folder of this number,
-- from 1, is none.
abbrev pub FolderFault : ℕ → List ℕ → Type 0
FolderFault number bytes =
    ((number ≡ 0) × SaysNoList (codes "folders") bytes) ⊎ HasOtherFolder number bytes

-- What is wrong with the items of bytes, in the same way.
abbrev pub ItemFault : ℕ → List ℕ → Type 0
ItemFault number bytes =
    ((number ≡ 0) × SaysNoList (codes "items") bytes) ⊎ HasOtherItem number bytes

-- ---- the document

-- The current version of an item would be modified at this time, after the last second of the year
-- 9999, and that of none before it so late.
pub record HasLateItem (time now : ℕ) (bytes : List ℕ) : Type 0 where
  pub number : ℕ
  pub at : HasElement (codes "items") number bytes
  pub time_is : time ≡ modified_at now at.element
  pub late : last_stamp < time
  pub earlier : (item : Data) → IsIn item at.before → modified_at now item ≤ last_stamp

-- The folders and items of bytes give such a tree at a moment.
pub record GivesTree (is_so : Tree → Type 0) (now : ℕ) (bytes : List ℕ) : Type 0 where
  pub value : Data
  pub is_json : IsJson bytes value
  pub places : List Placed
  pub places_are : export_places now value ≡ Ok places
  pub so : is_so (placed_document now places).tree

-- ---- the law

-- The cause of each refusal.
abbrev pub ExportCause : BitwardenFail → List ℕ → ℕ → Type 0
ExportCause JsonForm bytes now = SaysNoObject bytes
ExportCause Encrypted bytes now = SaysEncrypted bytes
ExportCause (FolderForm number) bytes now = FolderFault number bytes
ExportCause (Member number) bytes now = ItemFault number bytes
ExportCause (NilId number) bytes now = HasNilItem number bytes
ExportCause (StampLimit time) bytes now = HasLateItem time now bytes
ExportCause (DuplicateId id) bytes now = GivesTree (HasTwo id) now bytes
ExportCause (TooDeep id) bytes now = GivesTree (HasTooDeep id) now bytes
ExportCause NoMemory bytes now = ⊥

-- An export of Bitwarden that is refused has the cause.
abbrev pub ExportRefusalsHaveCauses : Type 0
ExportRefusalsHaveCauses = (bytes : List ℕ) (now : ℕ) (fail : BitwardenFail)
    → bitwarden_document bytes now ≡ Err fail → ExportCause fail bytes now
