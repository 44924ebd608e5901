-- Exports of Bitwarden: what bytes are one, or the first reason why they are not.
use Rattle.std.specs.Prelude.{ℕ, ◌+◌, Bool, true, false, not, if◌then◌else◌, List, Option, None, Some, Result, Ok, Err, codes, option_and_then, option_map, position}
use Rattle.std.specs.Option.{ok_or}
use Rattle.std.specs.Str.{is_utf8}
use Rattle.outside_core.specs.Results.{◌>>=◌}
use Rattle.serde_json.specs.Data.{Data}
use Rattle.serde_json.specs.Find.{as_bool, get}
use Rattle.serde_json.specs.Read.{read}
use Rattle.bitwarden_forms.specs.Json.{values}
use Rattle.bitwarden_forms.specs.Kinds.{fits, holds, is_folder, is_item, is_list, is_not_nil, is_object}
use Rattle.bitwarden_forms.specs.declared.fails.BitwardenFail.{BitwardenFail}
use Rattle.bitwarden_forms.specs.declared.fails.BitwardenFail.TheVariants as fail

-- the value that bytes are in JSON
abbrev pub json_of : List ℕ → Result Data BitwardenFail
json_of bytes = if is_utf8 bytes then ok_or (read bytes) fail.JsonForm else Err fail.JsonForm

-- an export is an object
abbrev pub refuse_other : Bool → Result (Unit {0}) BitwardenFail
refuse_other true = Ok tt
refuse_other false = Err fail.JsonForm

-- an export says that it is encrypted
abbrev pub is_encrypted : Data → Bool
is_encrypted value = holds (λ b. b) (option_and_then as_bool (get (codes "encrypted") value))

-- an export is not encrypted
abbrev pub refuse_encrypted : Bool → Result (Unit {0}) BitwardenFail
refuse_encrypted true = Err fail.Encrypted
refuse_encrypted false = Ok tt

-- the number from 1 of the first of some values that is not of a kind
abbrev pub first_other : (Data → Bool) → List Data → Option ℕ
first_other kind values =
    option_map (λ at. at + 1) (position (λ value. not (kind value)) values)

-- the number from 1 of the first value of a list that is not of a kind; 0 where the member is no list
abbrev pub fault_in : (Data → Bool) → List ℕ → Data → Option ℕ
fault_in kind name value =
    if fits is_list name value then first_other kind (values name (Some value)) else Some 0

-- there is no fault; else it is refused by its number
abbrev pub refuse : (ℕ → BitwardenFail) → Option ℕ → Result (Unit {0}) BitwardenFail
refuse refusal None = Ok tt
refuse refusal (Some number) = Err (refusal number)

-- the folders of an export
abbrev pub folders_in : Data → List Data
folders_in value = values (codes "folders") (Some value)

-- the items of an export
abbrev pub items_in : Data → List Data
items_in value = values (codes "items") (Some value)

-- a value is an export, whose folders and items are as they have to be
abbrev pub refuse_export : Data → Result (Unit {0}) BitwardenFail
refuse_export value = do
  _ ← refuse_other (is_object value)
  _ ← refuse_encrypted (is_encrypted value)
  _ ← refuse fail.FolderForm (fault_in is_folder (codes "folders") value)
  _ ← refuse fail.Member (fault_in (is_item (folders_in value)) (codes "items") value)
  refuse fail.NilId (first_other is_not_nil (items_in value))

-- The export that bytes are, or the first reason why they are none.
abbrev pub export_of : List ℕ → Result Data BitwardenFail
export_of bytes = do
  value ← json_of bytes
  _ ← refuse_export value
  Ok value
