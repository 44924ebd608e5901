-- The entry that a record of Password Safe gives: what its fields say (formatV3.txt, section 3.3).
use Rattle.std.specs.Prelude.{ℕ, ◌==◌, ◌&&◌, Bool, true, false, if◌then◌else◌, Option, None, Some, List, [], ◌∷◌, length, map}
use Rattle.std.specs.List.{filter}
use Rattle.std.specs.Option.{option_or, unwrap_or}
use Rattle.std.specs.Str.{is_utf8}
use Rattle.import_tree.specs.Entries.{ImportedEntry}
use Rattle.psafe_file.specs.Fields.{SafeField}
use Rattle.psafe_file.specs.Kinds.{created_kind, group_kind, history_kind, id_kind, modified_kind, moment_of, notes_kind, password_kind, title_kind, url_kind, user_kind}
use Rattle.vault_model.specs.Db.{NodeId}

-- What the last field says of those that say something.
abbrev pub last_of : {A : Type 0} → (SafeField → Option A) → List SafeField → Option A
last_of saying [] = None
last_of saying (field ∷ fields) = option_or (last_of saying fields) (saying field)

-- The text that a field of this type says. One that is not UTF-8 was refused before.
abbrev pub text_in : ℕ → SafeField → Option (List ℕ)
text_in kind field =
    if (field.kind == kind) && is_utf8 field.content then Some field.content else None

-- The moment that a field of this type says. One of another length than 4, 5 or 8 bytes is passed
-- over, and one after the year 9999 was refused before.
abbrev pub moment_in : ℕ → SafeField → Option ℕ
moment_in kind field = if field.kind == kind then moment_of field.content else None

-- The id that a field says. One that has not 16 bytes was refused before.
abbrev pub id_in : SafeField → Option NodeId
id_in field =
    if (field.kind == id_kind) && (length field.content == 16) then Some field.content else None

-- A text of a record, empty where it has none.
abbrev pub text_of : ℕ → List SafeField → List ℕ
text_of kind fields = unwrap_or (last_of (text_in kind) fields) []

-- A time of a record, or else this moment.
abbrev pub time_of : ℕ → ℕ → List SafeField → ℕ
time_of kind now fields = unwrap_or (last_of (moment_in kind) fields) now

-- The id of a record, if it has one.
unfoldable pub own_id : List SafeField → Option NodeId
own_id fields = last_of id_in fields

-- A byte more at the start of the first name.
abbrev pub in_first_name : ℕ → List (List ℕ) → List (List ℕ)
in_first_name byte [] = (byte ∷ []) ∷ []
in_first_name byte (name ∷ names) = (byte ∷ name) ∷ names

-- The names between the dots of a text, empty ones among them.
abbrev pub between_dots : List ℕ → List (List ℕ)
between_dots [] = [] ∷ []
between_dots (b ∷ bs) =
    if b == 46 then [] ∷ between_dots bs else in_first_name b (between_dots bs)

-- A name has a byte.
abbrev pub is_named : List ℕ → Bool
is_named [] = false
is_named (b ∷ bs) = true

-- The names of the groups that a text names, from below the root. Every dot separates two, and none
-- is empty.
abbrev pub group_names : List ℕ → List (List ℕ)
group_names text = filter is_named (between_dots text)

-- The entry of a record, at a moment, which its times are that it does not give.
abbrev pub imported_record : ℕ → List SafeField → ImportedEntry
imported_record now fields = record {
  groups = group_names (text_of group_kind fields);
  id = own_id fields;
  title = text_of title_kind fields;
  user = text_of user_kind fields;
  password = text_of password_kind fields;
  url = text_of url_kind fields;
  notes = text_of notes_kind fields;
  history = last_of (text_in history_kind) fields;
  otp = None;
  created = time_of created_kind now fields;
  modified = time_of modified_kind now fields;
}

-- The entries of records.
abbrev pub imported_records : ℕ → List (List SafeField) → List ImportedEntry
imported_records now records = map (imported_record now) records
