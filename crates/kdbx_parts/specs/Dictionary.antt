-- The KDF dictionary, field 11 of a header: items of a key and a value, and the key derivation that
-- they describe.
use Rattle.std.specs.Prelude.{ℕ, ◌-◌, List, [], ◌∷◌, length, drop, Bool, true, false, not, ◌||◌, Option, Some, None, Result, Ok, Err, ◌==◌, slice_index, if◌then◌else◌, codes, bytes_eq}
use Rattle.std.specs.Int.{w16, w32, w64, from_le_bytes}
use Rattle.key_core.specs.ArgonCore.declared.params.ArgonKind.{ArgonKind}
use Rattle.key_core.specs.ArgonCore.declared.params.ArgonKind.TheVariants.{D, Id}
use Rattle.outside_core.specs.Results.{◌>>=◌, repeat_steps}
use Rattle.kdbx_parts.specs.declared.fail.FrameFail.{FrameFail}
use Rattle.kdbx_parts.specs.declared.fail.FrameFail.TheVariants.{Dictionary}
use Rattle.kdbx_parts.specs.Parts.{split_bytes}

-- An item: the type of its value, its key, its value's bytes, and the bytes after it.
pub record Item : Type 0 where
  pub kind : ℕ
  pub key : List ℕ
  pub value : List ℕ
  pub rest : List ℕ

-- Whether a value of this type may have n bytes: u32, u64, bool, i32, i64, and any number for text
-- and bytes.
abbrev pub length_fits : ℕ → ℕ → Bool
length_fits kind n =
    if kind == 0x04 then n == 4 else if kind == 0x05 then n == 8 else if kind == 0x08 then n == 1
    else if kind == 0x0C then n == 4 else if kind == 0x0D then n == 8 else
    (kind == 0x18 || kind == 0x42)

-- Four bytes of length, and that many bytes; and the bytes after them.
abbrev pub counted_bytes : FrameFail → List ℕ → Result (List ℕ × List ℕ) FrameFail
counted_bytes fail rest = do
  n ← split_bytes fail 4 rest
  split_bytes fail (from_le_bytes w32 n.0) n.1

-- The next item: type, key, value.
unfoldable pub item_at : FrameFail → List ℕ → Result Item FrameFail
item_at fail rest = do
  kind ← split_bytes fail 1 rest
  key ← counted_bytes fail kind.1
  value ← counted_bytes fail key.1
  if length_fits (slice_index kind.0 0) (length value.0)
      then Ok (record { kind = slice_index kind.0 0; key = key.0; value = value.0; rest = value.1 })
      else Err fail

-- An item's value where its type is bytes.
abbrev pub bytes_in : Item → Option (List ℕ)
bytes_in item = if item.kind == 0x42 then Some item.value else None

-- An item's value where its type is a number of four bytes.
abbrev pub u32_in : Item → Option ℕ
u32_in item = if item.kind == 0x04 then Some (from_le_bytes w32 item.value) else None

-- An item's value where its type is a number of eight bytes.
abbrev pub u64_in : Item → Option ℕ
u64_in item = if item.kind == 0x05 then Some (from_le_bytes w64 item.value) else None

-- The values of the items so far: of each key the last value, where it is of the key's type; of `K`
-- and `A`, which are not read, whether the last value, of whatever type, has bytes.
pub record Keys : Type 0 where
  pub uuid : Option (List ℕ)
  pub rounds : Option ℕ
  pub salt : Option (List ℕ)
  pub lanes : Option ℕ
  pub memory : Option ℕ
  pub passes : Option ℕ
  pub version : Option ℕ
  pub key : Bool
  pub associated : Bool

-- No item yet.
abbrev pub no_keys : Keys
no_keys = record {
  uuid = None;
  rounds = None;
  salt = None;
  lanes = None;
  memory = None;
  passes = None;
  version = None;
  key = false;
  associated = false;
}

-- One item more.
unfoldable pub with_item : Keys → Item → Keys
with_item keys item =
    if bytes_eq item.key (codes "$UUID") then record keys { uuid = bytes_in item }
    else if bytes_eq item.key (codes "R") then record keys { rounds = u64_in item }
    else if bytes_eq item.key (codes "S") then record keys { salt = bytes_in item }
    else if bytes_eq item.key (codes "P") then record keys { lanes = u32_in item }
    else if bytes_eq item.key (codes "M") then record keys { memory = u64_in item }
    else if bytes_eq item.key (codes "I") then record keys { passes = u64_in item }
    else if bytes_eq item.key (codes "V") then record keys { version = u32_in item }
    else if bytes_eq item.key (codes "K") then record keys { key = not (length item.value == 0) }
    else if bytes_eq item.key (codes "A") then record keys
    { associated = not (length item.value == 0) }
    else keys

-- How far the reading of the items has come: their values so far, and the bytes after them.
pub record ItemsRead : Type 0 where
  pub keys : Keys
  pub rest : List ℕ

-- The refusal of what begins here, in a field of `whole` bytes: it has the offset in the field.
abbrev pub item_refusal : ℕ → ItemsRead → FrameFail
item_refusal whole read = Dictionary (whole - length read.rest)

-- One item, or the byte 0 that ends them.
unfoldable pub item_step : ℕ → ItemsRead → Result (Bool × ItemsRead) FrameFail
item_step whole read = do
  kind ← split_bytes (item_refusal whole read) 1 read.rest
  if slice_index kind.0 0 == 0
      then Ok (true, record { keys = read.keys; rest = kind.1 })
      else (item_at (item_refusal whole read) read.rest >>= λ item.
      Ok (false, record { keys = with_item read.keys item; rest = item.rest }))

-- All items of a field, whose first two bytes are its version.
abbrev pub items_of : List ℕ → Result ItemsRead FrameFail
items_of content =
    repeat_steps (item_step (length content)) (item_refusal (length content)) (length content)
    (record { keys = no_keys; rest = drop 2 content })

-- The key derivation that a dictionary describes: a version that is not read; the id of a key
-- derivation that is not known; AES with its rounds and its key; or Argon2 with its type, passes,
-- memory, lanes, salt, version, and whether it has a key or data of its own.
pub data KdfDescription : Type 0 where
  wrong_version : ℕ → KdfDescription
  unknown_id : List ℕ → KdfDescription
  aes : ℕ → List ℕ → KdfDescription
  argon : ArgonKind → ℕ → ℕ → ℕ → List ℕ → ℕ → Bool → KdfDescription

-- The value of a key that must occur, or this refusal.
abbrev pub required_key : {A : Type 0} → FrameFail → Option A → Result A FrameFail
required_key fail None = Err fail
required_key fail (Some a) = Ok a

-- The value of a key that must occur with n bytes, or this refusal.
abbrev pub required_bytes : FrameFail → ℕ → Option (List ℕ) → Result (List ℕ) FrameFail
required_bytes fail n value = do
  bytes ← required_key fail value
  if length bytes == n then Ok bytes else Err fail

-- The id of AES as a key derivation.
abbrev pub aes_kdf : List ℕ
aes_kdf = 0xC9 ∷ 0xD9 ∷ 0xF3 ∷ 0x9A ∷ 0x62 ∷ 0x8A ∷ 0x44 ∷ 0x60 ∷ 0xBF ∷ 0x74 ∷ 0x0D ∷ 0x08 ∷ 0xC1 ∷
    0x8A ∷ 0x4F ∷ 0xEA ∷ []

-- Another id of AES as a key derivation, which is read and not written.
abbrev pub aes_kdf_4 : List ℕ
aes_kdf_4 = 0x7C ∷ 0x02 ∷ 0xBB ∷ 0x82 ∷ 0x79 ∷ 0xA7 ∷ 0x4A ∷ 0xC0 ∷ 0x92 ∷ 0x7D ∷ 0x11 ∷ 0x4A ∷ 0x00
    ∷ 0x64 ∷ 0x82 ∷ 0x38 ∷ []

-- The id of Argon2d.
abbrev pub argon2d : List ℕ
argon2d = 0xEF ∷ 0x63 ∷ 0x6D ∷ 0xDF ∷ 0x8C ∷ 0x29 ∷ 0x44 ∷ 0x4B ∷ 0x91 ∷ 0xF7 ∷ 0xA9 ∷ 0xA4 ∷ 0x03 ∷
    0xE3 ∷ 0x0A ∷ 0x0C ∷ []

-- The id of Argon2id.
abbrev pub argon2id : List ℕ
argon2id = 0x9E ∷ 0x29 ∷ 0x8B ∷ 0x19 ∷ 0x56 ∷ 0xDB ∷ 0x47 ∷ 0x73 ∷ 0xB2 ∷ 0x3D ∷ 0xFC ∷ 0x3E ∷ 0xC6
    ∷ 0xF0 ∷ 0xA1 ∷ 0xE6 ∷ []

-- AES needs its rounds, and a key of 32 bytes.
abbrev pub aes_description : FrameFail → Keys → Result KdfDescription FrameFail
aes_description fail keys = do
  rounds ← required_key fail keys.rounds
  seed ← required_bytes fail 32 keys.salt
  Ok (aes rounds seed)

-- Argon2 needs all of its keys but `K` and `A`.
abbrev pub argon_description : FrameFail → ArgonKind → Keys → Result KdfDescription FrameFail
argon_description fail kind keys = do
  salt ← required_key fail keys.salt
  lanes ← required_key fail keys.lanes
  memory ← required_key fail keys.memory
  passes ← required_key fail keys.passes
  version ← required_key fail keys.version
  Ok (argon kind passes memory lanes salt version (keys.key || keys.associated))

-- The key derivation that all items describe: each key derivation needs its keys.
unfoldable pub description_of : FrameFail → Keys → Result KdfDescription FrameFail
description_of fail keys = do
  uuid ← required_bytes fail 16 keys.uuid
  if bytes_eq uuid aes_kdf || bytes_eq uuid aes_kdf_4 then aes_description fail keys
      else if bytes_eq uuid argon2d then argon_description fail D keys
      else if bytes_eq uuid argon2id then argon_description fail Id keys
      else Ok (unknown_id uuid)

-- The key derivation that a dictionary describes, by a version of two bytes, whose high byte is 1,
-- and the items; the refusal of a missing key has the field's length as its offset.
unfoldable pub dictionary_of : List ℕ → Result KdfDescription FrameFail
dictionary_of content = do
  version ← split_bytes (Dictionary 0) 2 content
  if slice_index version.0 1 == 1
      then (items_of content >>= λ read. description_of (Dictionary (length content)) read.keys)
      else Ok (wrong_version (from_le_bytes w16 version.0))
