-- What is wrong with a field of a header, as what is so of its bytes.
use Rattle.std.specs.Prelude.{◌≡◌, ◌≢◌, ◌⊎◌, ◌<◌, ◌-◌, ◌==◌, if◌then◌else◌, ℕ, Bool, true, List, [], ◌∷◌, ◌++◌, length, drop, is_some, Option, None, Some}
use Rattle.std.specs.Int.{from_le_bytes, w32}
use Rattle.vault_model.specs.Join.{IsIn}
use Rattle.vault_model.specs.declared.forms.FileVersion.{FileVersion}
use Rattle.vault_model.specs.declared.forms.FileVersion.TheVariants.{V31, V40, V41}
use Rattle.kdbx_parts.specs.Dictionary.{Item, ItemsRead, Keys, aes_kdf, aes_kdf_4, argon2d, argon2id, length_fits, no_keys, with_item}
use Rattle.kdbx_parts.specs.Parts.{Field}
use Rattle.kdbx_parts.specs.declared.fail.FrameFail.{FrameFail}
use Rattle.kdbx_parts.specs.declared.fail.FrameFail.TheVariants.{Dictionary, FieldLength, FieldTwice}
use Rattle.kdbx_frame.specs.Fields.{HeaderFields}
use Rattle.kdbx_frame.specs.Settings.{IsVersion4}

-- ---- the KDF dictionary

-- Bytes begin with this item: a byte for the type of its value, and its key and its value, each
-- after four bytes of its length; then come those after it. A value of the type may be so long.
pub record IsItem (bytes : List ℕ) (item : Item) : Type 0 where
  pub key_len : List ℕ
  pub value_len : List ℕ
  pub is : bytes
      ≡ item.kind ∷ (key_len ++ (item.key ++ (value_len ++ (item.value ++ item.rest))))
  pub key_four : length key_len ≡ 4
  pub key_is : from_le_bytes w32 key_len ≡ length item.key
  pub value_four : length value_len ≡ 4
  pub value_is : from_le_bytes w32 value_len ≡ length item.value
  pub fits : length_fits item.kind (length item.value) ≡ true

-- Items lead from some bytes to others: one after another, none of type 0, and what each says is
-- added to what those before it said.
abbrev pub ItemsLead : List Item → ItemsRead → ItemsRead → Type 0
ItemsLead [] from to = from ≡ to
ItemsLead (item ∷ items) from to = IsItem from.rest item × (item.kind ≢ 0)
    × ItemsLead items (record { keys = with_item from.keys item; rest = item.rest }) to

-- The items of a dictionary, after the two bytes of its version, up to some of its bytes.
pub record HasItems (content : List ℕ) (now : ItemsRead) : Type 0 where
  pub items : List Item
  pub lead : ItemsLead items (record { keys = no_keys; rest = drop 2 content }) now

-- Neither the byte 0 that ends the items nor an item is here.
pub record HasNoItem (bytes : List ℕ) : Type 0 where
  pub no_end : (more : List ℕ) → bytes ≢ 0 ∷ more
  pub no_item : (item : Item) → IsItem bytes item → ⊥

-- There is no value of so many bytes.
abbrev pub LacksBytes : ℕ → Option (List ℕ) → Type 0
LacksBytes n value = (bytes : List ℕ) → value ≡ Some bytes → length bytes ≢ n

-- There is no value.
abbrev pub LacksValue : {A : Type 0} → Option A → Type 0
LacksValue value = value ≡ None

-- AES lacks its rounds, or a key of 32 bytes.
abbrev pub AesLacks : Keys → Type 0
AesLacks keys = LacksValue keys.rounds ⊎ LacksBytes 32 keys.salt

-- Argon2 lacks a value.
abbrev pub ArgonLacks : Keys → Type 0
ArgonLacks keys = LacksValue keys.salt ⊎ (LacksValue keys.lanes ⊎ (LacksValue keys.memory
    ⊎ (LacksValue keys.passes ⊎ LacksValue keys.version)))

-- The dictionary has no id of 16 bytes, or lacks what the key derivation of its id needs.
abbrev pub LacksKeys : Keys → Type 0
LacksKeys keys = LacksBytes 16 keys.uuid
    ⊎ ((((keys.uuid ≡ Some aes_kdf) ⊎ (keys.uuid ≡ Some aes_kdf_4)) × AesLacks keys)
    ⊎ (((keys.uuid ≡ Some argon2d) ⊎ (keys.uuid ≡ Some argon2id)) × ArgonLacks keys))

-- A dictionary leaves its form at this offset: it has no two bytes; no item is there, after those
-- before it; or at its end something is missing that all items together need.
abbrev pub LeavesForm : List ℕ → ℕ → Type 0
LeavesForm content offset = ((offset ≡ 0) × (length content < 2))
    ⊎ (((now : ItemsRead) × HasItems content now × (offset ≡ length content - length now.rest)
    × HasNoItem now.rest)
    ⊎ ((offset ≡ length content) × ((now : ItemsRead) × HasItems content now
    × ((more : List ℕ) × (now.rest ≡ 0 ∷ more)) × LacksKeys now.keys)))

-- ---- fields

-- the fields of a version that may be there once
abbrev pub known_ids : FileVersion → List ℕ
known_ids V31 = 2 ∷ 3 ∷ 4 ∷ 5 ∷ 6 ∷ 7 ∷ 8 ∷ 9 ∷ 10 ∷ []
known_ids V40 = 2 ∷ 3 ∷ 4 ∷ 7 ∷ 11 ∷ 12 ∷ []
known_ids V41 = 2 ∷ 3 ∷ 4 ∷ 7 ∷ 11 ∷ 12 ∷ []

-- A field of this id is there.
abbrev pub is_there : HeaderFields → ℕ → Bool
is_there said id =
    if id == 2 then is_some said.cipher
    else (if id == 3 then is_some said.compression
    else (if id == 4 then is_some said.seed
    else (if id == 5 then is_some said.kdf_seed
    else (if id == 6 then is_some said.rounds
    else (if id == 7 then is_some said.iv
    else (if id == 8 then is_some said.stream_key
    else (if id == 9 then is_some said.start
    else (if id == 10 then is_some said.stream_id
    else (if id == 11 then is_some said.kdf
    else (if id == 12 then is_some said.public else true))))))))))

-- how many bytes a field has, where that does not depend on other fields
abbrev pub field_len : ℕ → Option ℕ
field_len id =
    if id == 2 then Some 16
    else (if id == 3 then Some 4
    else (if id == 4 then Some 32
    else (if id == 5 then Some 32
    else (if id == 6 then Some 8
    else (if id == 9 then Some 32
    else (if id == 10 then Some 4 else None))))))

-- A field is known in a version, and has this id.
abbrev pub IsKnown : FileVersion → Field → ℕ → Type 0
IsKnown version field id = (id ≡ field.id) × IsIn id (known_ids version)

-- What is wrong with a field, where those before it say this: one of its id was there before, it
-- has not as many bytes as it must have, or the dictionary of version 4 leaves its form.
abbrev pub IsWrongField : FileVersion → HeaderFields → Field → FrameFail → Type 0
IsWrongField version said field (FieldTwice id) = IsKnown version field id
    × (is_there said id ≡ true)
IsWrongField version said field (FieldLength id len) = IsKnown version field id
    × (len ≡ length field.content) × ((n : ℕ) × (field_len id ≡ Some n) × (len ≢ n))
IsWrongField version said field (Dictionary offset) = IsVersion4 version × (field.id ≡ 11)
    × LeavesForm field.content offset
IsWrongField version said field _ = ⊥
