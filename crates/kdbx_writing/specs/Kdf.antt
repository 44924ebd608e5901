-- The written form of a key derivation: the KDF dictionary of a header.
use Rattle.std.specs.Prelude.{ℕ, List, [], ◌∷◌, ◌++◌, length, codes}
use Rattle.std.specs.Int.{w32, w64, to_le_bytes}
use Rattle.std.specs.List.{flat_map}
use Rattle.argon_core.specs.declared.params.ArgonKind.{ArgonKind}
use Rattle.argon_core.specs.declared.params.ArgonKind.TheVariants.{D, Id}
use Rattle.key_core.specs.declared.kdf.Kdf.{Kdf}
use Rattle.key_core.specs.declared.kdf.Kdf.TheVariants.{Aes, Argon}
use Rattle.kdbx_parts.specs.Dictionary.{aes_kdf, argon2d, argon2id}

-- Bytes after their length in four bytes.
abbrev pub length_prefixed : List ℕ → List ℕ
length_prefixed bytes = to_le_bytes w32 (length bytes) ++ bytes

-- An item as it is written: the type of its value, its key, its value.
abbrev pub spelled_item : ℕ × List ℕ × List ℕ → List ℕ
spelled_item item = item.0 ∷ (length_prefixed item.1 ++ length_prefixed item.2)

-- The id of a type of Argon2.
abbrev pub argon_id : ArgonKind → List ℕ
argon_id D = argon2d
argon_id Id = argon2id

-- The items that describe a key derivation, in the order of the format: type, key, value.
abbrev pub kdf_items : Kdf → List (ℕ × List ℕ × List ℕ)
kdf_items (Aes rounds seed) =
    (0x42, codes "$UUID", aes_kdf)
    ∷ (0x05, codes "R", to_le_bytes w64 rounds)
    ∷ (0x42, codes "S", seed) ∷ []
kdf_items (Argon kind passes memory lanes salt) =
    (0x42, codes "$UUID", argon_id kind)
    ∷ (0x42, codes "S", salt)
    ∷ (0x04, codes "P", to_le_bytes w32 lanes)
    ∷ (0x05, codes "M", to_le_bytes w64 memory)
    ∷ (0x05, codes "I", to_le_bytes w64 passes)
    ∷ (0x04, codes "V", to_le_bytes w32 0x13) ∷ []

-- A dictionary as it is written: version 1.0, the items, and a byte 0.
unfoldable pub spelled_kdf : Kdf → List ℕ
spelled_kdf kdf = 0 ∷ 1 ∷ [] ++ (flat_map spelled_item (kdf_items kdf) ++ 0 ∷ [])

-- A key derivation with the costs of this one, and with a seed or salt of its own.
abbrev pub with_salt : Kdf → List ℕ → Kdf
with_salt (Aes rounds seed) salt = Aes rounds salt
with_salt (Argon kind passes memory lanes old) salt = Argon kind passes memory lanes salt
