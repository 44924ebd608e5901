-- The keys of a vault file, from what its owner knows and has to those that seal the file.
-- Keys, seeds and salts are lists of bytes.
use Rattle.std.specs.Prelude.{ℕ, ◌/◌, List, [], ◌∷◌, ◌++◌, take, drop, Option, Some, None}
use Rattle.std.specs.Option.{option_map}
use Rattle.std.specs.Fn.{iterate}
use Rattle.sha2.specs.Sha256.{sha256}
use Rattle.sha2.specs.Sha512.{sha512}
use Rattle.block_core.specs.Aes.{aes256_encipher}
use Rattle.argon_core.specs.Argon2.{argon2}
use Rattle.key_core.specs.declared.kdf.Kdf.{Kdf}
use Rattle.key_core.specs.declared.kdf.Kdf.TheVariants.{Aes, Argon}

-- what a credential adds to the composite key, where there is one
abbrev pub part_of : Option (List ℕ) → List ℕ
part_of None = []
part_of (Some bytes) = bytes

-- the composite key: the hash of the password's hash and the key file's key
unfoldable pub composite_key : Option (List ℕ) → Option (List ℕ) → List ℕ
composite_key password key_file = sha256 (part_of (option_map sha256 password) ++ part_of key_file)

-- a block enciphered so many times by AES-256 under a seed
unfoldable pub enciphered_often : List ℕ → ℕ → List ℕ → List ℕ
enciphered_often seed rounds block = iterate (aes256_encipher seed) rounds block

-- a key transformed by AES: the hash of its two halves, each enciphered so many times
unfoldable pub aes_transformed : List ℕ → ℕ → List ℕ → List ℕ
aes_transformed seed rounds key =
    sha256 (enciphered_often seed rounds (take 16 key)
    ++ enciphered_often seed rounds (drop 16 key))

-- a key transformed: by AES, or by Argon2 as its password, in whole units of 1,024 bytes of memory
abbrev pub transformed_key : Kdf → List ℕ → List ℕ
transformed_key (Aes rounds seed) key = aes_transformed seed rounds key
transformed_key (Argon kind passes bytes lanes salt) key =
    argon2 kind (record { passes = passes; kib = bytes / 1024; lanes = lanes }) key salt [] []

-- the key of a file's cipher: the hash of its master seed and the transformed key
unfoldable pub cipher_key : List ℕ → List ℕ → List ℕ
cipher_key seed transformed = sha256 (seed ++ transformed)

-- the key from which a file's authentication keys are made: the long hash of the same two and the
-- byte 01
unfoldable pub mac_base : List ℕ → List ℕ → List ℕ
mac_base seed transformed = sha512 (seed ++ transformed ++ 1 ∷ [])
