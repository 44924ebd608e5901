-- The keys of a file of Password Safe V3, which a password gives (formatV3.txt, section 2).
use Rattle.std.specs.Prelude.{ℕ, List, ◌++◌, take, drop}
use Rattle.std.specs.Fn.{iterate}
use Rattle.block_core.specs.Twofish.{twofish256_decipher}
use Rattle.sha2.specs.Sha256.{sha256}
use Rattle.psafe_file.specs.SafeFiles.{Preamble}

-- The most often that a key is hashed again.
abbrev pub max_iterations : ℕ
max_iterations = 67108864

-- The stretched key: the hash of the password and the salt, hashed again so often.
abbrev pub stretched_key : List ℕ → Preamble → List ℕ
stretched_key password preamble =
    iterate sha256 preamble.iterations (sha256 (password ++ preamble.salt))

-- A key in two blocks, each deciphered alone under the stretched key.
abbrev pub deciphered_key : List ℕ → List ℕ → List ℕ
deciphered_key stretched blocks =
    twofish256_decipher stretched (take 16 blocks)
    ++ twofish256_decipher stretched (drop 16 blocks)

-- The key of the blocks.
abbrev pub block_key : List ℕ → Preamble → List ℕ
block_key stretched preamble = deciphered_key stretched preamble.enciphered_block_key

-- The key of the MAC.
abbrev pub mac_key : List ℕ → Preamble → List ℕ
mac_key stretched preamble = deciphered_key stretched preamble.enciphered_mac_key
