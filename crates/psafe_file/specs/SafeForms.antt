-- What a file of Password Safe V3 is, as a relation on all its bytes (formatV3.txt, section 2), and
-- what a password opens of it.
use Rattle.std.specs.Prelude.{◌≡◌, ◌≢◌, ℕ, ◌*◌, ◌<◌, ◌≤◌, List, ◌++◌, length, take, drop}
use Rattle.std.specs.Int.{from_le_bytes, w32}
use Rattle.sha2.specs.Sha256.{sha256}
use Rattle.psafe_file.specs.Keys.{max_iterations, stretched_key}
use Rattle.psafe_file.specs.Opened.{SafeContent, content_of}
use Rattle.psafe_file.specs.SafeFiles.{Preamble, SafeFile, end_mark, tag}

-- Bytes are what a file has before its blocks:
pub record IsPreamble (bytes : List ℕ) (preamble : Preamble) : Type 0 where
  -- the tag, and one part after another;
  pub iterations : List ℕ
  pub is : bytes ≡ tag ++ preamble.salt ++ iterations ++ preamble.check
      ++ preamble.enciphered_block_key ++ preamble.enciphered_mac_key ++ preamble.iv
  -- each part has its length;
  pub salt_len : length preamble.salt ≡ 32
  pub iterations_len : length iterations ≡ 4
  pub check_len : length preamble.check ≡ 32
  pub block_key_len : length preamble.enciphered_block_key ≡ 32
  pub mac_key_len : length preamble.enciphered_mac_key ≡ 32
  pub iv_len : length preamble.iv ≡ 16
  -- how often the key is hashed again has its least byte first.
  pub number : from_le_bytes w32 iterations ≡ preamble.iterations

-- Bytes are a file of these parts:
pub record IsSafeFile (bytes : List ℕ) (file : SafeFile) : Type 0 where
  -- what is before the blocks, the blocks, the mark of their end, the MAC, and then anything;
  pub before : List ℕ
  pub rest : List ℕ
  pub is : bytes ≡ before ++ file.blocks ++ end_mark ++ file.mac ++ rest
  pub preamble : IsPreamble before file.preamble
  -- the blocks are whole, and none of them is the mark;
  pub count : ℕ
  pub blocks_len : length file.blocks ≡ 16 * count
  pub unmarked : (k : ℕ) → k < count → take 16 (drop (16 * k) file.blocks) ≢ end_mark
  -- the MAC is whole.
  pub mac_len : length file.mac ≡ 32

-- A password opens bytes with this content:
pub record IsOpened (bytes password : List ℕ) (content : SafeContent) : Type 0 where
  -- they are a file,
  pub file : SafeFile
  pub is_file : IsSafeFile bytes file
  -- whose key may be hashed again so often,
  pub limit : file.preamble.iterations ≤ max_iterations
  -- and keeps the hash of the key that the password gives,
  pub right : file.preamble.check ≡ sha256 (stretched_key password file.preamble)
  -- under which it has this content.
  pub content_is : content_of (stretched_key password file.preamble) file ≡ content
