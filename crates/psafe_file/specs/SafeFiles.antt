-- A file of Password Safe V3 by its parts (formatV3.txt, section 2): what is before its blocks, the
-- blocks up to the mark of their end, and the MAC.
use Rattle.std.specs.Prelude.{ℕ, ◌+◌, ◌*◌, ◌/◌, nat_le, if◌then◌else◌, Option, None, Some, List, codes, length, take, drop, slice_range, bytes_eq, Result, Ok, Err}
use Rattle.std.specs.Int.{from_le_bytes, w32}
use Rattle.std.specs.List.{position}
use Rattle.block_core.specs.Cbc.{blocks}
use Rattle.psafe_file.specs.declared.fails.PsafeFail.{PsafeFail}
use Rattle.psafe_file.specs.declared.fails.PsafeFail.TheVariants as fail

-- What is before the blocks: the salt, how often the key is hashed again, the hash of the stretched
-- key, the keys of the blocks and of the MAC, each in two blocks that are enciphered, and the
-- initialization vector.
pub record Preamble : Type 0 where
  pub salt : List ℕ
  pub iterations : ℕ
  pub check : List ℕ
  pub enciphered_block_key : List ℕ
  pub enciphered_mac_key : List ℕ
  pub iv : List ℕ

-- The parts of a file: what is before its blocks, the enciphered blocks, and the MAC.
pub record SafeFile : Type 0 where
  pub preamble : Preamble
  pub blocks : List ℕ
  pub mac : List ℕ

-- The four bytes that a file begins with.
abbrev pub tag : List ℕ
tag = codes "PWS3"

-- The block that marks the end of the blocks.
abbrev pub end_mark : List ℕ
end_mark = codes "PWS3-EOFPWS3-EOF"

-- The length of what is before the blocks.
abbrev pub preamble_len : ℕ
preamble_len = 152

-- What is before the blocks of a file.
abbrev pub preamble_of : List ℕ → Preamble
preamble_of bytes = record {
  salt = slice_range bytes 4 36;
  iterations = from_le_bytes w32 (slice_range bytes 36 40);
  check = slice_range bytes 40 72;
  enciphered_block_key = slice_range bytes 72 104;
  enciphered_mac_key = slice_range bytes 104 136;
  iv = slice_range bytes 136 152;
}

-- How many blocks are before the first that is the mark, if one of the whole blocks is.
abbrev pub blocks_before_mark : List ℕ → Option ℕ
blocks_before_mark bytes =
    position (λ block. bytes_eq block end_mark) (blocks (length bytes / 16) bytes)

-- The parts of a file with so many blocks before the mark.
abbrev pub parts_of : List ℕ → ℕ → SafeFile
parts_of bytes count =
    let end = preamble_len + 16 * count in
    record {
      preamble = preamble_of bytes;
      blocks = slice_range bytes preamble_len end;
      mac = slice_range bytes (end + 16) (end + 16 + 32);
    }

-- The parts of a file whose blocks are marked after so many, if they are: the MAC, which follows
-- the mark, is whole. Bytes after the MAC are passed over.
abbrev pub marked_file : List ℕ → Option ℕ → Result SafeFile PsafeFail
marked_file bytes None = Err (fail.Truncated (length bytes))
marked_file bytes (Some count) =
    if nat_le (preamble_len + 16 * count + 48) (length bytes) then Ok (parts_of bytes count)
    else Err (fail.Truncated (length bytes))

-- The parts of a file, or why it has not all of them.
unfoldable pub safe_file : List ℕ → Result SafeFile PsafeFail
safe_file bytes =
    if bytes_eq (take 4 bytes) tag
    then (if nat_le preamble_len (length bytes)
    then marked_file bytes (blocks_before_mark (drop preamble_len bytes))
    else Err (fail.Truncated (length bytes)))
    else Err fail.NotPsafe
