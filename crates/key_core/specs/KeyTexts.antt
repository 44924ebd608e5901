-- Keys of 32 bytes written as text.
use Rattle.std.specs.Prelude.{ℕ, ◌==◌, not, Option, Some, None, List, length, if◌then◌else◌}
use Rattle.std.specs.Option.{option_and_then}
use Rattle.std.specs.Result.{result_ok}
use Rattle.std.specs.List.{filter}
use Rattle.base64.specs.Engines.{standard}
use Rattle.base64.specs.GeneralPurpose.{decoded_of}
use Rattle.hex.specs.Hex.{decode_sized}
use Rattle.markup_core.specs.MarkupGrammar.Bytes.{is_space}

-- a text without any white space
abbrev pub without_spaces : List ℕ → List ℕ
without_spaces text = filter (λ b. not (is_space b)) text

-- the bytes, where they are 32
abbrev pub whole_key : List ℕ → Option (List ℕ)
whole_key bytes = if length bytes == 32 then Some bytes else None

-- the 32 bytes that a text writes in base64, with its padding (RFC 4648, section 4)
unfoldable pub base64_key : List ℕ → Option (List ℕ)
base64_key text = option_and_then whole_key (decoded_of standard text)

-- the 32 bytes that 64 hexadecimal digits write, in either case
unfoldable pub hexadecimal_key : List ℕ → Option (List ℕ)
hexadecimal_key digits = result_ok (decode_sized digits 32)

-- the four bytes that eight hexadecimal digits write
unfoldable pub hexadecimal_hash : List ℕ → Option (List ℕ)
hexadecimal_hash digits = result_ok (decode_sized digits 4)
