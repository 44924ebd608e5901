-- Texts as they are compared and decoded: without white space at their ends, and as base64.
use Rattle.std.specs.Prelude.{ℕ, ◌-◌, ◌==◌, ◌&&◌, Bool, not, if◌then◌else◌, Option, Some, None, List, drop, length, option_and_then, take}
use Rattle.std.specs.List.{prefix_len, suffix_len}
use Rattle.std.specs.Result.{result_ok}
use Rattle.base64.specs.Engines.{standard}
use Rattle.base64.specs.GeneralPurpose.{decode_of}
use Rattle.markup_grammar.specs.Bytes.{is_space}

-- a text without white space at its ends
unfoldable pub trim : List ℕ → List ℕ
trim text =
    let rest = drop (prefix_len is_space text) text in
    take (length rest - suffix_len is_space rest) rest

-- the bytes that a text spells in base64, where it does
unfoldable pub base64_bytes : List ℕ → Option (List ℕ)
base64_bytes text = result_ok (decode_of standard text)

-- so many bytes, by base64
abbrev pub bytes_of_length : ℕ → List ℕ → Option (List ℕ)
bytes_of_length n text =
    option_and_then (λ bytes. if length bytes == n then Some bytes else None) (base64_bytes text)

-- a byte of raw markup that stands for itself wherever it is: neither `&` nor a carriage return
abbrev pub is_literal : ℕ → Bool
is_literal b = not (b == 38) && not (b == 13)
