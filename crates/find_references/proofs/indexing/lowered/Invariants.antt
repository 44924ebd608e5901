use Rattle.std.proofs.Common.{◌≡◌, ◌+◌, length, take}
use Rattle.std.specs.Str.{str_to_ascii_lowercase}
use Rattle.find_references.proofs.indexing.lowered.Given as goal

abbrev pub invariant-loop-byte : goal.invariant-loop-byte
invariant-loop-byte l =
    (l.lower.bytes ≡ str_to_ascii_lowercase (take l.byte-index l.text))
    × (l.lower.spare + l.byte-index ≡ length l.text)
