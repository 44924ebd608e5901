use Rattle.std.proofs.Common.{◌≡◌, take}
use Rattle.std.specs.Str.{str_to_ascii_lowercase}
use Rattle.find_references.proofs.indexing.lower_digits.Given as goal

abbrev pub invariant-loop-digit : goal.invariant-loop-digit
invariant-loop-digit l = l.lower.items ≡ str_to_ascii_lowercase (take l.digit-index l.digit-items)
