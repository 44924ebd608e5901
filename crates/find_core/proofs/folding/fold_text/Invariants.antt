use Rattle.std.proofs.Common.{◌≡◌, List, ℕ, ◌++◌, chars, encode_utf8_all}
use Rattle.std.specs.Str.Iter.{chars_steps}
use Rattle.caseless.specs.CaseFold.{FoldsCaseTo}
use Rattle.caseless.specs.Caseless.{default_case_fold}
use Rattle.find_core.proofs.folding.fold_text.Given as goal

-- what came so far is in the memory, and what is to come is the rest of the folded text
abbrev pub invariant-loop-letter : goal.invariant-loop-letter
invariant-loop-letter l =
    (rest : List ℕ) × FoldsCaseTo chars_steps l.letter-iterator rest
    × (default_case_fold (chars l.text) ≡ l.yielded ++ rest)
    × (l.folded.bytes ≡ encode_utf8_all l.yielded)
