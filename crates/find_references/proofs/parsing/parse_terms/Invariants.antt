use Rattle.std.proofs.Common.{◌≡◌, ◌-◌, ◌≤◌, [], length}
use denote.Text.{Utf8}
use denote.Shadow.{shadow}
use Rattle.find_references.specs.Terms.{terms_from, with_texts}
use Rattle.find_references.proofs.parsing.parse_terms.Given as goal

abbrev pub invariant-loop-rest : goal.invariant-loop-rest
invariant-loop-rest l =
    shadow (Utf8 l.rest) × (length l.rest ≤ length l.text)
    × (with_texts l.terms (terms_from (length l.text - length l.rest) 0 l.rest) ≡ with_texts [] (terms_from 0 0 l.text))

abbrev pub decreases-loop-rest : goal.decreases-loop-rest
decreases-loop-rest l = length l.rest
