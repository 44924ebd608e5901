use Rattle.std.proofs.Common.{◌≡◌, ◌++◌, drop}
use Rattle.std.specs.Prelude.{map}
use Rattle.find_core.specs.inside.Found.{folded_term}
use Rattle.find_core.proofs.searching.folded_terms.Given as goal

abbrev pub invariant-loop-term : goal.invariant-loop-term
invariant-loop-term l = l.all ++ map folded_term (drop l.term-index l.terms) ≡ map folded_term l.terms
