use Rattle.std.proofs.Common.{Bor, ◌≡◌, List, ℕ, drop}
use Rattle.std.specs.Prelude.{map}
use Rattle.std.specs.List.{list_any}
use Rattle.find_core.specs.inside.Found.{has_folded}
use Rattle.find_core.proofs.matching.one_has_text.Given as goal

abbrev pub invariant-loop-value : goal.invariant-loop-value
invariant-loop-value l =
    list_any (has_folded l.term) (map (λ (v : Bor (List ℕ)). v.now) (drop l.value-index l.values))
    ≡ list_any (has_folded l.term) (map (λ (v : Bor (List ℕ)). v.now) l.values)
