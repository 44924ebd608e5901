use Rattle.std.proofs.Common.{ℕ, ◌<◌, Option, Some, None, refl, arith}
use Rattle.std.specs.Option.{IsSome, MatchOption}
use Rattle.doc_walk.proofs.element_times.never.Goals as goal

some_found : (A : ℕ → Type 0) (r : Option ℕ) → MatchOption r (315537897599 < 0) A → IsSome r
some_found A None h = absurd (omega (arith, h))
some_found A (Some s) h = refl

pub unwrap-requires : goal.unwrap-requires
unwrap-requires c = some_found _ c.of.result c.of.ensures

pub returns : goal.returns
returns c =
    let found = rw c.unwrap.ensures at c.of.ensures in
    found.1
