-- A text without a prefix, by the cases of a call.
use Rattle.std.proofs.Common.{Bor, ◌≡◌, ◌≢◌, ℕ, List, ◌++◌, Option, Some, None}
use Rattle.std.specs.Prelude.{MatchOption, option_map}
use Rattle.cli_options.specs.Prefixes.{strip_prefix}
use Rattle.cli_options.proofs.Stripping.{stripped}

-- what a call that takes a prefix off a text answers is what `strip_prefix` says
pub by_cases : (front text : List ℕ) (rest : Option (Bor (List ℕ))) (P : Type 0) (Q : Bor (List ℕ) → Type 0) → MatchOption rest P Q
    → (P → (x : List ℕ) → text ≢ front ++ x) → ((x : Bor (List ℕ)) → Q x → text ≡ front ++ x.now)
    → option_map (λ x. x.now) rest ≡ strip_prefix front text
by_cases front text None P Q h f g = stripped front text None (f h)
by_cases front text (Some x) P Q h f g = stripped front text (Some x) (g x h)
