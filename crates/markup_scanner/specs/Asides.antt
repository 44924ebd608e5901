-- Comments and instructions, by where they end.
use Rattle.std.specs.Prelude.{ℕ, zero, suc, ◌+◌, ◌≡◌, ◌⊎◌, List, drop}
use Rattle.markup_grammar.specs.Machine.{Level, within, Dashes, no_dash, one_dash, two_dashes}
use Rattle.markup_scanner.specs.Left.{StandsAt, BeginsWithout}

-- a `>` is before the place
abbrev pub EndsTag : List ℕ → ℕ → Type 0
EndsTag text end = (k : ℕ) × (end ≡ k + 1) × StandsAt text k 62

-- so it does, or the place is the one at which one began
abbrev pub EndsTagOrStays : List ℕ → ℕ → ℕ → Type 0
EndsTagOrStays text at end = (end ≡ at) ⊎ EndsTag text end

-- neither a comment nor an instruction begins there
abbrev pub NoAside : List ℕ → ℕ → Type 0
NoAside text at = StandsAt text at 60 → BeginsWithout 33 (drop (at + 1) text)
    × BeginsWithout 63 (drop (at + 1) text)

-- before or after the outermost element
abbrev pub IsOutside : Level → Type 0
IsOutside (within name names) = ⊥
IsOutside _ = Unit {0}

-- this many dashes are side by side at the end of what was read of a comment
abbrev pub dashes_of : ℕ → Dashes
dashes_of zero = no_dash
dashes_of (suc zero) = one_dash
dashes_of (suc (suc n)) = two_dashes
