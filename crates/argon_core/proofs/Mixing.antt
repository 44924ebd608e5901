-- How one place of the memory is filled.
use Rattle.std.proofs.Common.{◌≡◌, ℕ, ◌+◌, ◌*◌, ◌<◌, ◌≤◌, ◌==◌, ◌&&◌, nat_lt, if◌then◌else◌, List, [], slice_index_or, slice_set, refl, ◌∙◌, arith}
use Rattle.std.proofs.lemmas.Bool.Decides.{nat_tests}
use Rattle.argon_core.specs.Compression.{compression, xor_blocks}
use Rattle.argon_core.specs.Argon2.{chooser_of, column_before, first_block, mixed_from, next_from, other_column, other_lane, segment_len}
use Rattle.argon_core.specs.Memory.{place_in, seen_in}
use Rattle.argon_core.specs.declared.params.Instance.{Instance}

-- the first two columns of the first pass
choice_first : {A : Type 0} (x y : A) (pass column : ℕ) → pass ≡ 0 → column < 2 → (if (pass == 0) && nat_lt column 2 then x else y) ≡ x
choice_first x y pass column first low = grind (arith, nat_tests)

-- all others
choice_later : {A : Type 0} (x y : A) (pass column : ℕ) → (pass ≡ 0 → 2 ≤ column) → (if (pass == 0) && nat_lt column 2 then x else y) ≡ y
choice_later x y pass column later = grind (arith, nat_tests)

pub next_first : (i : Instance) (seen : ℕ → ℕ → List ℕ) (pass slice lane place : ℕ) → pass ≡ 0 → slice * segment_len i.params + place < 2
    → next_from i seen pass slice lane place ≡ first_block i lane (slice * segment_len i.params + place)
unfolding next_from
next_first i seen pass slice lane place first low = choice_first _ _ pass _ first low

pub next_mixed : (i : Instance) (seen : ℕ → ℕ → List ℕ) (pass slice lane place : ℕ) → (pass ≡ 0 → 2 ≤ slice * segment_len i.params + place)
    → next_from i seen pass slice lane place ≡ mixed_from i seen pass slice lane place
unfolding next_from
next_mixed i seen pass slice lane place later = choice_later _ _ pass _ later

-- a place that is refilled from the block before and the chosen one
pub mixed_place : (i : Instance) (memory after : List (List ℕ)) (pass slice lane place segment here column before chooser other : ℕ)
    → segment ≡ segment_len i.params
    → here ≡ place_in i.params lane (slice * segment + place)
    → column ≡ column_before i.params (slice * segment + place)
    → before ≡ place_in i.params lane column
    → chooser ≡ chooser_of i (slice_index_or memory before []) pass slice lane place
    → other ≡ place_in i.params (other_lane i.params pass slice lane chooser) (other_column i.params pass slice place (other_lane i.params pass slice lane chooser == lane) chooser)
    → after ≡ slice_set memory here
    (if pass == 0
    then compression (slice_index_or memory before []) (slice_index_or memory other [])
    else xor_blocks (compression (slice_index_or memory before []) (slice_index_or memory other [])) (slice_index_or memory here []))
    → after ≡ slice_set memory (place_in i.params lane (slice * segment_len i.params + place)) (mixed_from i (seen_in i.params memory) pass slice lane place)
unfolding mixed_from
mixed_place i memory after pass slice lane place segment here column before chooser other a b c d e f g =
    g ∙ rw (f, e, d, c, b, a) refl
