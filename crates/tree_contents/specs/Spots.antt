-- Where an item is in a list that is in order, or else where it is to be put.
use Rattle.std.specs.Prelude.{ℕ, suc, zero, ◌+◌, List, [], ◌∷◌, Result, Ok, Err}
use Rattle.std.specs.declared.cmp.Ordering.{Ordering}
use Rattle.vault_model.specs.Unite.{by_order}

-- a place so many items further
abbrev pub further : ℕ → Result ℕ ℕ → Result ℕ ℕ
further n (Ok at) = Ok (n + at)
further n (Err at) = Err (n + at)

-- where the first item is that is like the one that is sought, or before which it is to be put
abbrev pub spot : {A : Type 0} → (A → Ordering) → List A → Result ℕ ℕ
spot order [] = Err 0
spot order (x ∷ xs) = by_order (order x) (Err 0) (Ok 0) (further 1 (spot order xs))

-- a list with the item at an index changed
abbrev pub changed_nth : {A : Type 0} → ℕ → (A → A) → List A → List A
changed_nth n f [] = []
changed_nth zero f (x ∷ xs) = f x ∷ xs
changed_nth (suc n) f (x ∷ xs) = x ∷ changed_nth n f xs
