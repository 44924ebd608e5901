-- An entry of the rows of its versions.
use Rattle.std.proofs.Common.{◌≡◌, suc, ◌-◌, ◌<◌, arith, List, [], ◌∷◌, Some, length, get_or, take, map, refl, ap, ◌∙◌}
use Rattle.vault_model.specs.declared.contents.Stats.{Stats}
use Rattle.vault_model.specs.Db.{Mark}
use Rattle.vault_model.specs.Shape.{Stay, but_last, last_of, record_of, version_of}

last_at : {A : Type 0} (x : A) (xs : List A) (d : A) → last_of x xs ≡ get_or (x ∷ xs) (length xs) d
last_at x [] d = refl
last_at x (y ∷ ys) d = last_at y ys d

but_last_front : {A : Type 0} (x : A) (xs : List A) → but_last x xs ≡ take (length xs) (x ∷ xs)
but_last_front x [] = refl
but_last_front {A} x (y ∷ ys) = ap (λ (zs : List A). x ∷ zs) (but_last_front y ys)

-- the last of some versions is current, and those before it are the history
pub record_of_rows : (stay : Stay) (es : List (Mark × Stats)) (d : Mark × Stats) → 0 < length es
    → record_of stay es ≡ Some (record { placed = stay.placed; previous = stay.previous; current = version_of (get_or es (length es - 1) d); history = map version_of (take (length es - 1) es) })
record_of_rows stay [] d h = absurd (omega arith)
record_of_rows stay (e ∷ es) d h =
    let one : length es ≡ suc (length es) - 1 = omega arith in
    λ i. Some (record {
      placed = stay.placed;
      previous = stay.previous;
      current = version_of ((last_at e es d ∙ ap (λ k. get_or (e ∷ es) k d) one) i);
      history = map version_of ((but_last_front e es ∙ ap (λ k. take k (e ∷ es)) one) i);
    })
