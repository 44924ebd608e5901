-- The last of some versions, by its index.
use Rattle.std.proofs.Common.{◌≡◌, ◌<◌, ◌-◌, suc, List, [], ◌∷◌, length, get_or, arith, refl, ap, ◌∙◌}
use Rattle.std.specs.Ordering.{eq_by_cmp}
use Rattle.vault_model.specs.declared.contents.Stats.{Stats}
use Rattle.vault_model.specs.Db.{Mark, mark_cmp}
use Rattle.vault_model.specs.Shape.{last_of}
use Rattle.merge_changes.specs.Changes.{is_last}

last_at : {A : Type 0} (x : A) (xs : List A) (d : A) → last_of x xs ≡ get_or (x ∷ xs) (length xs) d
last_at x [] d = refl
last_at x (y ∷ ys) d = last_at y ys d

pub last_by_index : (m : Mark) (vs : List (Mark × Stats)) (d : Mark × Stats) → 0 < length vs
    → is_last m vs ≡ eq_by_cmp mark_cmp m (get_or vs (length vs - 1) d).0
last_by_index m [] d some = absurd (omega arith)
last_by_index m (v ∷ vs) d some =
    let one : length vs ≡ suc (length vs) - 1 = omega arith in
    ap (λ (w : Mark × Stats). eq_by_cmp mark_cmp m w.0) (last_at v vs d ∙ ap (λ k. get_or (v ∷ vs) k d) one)
