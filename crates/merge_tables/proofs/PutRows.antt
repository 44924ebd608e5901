-- Putting a row where the search says is putting it in its place.
use Rattle.std.proofs.Common.{◌≡◌, ℕ, suc, ◌+◌, arith, List, [], ◌∷◌, Result, Ok, Err, get_or, set, insert, length, refl, sym, ap, ◌∙◌}
use Rattle.std.specs.declared.cmp.Ordering.{Ordering}
use Rattle.std.specs.declared.cmp.Ordering.TheVariants.{Less, Equal, Greater}
use Rattle.std.specs.Cmp.{IsTotalOrder}
use Rattle.std.specs.FinMap.{put, is_sorted, empty, insert as insert_key, from_sorted, entries-from_sorted, entries-insert, same_entries_map, empty_of_len, len-entries}
use Rattle.std.specs.FinMap.Entries.{by_order as entry_by_order, is_sorted-put}
use Rattle.std.proofs.Math.Dec.{T}
use Rattle.vault_model.specs.Unite.{by_order}
use Rattle.merge_tables.specs.RowPositions.{position_of, further}

module _ {K X : Type 0} (R : K → K → Ordering) (k : K) (v : X) (d : K × X) where
  abbrev pub at_position : List (K × X) → Result ℕ ℕ → List (K × X)
  at_position es (Ok n) = set es n ((get_or es n d).0, v)
  at_position es (Err n) = insert es n (k, v)

  at_further : (e : K × X) (es : List (K × X)) (p : Result ℕ ℕ) → at_position (e ∷ es) (further 1 p) ≡ e ∷ at_position es p
  at_further e es (Ok n) = let one : 1 + n ≡ suc n = omega arith in ap (λ m. at_position (e ∷ es) (Ok m)) one
  at_further e es (Err n) = let one : 1 + n ≡ suc n = omega arith in ap (λ m. at_position (e ∷ es) (Err m)) one

  pub put_at : (es : List (K × X)) → at_position es (position_of R k es) ≡ put R k v es
  put_at [] = refl
  put_at (e ∷ es) =
      elim (R k e.0) as (λ r. at_position (e ∷ es) (by_order r (Err 0) (Ok 0) (further 1 (position_of R k es))) ≡ entry_by_order r ((k, v) ∷ e ∷ es) ((e.0, v) ∷ es) (e ∷ put R k v es)) [
        | Less ↦ refl
        | Equal ↦ refl
        | Greater ↦ at_further e es (position_of R k es) ∙ ap (λ (fs : List (K × X)). e ∷ fs) (put_at es)
      ]

module _ {K X : Type 0} {R : K → K → Ordering} (o : IsTotalOrder R) where
  pub sorted_put : (k : K) (v : X) (es : List (K × X)) → T (is_sorted R es) → from_sorted {R = R} (put R k v es) ≡ insert_key (from_sorted es) k v
  sorted_put k v es h =
      same_entries_map (from_sorted (put R k v es)) (insert_key (from_sorted es) k v)
      (entries-from_sorted R (put R k v es) (is_sorted-put R o k v es h)
      ∙ ap (put R k v) (sym (entries-from_sorted R es h))
      ∙ sym (entries-insert o (from_sorted es) k v))

pub sorted_none : {K X : Type 0} (R : K → K → Ordering) → from_sorted {X = X} {R = R} [] ≡ empty
sorted_none R = empty_of_len (from_sorted []) (len-entries (from_sorted []) ∙ ap length (entries-from_sorted R [] tt))
