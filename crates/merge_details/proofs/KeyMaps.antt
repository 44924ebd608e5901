-- A tree in an order, and the finite map that it represents.
use Rattle.std.proofs.Common.{◌≡◌, Bool, true, false, ◌&&◌, cond, List, [], ◌∷◌, Some, None, refl, sym, ap, subst, ◌∙◌}
use Rattle.std.proofs.Math.Dec.{T}
use Rattle.std.specs.declared.cmp.Ordering.{Ordering}
use Rattle.std.specs.declared.cmp.Ordering.TheVariants.{Less}
use Rattle.std.specs.BTreeMap.{is_at}
use Rattle.std.specs.Cmp.{eq_by_cmp_equiv}
use Rattle.std.specs.FinMap.{get, insert, entries, from_entries, from_sorted, find, is_sorted, get-from_entries, get-from_sorted, get-insert, entries-from_sorted, same_map}
use Rattle.std.specs.FinMap.Entries.{below_all}
use Rattle.std.specs.List.{AllByRecursion}
use Rattle.std.specs.List.Sorted.{IsStrictlySortedBy}
use Rattle.std.specs.Map.{lookup, keys_of}
use Rattle.std.specs.Ordering.{is_lt}
use Rattle.vault_model.proofs.Orders.{IsOrder}

both : (a b : Bool) → T a → T b → T (a && b)
both true b p q = q
both false b p q = p

module _ {K X : Type 0} {R : K → K → Ordering} (o : IsOrder R) where
  find_key : (es : List (K × X)) (q : K) → find R q es ≡ lookup (is_at (R q)) es
  find_key [] q = refl
  find_key (e ∷ es) q = ap (cond (is_at (R q) e.0) (Some e.1)) (find_key es q)

  get_key : (es : List (K × X)) (q : K) → get (from_entries {R = R} es) q ≡ lookup (is_at (R q)) es
  get_key es q = get-from_entries o.total es q ∙ find_key es q

  -- entries that differ at one key make maps that differ there
  pub one_put : (es fs : List (K × X)) (k : K) (x : X)
      → ((q : K) → lookup (is_at (R q)) fs ≡ cond (is_at (R k) q) (Some x) (lookup (is_at (R q)) es))
      → from_entries {R = R} fs ≡ insert (from_entries es) k x
  one_put es fs k x h =
      same_map o.total o.same (from_entries fs) (insert (from_entries es) k x) (λ q.
      get_key fs q ∙ h q ∙ ap (λ b. cond b (Some x) (lookup (is_at (R q)) es)) ((eq_by_cmp_equiv o.total).symm k q)
      ∙ sym (get-insert o.total (from_entries es) k x q ∙ ap (cond (is_at (R q) k) (Some x)) (get_key es q)))

  below : (k : K) (es : List (K × X)) → AllByRecursion (λ y. R k y ≡ Less) (keys_of es) → T (below_all R k es)
  below k [] h = tt
  below k (e ∷ es) h = both (is_lt (R k e.0)) (below_all R k es) (subst (λ o. T (is_lt o)) (sym h.0) tt) (below k es h.1)

  sorted : (es : List (K × X)) → IsStrictlySortedBy R (keys_of es) → T (is_sorted R es)
  unfolding IsStrictlySortedBy
  sorted [] h = tt
  sorted (e ∷ es) h = both (below_all R e.0 es) (is_sorted R es) (below e.0 es h.0) (sorted es h.1)

  -- entries whose keys rise are those of the map
  pub entries_of : (es : List (K × X)) → IsStrictlySortedBy R (keys_of es) → entries (from_entries {R = R} es) ≡ es
  entries_of es h =
      let up = sorted es h in
      ap entries (same_map o.total o.same (from_entries es) (from_sorted es) (λ q.
      get-from_entries o.total es q ∙ sym (get-from_sorted R es q up)))
      ∙ entries-from_sorted R es up
