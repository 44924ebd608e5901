-- A tree of ids, and the finite map that it represents.
use Rattle.std.proofs.Common.{◌≡◌, Bool, true, false, ◌&&◌, cond, List, [], ◌∷◌, Some, None, refl, sym, ap, subst, ◌∙◌}
use Rattle.std.proofs.Math.Dec.{T}
use Rattle.std.specs.declared.cmp.Ordering.TheVariants.{Less}
use Rattle.std.specs.BTreeMap.{is_at}
use Rattle.std.specs.Cmp.{eq_by_cmp_equiv}
use Rattle.std.specs.FinMap.{get, insert, remove, entries, from_entries, from_sorted, find, is_sorted, get-from_entries, get-from_sorted, get-insert, get-remove, entries-from_sorted, same_map}
use Rattle.std.specs.FinMap.Entries.{below_all}
use Rattle.std.specs.List.{AllByRecursion}
use Rattle.std.specs.List.Sorted.{IsStrictlySortedBy}
use Rattle.std.specs.Map.{lookup, keys_of}
use Rattle.std.specs.Ordering.{is_lt}
use Rattle.vault_model.specs.Db.{NodeId, id_cmp}
use Rattle.vault_model.proofs.Orders.{id_order}

both : (a b : Bool) → T a → T b → T (a && b)
both true b p q = q
both false b p q = p

module _ {X : Type 0} where
  find_id : (es : List (NodeId × X)) (q : NodeId) → find id_cmp q es ≡ lookup (is_at (id_cmp q)) es
  find_id [] q = refl
  find_id (e ∷ es) q = ap (cond (is_at (id_cmp q) e.0) (Some e.1)) (find_id es q)

  pub get_id : (es : List (NodeId × X)) (q : NodeId) → get (from_entries {R = id_cmp} es) q ≡ lookup (is_at (id_cmp q)) es
  get_id es q = get-from_entries id_order.total es q ∙ find_id es q

  -- entries that differ at one id make maps that differ there
  pub one_put : (es fs : List (NodeId × X)) (u : NodeId) (x : X)
      → ((q : NodeId) → lookup (is_at (id_cmp q)) fs ≡ cond (is_at (id_cmp u) q) (Some x) (lookup (is_at (id_cmp q)) es))
      → from_entries {R = id_cmp} fs ≡ insert (from_entries es) u x
  one_put es fs u x h =
      same_map id_order.total id_order.same (from_entries fs) (insert (from_entries es) u x) (λ q.
      get_id fs q ∙ h q ∙ ap (λ b. cond b (Some x) (lookup (is_at (id_cmp q)) es)) ((eq_by_cmp_equiv id_order.total).symm u q)
      ∙ sym (get-insert id_order.total (from_entries es) u x q ∙ ap (cond (is_at (id_cmp q) u) (Some x)) (get_id es q)))

  pub one_gone : (es fs : List (NodeId × X)) (u : NodeId)
      → ((q : NodeId) → lookup (is_at (id_cmp q)) fs ≡ cond (is_at (id_cmp u) q) None (lookup (is_at (id_cmp q)) es))
      → from_entries {R = id_cmp} fs ≡ remove (from_entries es) u
  one_gone es fs u h =
      same_map id_order.total id_order.same (from_entries fs) (remove (from_entries es) u) (λ q.
      get_id fs q ∙ h q ∙ ap (λ b. cond b None (lookup (is_at (id_cmp q)) es)) ((eq_by_cmp_equiv id_order.total).symm u q)
      ∙ sym (get-remove id_order.total (from_entries es) u q ∙ ap (cond (is_at (id_cmp q) u) None) (get_id es q)))

  below : (k : NodeId) (es : List (NodeId × X)) → AllByRecursion (λ y. id_cmp k y ≡ Less) (keys_of es) → T (below_all id_cmp k es)
  below k [] h = tt
  below k (e ∷ es) h = both (is_lt (id_cmp k e.0)) (below_all id_cmp k es) (subst (λ o. T (is_lt o)) (sym h.0) tt) (below k es h.1)

  sorted : (es : List (NodeId × X)) → IsStrictlySortedBy id_cmp (keys_of es) → T (is_sorted id_cmp es)
  unfolding IsStrictlySortedBy
  sorted [] h = tt
  sorted (e ∷ es) h = both (below_all id_cmp e.0 es) (is_sorted id_cmp es) (below e.0 es h.0) (sorted es h.1)

  -- entries whose keys rise are those of the map
  pub entries_of : (es : List (NodeId × X)) → IsStrictlySortedBy id_cmp (keys_of es) → entries (from_entries {R = id_cmp} es) ≡ es
  entries_of es h =
      let up = sorted es h in
      ap entries (same_map id_order.total id_order.same (from_entries es) (from_sorted es) (λ q.
      get-from_entries id_order.total es q ∙ sym (get-from_sorted id_cmp es q up)))
      ∙ entries-from_sorted id_cmp es up
