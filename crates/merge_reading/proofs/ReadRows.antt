-- Lists read from their ends into maps, and the database of a document of its parts.
use Rattle.std.proofs.Common.{◌≡◌, ◌<◌, ◌≤◌, ◌-◌, ℕ, Bool, true, false, cond, List, ◌∷◌, Some, map, drop, length, get_or, refl, sym, ap, ◌∙◌}
use Rattle.std.specs.declared.cmp.Ordering.{Ordering}
use Rattle.std.specs.FinMap.{FinMap, from_entries, insert, get-from_entries, get-insert, same_map}
use Rattle.std.specs.List.{filter}
use Rattle.std.specs.Ordering.{eq_by_cmp}
use Rattle.vault_model.specs.Db.{Db, NodeId}
use Rattle.vault_model.specs.Shape.{db_of, shared_of}
use Rattle.vault_model.specs.Tree.{BareDoc, Tree, db_in, id_of, node, rooted, shape_of, with_id, with_previous}
use Rattle.vault_model.proofs.Orders.{IsOrder}
use Rattle.merge_reading.specs.Rows.{is_other, tomb_row}
use Rattle.merge_reading.proofs.SeenRoots.{from_before}

module _ {K X : Type 0} {R : K → K → Ordering} (o : IsOrder R) where
  pub from_more : (k : K) (x : X) (es : List (K × X)) → from_entries {R = R} ((k, x) ∷ es) ≡ insert (from_entries es) k x
  from_more k x es =
      same_map o.total o.same (from_entries ((k, x) ∷ es)) (insert (from_entries es) k x) (λ q.
      get-from_entries o.total ((k, x) ∷ es) q
      ∙ sym (get-insert o.total (from_entries es) k x q ∙ ap (cond (eq_by_cmp R q k) (Some x)) (get-from_entries o.total es q)))

  -- the row before those that were read
  pub one_more : {A : Type 0} (row : A → K × X) (xs : List A) (at : ℕ) (x : A) → 0 < at → at ≤ length xs → x ≡ get_or xs (at - 1) x
      → (old new : FinMap R X) → new ≡ insert old (row x).0 (row x).1 → old ≡ from_entries (map row (drop at xs)) → new ≡ from_entries (map row (drop (at - 1) xs))
  one_more row xs at x some within is old new put before =
      put ∙ ap (λ m. insert m (row x).0 (row x).1) before ∙ sym (from_more (row x).0 (row x).1 (map row (drop at xs)))
      ∙ ap (λ ys. from_entries (map row ys)) (sym (from_before xs at x some within is))

  wanted : {A : Type 0} (row : A → K × X) (test : A → Bool) (x : A) (ys : List A) (b : Bool)
      → from_entries {R = R} (map row (cond b (x ∷ filter test ys) (filter test ys)))
      ≡ cond b (insert (from_entries (map row (filter test ys))) (row x).0 (row x).1) (from_entries (map row (filter test ys)))
  wanted row test x ys true = from_more (row x).0 (row x).1 (map row (filter test ys))
  wanted row test x ys false = refl

  -- the same of the rows that are wanted
  pub one_wanted : {A : Type 0} (row : A → K × X) (test : A → Bool) (xs : List A) (at : ℕ) (x : A) → 0 < at → at ≤ length xs → x ≡ get_or xs (at - 1) x
      → (old new : FinMap R X) → new ≡ cond (test x) (insert old (row x).0 (row x).1) old → old ≡ from_entries (map row (filter test (drop at xs)))
      → new ≡ from_entries (map row (filter test (drop (at - 1) xs)))
  one_wanted row test xs at x some within is old new put before =
      put ∙ ap (λ m. cond (test x) (insert m (row x).0 (row x).1) m) before ∙ sym (wanted row test x (drop at xs) (test x))
      ∙ ap (λ ys. from_entries (map row (filter test ys))) (sym (from_before xs at x some within is))

named : (r : NodeId) (t : Tree) → id_of (with_id r t) ≡ r
named r (node u g es ts) = refl

-- its parts are the database of a document
pub of_parts : (d : BareDoc) (r : NodeId) (m : Db) → m.root ≡ r → m.entries ≡ (db_in (rooted d r)).entries → m.groups ≡ (db_in (rooted d r)).groups
    → m.places ≡ (db_in (rooted d r)).places → m.tombs ≡ from_entries (map tomb_row (filter (is_other r) d.tombs)) → m.meta ≡ shared_of d.meta → m ≡ db_in (rooted d r)
unfolding db_of shape_of
of_parts d r m root entries groups places tombs meta =
    λ i. record {
      root = (root ∙ sym (named r (with_previous (id_of d.tree) r d.tree))) i;
      entries = entries i;
      groups = groups i;
      places = places i;
      tombs = tombs i;
      meta = meta i;
    }
