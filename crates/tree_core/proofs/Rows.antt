-- What is found in rows by their ids, where one row comes to them or is changed.
use Rattle.std.proofs.Common.{◌≡◌, ◌≤◌, Bool, true, false, cond, inl, inr, List, [], ◌∷◌, ◌++◌, Option, None, Some, map, refl, sym, ap, ◌∙◌, arith}
use Rattle.std.specs.FinMap.{find}
use Rattle.vault_model.specs.Db.{NodeId, id_cmp}
use Rattle.vault_model.specs.Join.{is_id}
use Rattle.vault_model.specs.Shape.{Children, EntryRecord}
use Rattle.vault_model.specs.Tree.{Tree, Trees, beside, child_rows, child_rows_all, entry_rows, entry_rows_all, node, node_ids, node_ids_all, none}
use Rattle.vault_model.proofs.Ids.{same_id}
use Rattle.vault_model.proofs.Tests.{decide, is_false, map_append}
use Rattle.tree_core.proofs.Options.{never}
use Rattle.tree_core.proofs.Counted.{occurs, occurs-append, one_if}

module _ {X : Type 0} where
  abbrev pub keys : List (NodeId × X) → List NodeId
  keys rows = map (λ (e : NodeId × X). e.0) rows

  pub none_found : (k : NodeId) (rows : List (NodeId × X)) → occurs k (keys rows) ≡ 0 → find id_cmp k rows ≡ None
  none_found k [] e = refl
  none_found k (r ∷ rows) e =
      elim (decide (is_id k r.0)) [
        | inl p ↦ let here = ap one_if p in absurd (omega (arith, here, e))
        | inr p ↦
            let here = ap one_if p in
            let rest : occurs k (keys rows) ≡ 0 = omega (arith, here, e) in
            ap (λ b. cond b (Some r.1) (find id_cmp k rows)) p ∙ none_found k rows rest
      ]

  twice : (b : Bool) (x y : Option X) (o : Option X) → cond b x o ≡ cond b x (cond b y o)
  twice true x y o = refl
  twice false x y o = refl

  -- the row that is found first stays so
  first_stays : (q k : NodeId) (r : NodeId × X) (x : X) (o : Option X) → find id_cmp k (r ∷ []) ≡ None → is_id q r.0 ≡ true → Some r.1 ≡ cond (is_id q k) (Some x) (Some r.1)
  first_stays q k r x o off p =
      sym (ap (λ b. cond b (Some x) (Some r.1)) (is_false (is_id q k) (λ s.
      never r.1 (sym off ∙ ap (λ b. cond b (Some r.1) None) (ap (λ u. is_id u r.0) (sym (same_id q k s)) ∙ p)))))

  found_none : (k : NodeId) (r : NodeId × X) (rows : List (NodeId × X)) → find id_cmp k (r ∷ rows) ≡ None → (find id_cmp k (r ∷ []) ≡ None) × (find id_cmp k rows ≡ None)
  found_none k r rows e =
      elim (decide (is_id k r.0)) [
        | inl p ↦ never r.1 (sym e ∙ ap (λ b. cond b (Some r.1) (find id_cmp k rows)) p)
        | inr p ↦ (ap (λ b. cond b (Some r.1) None) p, sym (ap (λ b. cond b (Some r.1) (find id_cmp k rows)) p) ∙ e)
      ]

  -- a row of an id that has none
  pub inserted : (front back : List (NodeId × X)) (k : NodeId) (x : X) → find id_cmp k (front ++ back) ≡ None
      → (q : NodeId) → find id_cmp q (front ++ (k, x) ∷ back) ≡ cond (is_id q k) (Some x) (find id_cmp q (front ++ back))
  inserted [] back k x off q = refl
  inserted (r ∷ rows) back k x off q =
      let parts = found_none k r (rows ++ back) off in
      elim (decide (is_id q r.0)) [
        | inl p ↦
            ap (λ b. cond b (Some r.1) (find id_cmp q (rows ++ (k, x) ∷ back))) p
            ∙ first_stays q k r x None parts.0 p
            ∙ ap (λ b. cond (is_id q k) (Some x) (cond b (Some r.1) (find id_cmp q (rows ++ back)))) (sym p)
        | inr p ↦
            ap (λ b. cond b (Some r.1) (find id_cmp q (rows ++ (k, x) ∷ back))) p
            ∙ inserted rows back k x parts.1 q
            ∙ ap (λ b. cond (is_id q k) (Some x) (cond b (Some r.1) (find id_cmp q (rows ++ back)))) (sym p)
      ]

  -- another row of an id in the place of its first
  pub replaced : (front back : List (NodeId × X)) (k : NodeId) (x y : X) → find id_cmp k front ≡ None
      → (q : NodeId) → find id_cmp q (front ++ (k, y) ∷ back) ≡ cond (is_id q k) (Some y) (find id_cmp q (front ++ (k, x) ∷ back))
  replaced [] back k x y off q = twice (is_id q k) (Some y) (Some x) (find id_cmp q back)
  replaced (r ∷ rows) back k x y off q =
      let parts = found_none k r rows off in
      elim (decide (is_id q r.0)) [
        | inl p ↦
            ap (λ b. cond b (Some r.1) (find id_cmp q (rows ++ (k, y) ∷ back))) p
            ∙ first_stays q k r y None parts.0 p
            ∙ ap (λ b. cond (is_id q k) (Some y) (cond b (Some r.1) (find id_cmp q (rows ++ (k, x) ∷ back)))) (sym p)
        | inr p ↦
            ap (λ b. cond b (Some r.1) (find id_cmp q (rows ++ (k, y) ∷ back))) p
            ∙ replaced rows back k x y parts.1 q
            ∙ ap (λ b. cond (is_id q k) (Some y) (cond b (Some r.1) (find id_cmp q (rows ++ (k, x) ∷ back)))) (sym p)
      ]

-- ---- the rows of a tree are of its nodes

mutual
  pub entry_keys : (x : NodeId) (t : Tree) → occurs x (keys (entry_rows t)) ≤ occurs x (node_ids t)
  entry_keys x (node v r es ts) =
      let split = ap (occurs x) (map_append (λ (e : NodeId × EntryRecord). e.0) es (entry_rows_all ts)) ∙ occurs-append x (keys es) (keys (entry_rows_all ts)) in
      let all = occurs-append x (keys es) (node_ids_all ts) in
      let below = entry_keys_all x ts in
      omega (arith, split, all, below)

  pub entry_keys_all : (x : NodeId) (ts : Trees) → occurs x (keys (entry_rows_all ts)) ≤ occurs x (node_ids_all ts)
  entry_keys_all x none = omega arith
  entry_keys_all x (beside t ts) =
      let split = ap (occurs x) (map_append (λ (e : NodeId × EntryRecord). e.0) (entry_rows t) (entry_rows_all ts)) ∙ occurs-append x (keys (entry_rows t)) (keys (entry_rows_all ts)) in
      let all = occurs-append x (node_ids t) (node_ids_all ts) in
      let here = entry_keys x t in
      let below = entry_keys_all x ts in
      omega (arith, split, all, here, below)

mutual
  pub child_keys : (x : NodeId) (t : Tree) → occurs x (keys (child_rows t)) ≤ occurs x (node_ids t)
  child_keys x (node v r es ts) =
      let all = occurs-append x (keys es) (node_ids_all ts) in
      let below = child_keys_all x ts in
      omega (arith, all, below)

  pub child_keys_all : (x : NodeId) (ts : Trees) → occurs x (keys (child_rows_all ts)) ≤ occurs x (node_ids_all ts)
  child_keys_all x none = omega arith
  child_keys_all x (beside t ts) =
      let split = ap (occurs x) (map_append (λ (e : NodeId × Children). e.0) (child_rows t) (child_rows_all ts)) ∙ occurs-append x (keys (child_rows t)) (keys (child_rows_all ts)) in
      let all = occurs-append x (node_ids t) (node_ids_all ts) in
      let here = child_keys x t in
      let below = child_keys_all x ts in
      omega (arith, split, all, here, below)
