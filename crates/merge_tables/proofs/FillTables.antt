-- Tables filled key by key, with what is said for each of their keys.
use Rattle.std.proofs.Common.{◌≡◌, ◌||◌, ◌⊎◌, Bool, true, false, cond, inl, inr, List, [], ◌∷◌, Option, None, Some, refl, sym, ap, ◌∙◌, ℕ, ◌+◌, ◌<◌, length, get_or, drop}
use Rattle.std.specs.List.{list_any}
use Rattle.std.specs.FinMap.{FinMap, keys, contains_key-keys, empty, get, get-empty, get-insert, same_map}
use Rattle.vault_model.specs.Db.{NodeId, id_cmp}
use Rattle.vault_model.specs.Join.{is_id, IsIn}
use Rattle.vault_model.proofs.Orders.{id_order}
use Rattle.merge_tables.proofs.ListSteps.{drop_next}
use Rattle.vault_model.specs.Unite.{put_some, tabulate}
use Rattle.vault_model.proofs.Tests.{decide, none_of}
use Rattle.merge_core.proofs.Unite.{tie, get-tabulate}
use Rattle.merge_core.proofs.Laid.{list_in}

same_both : {A : Type 0} (b : Bool) (x : A) → cond b x x ≡ x
same_both true x = refl
same_both false x = refl

-- the map with what is said for each of the keys
abbrev pub fill : {A : Type 0} → (NodeId → Option A) → FinMap id_cmp A → List NodeId → FinMap id_cmp A
fill value m [] = m
fill value m (k ∷ ks) = fill value (put_some k (value k) m) ks

-- one more of the keys that are left
pub fill_next : {A : Type 0} (value : NodeId → Option A) (m next : FinMap id_cmp A) (ks : List NodeId) (i : ℕ) (k : NodeId) (v : Option A) → i < length ks → k ≡ get_or ks i k
    → next ≡ put_some k v m → v ≡ value k → fill value m (drop i ks) ≡ fill value next (drop (i + 1) ks)
fill_next {A} value m next ks i k v less at is e =
    ap (fill value m) (drop_next ks i k less at)
    ∙ ap (λ (n : FinMap id_cmp A). fill value n (drop (i + 1) ks)) (sym (is ∙ ap (λ (o : Option A). put_some k o m) e))

-- a map has at each key nothing or what is said for it
unfoldable IsRight : {A : Type 0} → (NodeId → Option A) → FinMap id_cmp A → Type 0
IsRight value m = (q : NodeId) → (get m q ≡ None) ⊎ (get m q ≡ value q)

module _ {A : Type 0} (value : NodeId → Option A) where
  put_other : (m : FinMap id_cmp A) (k q : NodeId) (v : Option A) → is_id q k ≡ false → get (put_some k v m) q ≡ get m q
  put_other m k q None e = refl
  put_other m k q (Some x) e = get-insert id_order.total m k x q ∙ ap (λ b. cond b (Some x) (get m q)) e

  put_here : (m : FinMap id_cmp A) (k q : NodeId) (v : Option A) → is_id q k ≡ true → (get m q ≡ None) ⊎ (get m q ≡ v) → get (put_some k v m) q ≡ v
  put_here m k q None e (inl h) = h
  put_here m k q None e (inr h) = h
  put_here m k q (Some x) e h = get-insert id_order.total m k x q ∙ ap (λ b. cond b (Some x) (get m q)) e

  right_at : (m : FinMap id_cmp A) (k q : NodeId) → is_id q k ≡ true → (get m q ≡ None) ⊎ (get m q ≡ value q) → (get m q ≡ None) ⊎ (get m q ≡ value k)
  right_at m k q e (inl h) = inl h
  right_at m k q e (inr h) = inr (h ∙ ap value (tie id_order.total id_order.same q k e))

  at_once : (m : FinMap id_cmp A) → IsRight value m → (k q : NodeId) → is_id q k ≡ true → get (put_some k (value k) m) q ≡ value q
  unfolding IsRight
  at_once m r k q e = put_here m k q (value k) e (right_at m k q e (r q)) ∙ ap value (sym (tie id_order.total id_order.same q k e))

  stays_right : (m : FinMap id_cmp A) (k : NodeId) → IsRight value m → IsRight value (put_some k (value k) m)
  unfolding IsRight
  stays_right m k r q =
      elim (decide (is_id q k)) [
        | inl t ↦ inr (at_once m r k q t)
        | inr t ↦ elim (r q) [
          | inl h ↦ inl (put_other m k q (value k) t ∙ h)
          | inr h ↦ inr (put_other m k q (value k) t ∙ h)
        ]
      ]

  get-fill : (ks : List NodeId) (m : FinMap id_cmp A) → IsRight value m → (q : NodeId) → get (fill value m ks) q ≡ cond (list_any (is_id q) ks) (value q) (get m q)
  get-fill [] m r q = refl
  get-fill (k ∷ ks) m r q =
      get-fill ks (put_some k (value k) m) (stays_right m k r) q
      ∙ elim (decide (is_id q k)) [
        | inl t ↦
            ap (cond (list_any (is_id q) ks) (value q)) (at_once m r k q t)
            ∙ same_both (list_any (is_id q) ks) (value q)
            ∙ sym (ap (λ b. cond (b || list_any (is_id q) ks) (value q) (get m q)) t)
        | inr t ↦
            ap (cond (list_any (is_id q) ks) (value q)) (put_other m k q (value k) t)
            ∙ sym (ap (λ b. cond (b || list_any (is_id q) ks) (value q) (get m q)) t)
      ]

-- filled with what a map has at each of some keys, among which are all of its own, a table is that map
pub fill_whole : {A : Type 0} (J : FinMap id_cmp A) (ks : List NodeId) → ((q : NodeId) → list_any (is_id q) ks ≡ false → get J q ≡ None) → fill (get J) empty ks ≡ J
unfolding IsRight
fill_whole {A} J ks all =
    same_map id_order.total id_order.same (fill (get J) empty ks) J (λ q.
    get-fill (get J) ks empty (λ u. inl (get-empty id_cmp u)) q
    ∙ elim (decide (list_any (is_id q) ks)) [
      | inl t ↦ ap (λ b. cond b (get J q) (get (empty {X = A} {R = id_cmp}) q)) t
      | inr t ↦ ap (λ b. cond b (get J q) (get (empty {X = A} {R = id_cmp}) q)) t ∙ get-empty id_cmp q ∙ sym (all q t)
    ])

module _ {A : Type 0} where
  same_fill : (f g : NodeId → Option A) (m : FinMap id_cmp A) (ks : List NodeId) → ((k : NodeId) → IsIn k ks → f k ≡ g k) → fill f m ks ≡ fill g m ks
  same_fill f g m [] h = refl
  same_fill f g m (k ∷ ks) h =
      ap (λ (v : Option A). fill f (put_some k v m) ks) (h k (inl refl)) ∙ same_fill f g (put_some k (g k) m) ks (λ q i. h q (inr i))

  -- a table filled with what is said for each of some keys has just that
  pub fill_tabulate : (value : NodeId → Option A) (ks : List NodeId) → fill value empty ks ≡ tabulate ks value
  fill_tabulate value ks =
      same_fill value (get (tabulate {R = id_cmp} ks value)) empty ks
      (λ k i. sym (get-tabulate id_order.total id_order.same ks value k ∙ ap (λ b. cond b (value k) None) (list_in k ks i)))
      ∙ fill_whole (tabulate ks value) ks (λ q e. get-tabulate id_order.total id_order.same ks value q ∙ ap (λ b. cond b (value q) None) e)

  -- filled with what a table has at its keys, a table is the same
  pub fill_same : (m : FinMap id_cmp A) → fill (get m) empty (keys m) ≡ m
  fill_same m = fill_whole m (keys m) (λ q e. none_of (get m q) (contains_key-keys m q ∙ e))
