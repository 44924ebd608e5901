-- Where ids stand once, the entry of an id is found in the group that holds it.
use Rattle.std.proofs.Common.{◌≡◌, ◌≤◌, Bool, true, false, cond, ◌||◌, inl, inr, Option, None, Some, IsSome, is_some, find, option_and_then, refl, sym, ap, ◌∙◌, arith}
use Rattle.std.proofs.lemmas.Option.{same_Some}
use Rattle.vault_model.specs.Db.{NodeId}
use Rattle.vault_model.specs.Join.{is_id}
use Rattle.vault_model.specs.Shape.{EntryRecord}
use Rattle.vault_model.specs.Tree.{Tree, Trees, beside, node, node_ids, node_ids_all, none}
use Rattle.vault_model.proofs.Ids.{is_same_id, same_id}
use Rattle.vault_model.proofs.Tests.{apart, decide, is_false, or_cases}
use Rattle.tree_core.proofs.Options.{never}
use Rattle.tree_core.specs.Finding.{or_else}
use Rattle.tree_core.specs.Changes.{entry_at, group_among, group_with, has_group, have_group, holder, holder_among, own_entry}
use Rattle.tree_core.proofs.Counted.{occurs, occurs-append, one_if}
use Rattle.tree_core.proofs.Rows.{keys}

either : (a b : Bool) → b ≡ true → (a || b) ≡ true
either true b e = refl
either false b e = e

mutual
  -- a group that is there is counted
  pub has_counts : (g : NodeId) (t : Tree) → has_group g t ≡ true → 1 ≤ occurs g (node_ids t)
  has_counts g (node v r es ts) h =
      elim (or_cases (is_id v g) (have_group g ts) h) [
        | inl p ↦ let here = ap one_if (is_same_id g v (sym (same_id v g p))) in omega (arith, here)
        | inr k ↦
            let below = have_counts g ts k in
            let split = occurs-append g (keys es) (node_ids_all ts) in
            omega (arith, below, split)
      ]

  pub have_counts : (g : NodeId) (ts : Trees) → have_group g ts ≡ true → 1 ≤ occurs g (node_ids_all ts)
  have_counts g none h = apart false h refl
  have_counts g (beside t ts) h =
      let split = occurs-append g (node_ids t) (node_ids_all ts) in
      elim (or_cases (has_group g t) (have_group g ts) h) [
        | inl p ↦ let here = has_counts g t p in omega (arith, here, split)
        | inr k ↦ let below = have_counts g ts k in omega (arith, below, split)
      ]

one_of : {A : Type 0} (x y : Option A) → or_else x y ≡ cond (is_some x) x y
one_of None y = refl
one_of (Some x) y = refl

mutual
  -- the group that holds an entry is there
  holder_has : (u g : NodeId) (t : Tree) → holder u t ≡ Some g → has_group g t ≡ true
  holder_has u g (node v r es ts) h =
      elim (decide (is_some (find (λ (e : NodeId × EntryRecord). is_id e.0 u) es))) [
        | inl p ↦
            let same : v ≡ g = same_Some v g (ap (λ c. cond c (Some v) (holder_among u ts)) (sym p) ∙ h) in
            ap (λ b. b || have_group g ts) (is_same_id v g same)
        | inr p ↦
            let below = holders_have u g ts (ap (λ c. cond c (Some v) (holder_among u ts)) (sym p) ∙ h) in
            either (is_id v g) (have_group g ts) below
      ]

  holders_have : (u g : NodeId) (ts : Trees) → holder_among u ts ≡ Some g → have_group g ts ≡ true
  holders_have u g none h = never g h
  holders_have u g (beside t ts) k =
      let h = sym (one_of (holder u t) (holder_among u ts)) ∙ k in
      elim (decide (is_some (holder u t))) [
        | inl p ↦ ap (λ b. b || have_group g ts) (holder_has u g t (ap (λ c. cond c (holder u t) (holder_among u ts)) (sym p) ∙ h))
        | inr p ↦ either (has_group g t) (have_group g ts) (holders_have u g ts (ap (λ c. cond c (holder u t) (holder_among u ts)) (sym p) ∙ h))
      ]

mutual
  pub held_at : (u g : NodeId) (t : Tree) → ((x : NodeId) → occurs x (node_ids t) ≤ 1) → holder u t ≡ Some g → IsSome (entry_at g u t)
  held_at u g (node v r es ts) once h =
      elim (decide (is_some (find (λ (e : NodeId × EntryRecord). is_id e.0 u) es))) [
        | inl p ↦
            let same : v ≡ g = same_Some v g (ap (λ c. cond c (Some v) (holder_among u ts)) (sym p) ∙ h) in
            ap (λ c. is_some (option_and_then (own_entry u) (cond c (Some (node v r es ts)) (group_among g ts)))) (is_same_id v g same) ∙ p
        | inr p ↦
            let under = ap (λ c. cond c (Some v) (holder_among u ts)) (sym p) ∙ h in
            let below = have_counts g ts (holders_have u g ts under) in
            let split = occurs-append g (keys es) (node_ids_all ts) in
            let most = once g in
            let off : is_id v g ≡ false = is_false (is_id v g) (λ q. let here = ap one_if (is_same_id g v (sym (same_id v g q))) in absurd (omega (arith, below, split, most, here))) in
            ap (λ c. is_some (option_and_then (own_entry u) (cond c (Some (node v r es ts)) (group_among g ts)))) off
            ∙ held_among u g ts (λ x. let all = once x in let parts = occurs-append x (keys es) (node_ids_all ts) in omega (arith, all, parts)) under
      ]

  pub held_among : (u g : NodeId) (ts : Trees) → ((x : NodeId) → occurs x (node_ids_all ts) ≤ 1) → holder_among u ts ≡ Some g → IsSome (option_and_then (own_entry u) (group_among g ts))
  held_among u g none once h = never g h
  held_among u g (beside t ts) once k =
      let h = sym (one_of (holder u t) (holder_among u ts)) ∙ k in
      let split = occurs-append g (node_ids t) (node_ids_all ts) in
      let most = once g in
      elim (decide (is_some (holder u t))) [
        | inl p ↦
            let here = ap (λ c. cond c (holder u t) (holder_among u ts)) (sym p) ∙ h in
            ap (λ c. is_some (option_and_then (own_entry u) (cond c (group_with g t) (group_among g ts)))) (holder_has u g t here)
            ∙ held_at u g t (λ x. let all = once x in let parts = occurs-append x (node_ids t) (node_ids_all ts) in omega (arith, all, parts)) here
        | inr p ↦
            let later = ap (λ c. cond c (holder u t) (holder_among u ts)) (sym p) ∙ h in
            let below = have_counts g ts (holders_have u g ts later) in
            let off : has_group g t ≡ false = is_false (has_group g t) (λ q. let here = has_counts g t q in absurd (omega (arith, below, split, most, here))) in
            ap (λ c. is_some (option_and_then (own_entry u) (cond c (group_with g t) (group_among g ts)))) off
            ∙ held_among u g ts (λ x. let all = once x in let parts = occurs-append x (node_ids t) (node_ids_all ts) in omega (arith, all, parts)) later
      ]
