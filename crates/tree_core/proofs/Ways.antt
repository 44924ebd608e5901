-- The cases of a change: at the group itself, below it, in the first group that has it, or in a later one.
use Rattle.std.proofs.Common.{◌≡◌, true, false, cond, List, ap}
use Rattle.vault_model.specs.Db.{NodeId}
use Rattle.vault_model.specs.Join.{is_id}
use Rattle.vault_model.specs.Shape.{EntryRecord, GroupRecord}
use Rattle.vault_model.specs.Tree.{Tree, Trees, beside, node}
use Rattle.tree_core.specs.Changes.{changed_at, changed_in, has_group}

module _ (u : NodeId) (f : Tree → Tree) where
  pub here : (v : NodeId) (r : GroupRecord) (es : List (NodeId × EntryRecord)) (ts : Trees) → is_id v u ≡ true → changed_at u f (node v r es ts) ≡ f (node v r es ts)
  here v r es ts p = ap (λ c. cond c (f (node v r es ts)) (node v r es (changed_in u f ts))) p

  pub below : (v : NodeId) (r : GroupRecord) (es : List (NodeId × EntryRecord)) (ts : Trees) → is_id v u ≡ false → changed_at u f (node v r es ts) ≡ node v r es (changed_in u f ts)
  below v r es ts p = ap (λ c. cond c (f (node v r es ts)) (node v r es (changed_in u f ts))) p

  pub first : (t : Tree) (ts : Trees) → has_group u t ≡ true → changed_in u f (beside t ts) ≡ beside (changed_at u f t) ts
  first t ts p = ap (λ c. cond c (beside (changed_at u f t) ts) (beside t (changed_in u f ts))) p

  pub later : (t : Tree) (ts : Trees) → has_group u t ≡ false → changed_in u f (beside t ts) ≡ beside t (changed_in u f ts)
  later t ts p = ap (λ c. cond c (beside (changed_at u f t) ts) (beside t (changed_in u f ts))) p
