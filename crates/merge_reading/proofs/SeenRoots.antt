-- A group in memory as a tree that is read into columns, where the root has another id.
use Rattle.std.proofs.Common.{◌≡◌, ◌<◌, ◌≤◌, ◌-◌, ℕ, suc, List, ◌∷◌, map, length, get_or, drop, drop-cons, sym, ap, ◌∙◌, arith}
use Rattle.vault_model.specs.declared.nodes.Group.{Group, out-Group}
use Rattle.vault_model.specs.declared.nodes.Group.TheFolds.{fold_out-Group}
use Rattle.vault_model.specs.Db.{NodeId}
use Rattle.vault_model.specs.SeenNodes.{entry_row, tree_seen, tree_step}
use Rattle.vault_model.specs.Tree.{Tree, all_trees, id_of, new_previous, node, with_entry_previous, with_id, with_previous, with_previous_all}
use Rattle.merge_reading.specs.Columns.{tree_stay}

seen_group : (g : Group)
    → tree_seen g
    ≡ node (out-Group g).id
    (record { placed = (out-Group g).placed; previous = (out-Group g).previous; state = (out-Group g).state; view = (out-Group g).view })
    (map entry_row (out-Group g).entries)
    (all_trees (map tree_seen (out-Group g).groups))
seen_group g = fold_out-Group Tree tree_step g

pub seen_id : (g : Group) → id_of (tree_seen g) ≡ (out-Group g).id
seen_id g = ap id_of (seen_group g)

module _ (old new : NodeId) where
  pub seen_rooted : (g : Group)
      → with_previous old new (tree_seen g)
      ≡ node (out-Group g).id
      (record {
        placed = (out-Group g).placed;
        previous = new_previous old new (out-Group g).previous;
        state = (out-Group g).state;
        view = (out-Group g).view;
      })
      (map (with_entry_previous old new) (map entry_row (out-Group g).entries))
      (with_previous_all old new (all_trees (map tree_seen (out-Group g).groups)))
  seen_rooted g = ap (with_previous old new) (seen_group g)

  pub rooted_id : (g : Group) → id_of (with_previous old new (tree_seen g)) ≡ (out-Group g).id
  rooted_id g = ap id_of (seen_rooted g)

  pub rooted_stay : (g : Group)
      → tree_stay (with_previous old new (tree_seen g)) ≡ record { placed = (out-Group g).placed; previous = new_previous old new (out-Group g).previous }
  rooted_stay g = ap tree_stay (seen_rooted g)

  -- under its own id a group is as it was
  pub rooted_home : (g : Group) → with_id (out-Group g).id (with_previous old new (tree_seen g)) ≡ with_previous old new (tree_seen g)
  rooted_home g = ap (with_id (out-Group g).id) (seen_rooted g) ∙ sym (seen_rooted g)

pub from_before : {A : Type 0} (xs : List A) (at : ℕ) (x : A) → 0 < at → at ≤ length xs → x ≡ get_or xs (at - 1) x → drop (at - 1) xs ≡ x ∷ drop at xs
from_before xs at x some within is =
    let below : at - 1 < length xs = omega arith in
    let next : suc (at - 1) ≡ at = omega arith in
    drop-cons xs (at - 1) x below ∙ ap (λ y. y ∷ drop (suc (at - 1)) xs) (sym is) ∙ ap (λ n. x ∷ drop n xs) next
