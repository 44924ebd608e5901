use Rattle.std.proofs.Common.{◌≡◌, map}
use Rattle.std.specs.Vec.Iter.{into_iter_items}
use Rattle.import_tree.specs.SeenDrafts.{placed_seen}
use Rattle.import_tree.specs.Trees.{with_all_placed}
use Rattle.vault_model.specs.SeenNodes.{tree_seen}
use Rattle.import_tree.proofs.growing.put_all.Given as goal

-- the tree, with the places that are left, is that of all
abbrev pub invariant-loop-place : goal.invariant-loop-place
invariant-loop-place l = record {
  tree_is : with_all_placed (map placed_seen (into_iter_items l.place-iterator)) (tree_seen l.tree.root)
      ≡ with_all_placed (map placed_seen l.fn.places.items) (tree_seen l.initial.tree.root);
  meta_is : l.tree.meta ≡ l.initial.tree.meta;
}
