-- A group in memory gone through node by node.
use Rattle.std.proofs.Common.{◌≡◌, Bool, List, Option, map, ap}
use Rattle.vault_model.specs.declared.nodes.Group.{Group, out-Group}
use Rattle.vault_model.specs.declared.nodes.Group.TheFolds.{fold_out-Group}
use Rattle.vault_model.specs.Db.{NodeId}
use Rattle.vault_model.specs.SeenNodes.{entry_row, tree_seen, tree_step}
use Rattle.vault_model.specs.Shape.{EntryRecord}
use Rattle.vault_model.specs.Tree.{Tree, all_trees, id_of}
use Rattle.merge_checks.specs.Clashes.{clash_below, clash_in_all, least_with_all}

pub seen_below : (test : NodeId → Bool) (g : Group) (so_far : Option NodeId)
    → clash_below test (tree_seen g) so_far
    ≡ clash_in_all test (all_trees (map tree_seen (out-Group g).groups))
    (least_with_all test (map (λ (e : NodeId × EntryRecord). e.0) (map entry_row (out-Group g).entries)) so_far)
seen_below test g so_far = ap (λ (t : Tree). clash_below test t so_far) (fold_out-Group Tree tree_step g)

pub seen_id : (g : Group) → id_of (tree_seen g) ≡ (out-Group g).id
seen_id g = ap id_of (fold_out-Group Tree tree_step g)
