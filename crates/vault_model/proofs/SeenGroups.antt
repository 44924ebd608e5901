-- A group in memory as a tree.
use Rattle.std.proofs.Common.{◌≡◌, map}
use Rattle.vault_model.specs.SeenNodes.{entry_row, tree_seen, tree_step}
use Rattle.vault_model.specs.Tree.{Tree, all_trees, node}
use Rattle.vault_model.specs.declared.nodes.Group.{Group, out-Group}
use Rattle.vault_model.specs.declared.nodes.Group.TheFolds.{fold_out-Group}

pub seen_group : (g : Group)
    → tree_seen g
    ≡ node (out-Group g).id (record { placed = (out-Group g).placed; previous = (out-Group g).previous; state = (out-Group g).state; view = (out-Group g).view })
    (map entry_row (out-Group g).entries)
    (all_trees (map tree_seen (out-Group g).groups))
seen_group g = fold_out-Group Tree tree_step g
