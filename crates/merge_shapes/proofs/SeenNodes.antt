-- A group in memory as a tree that is put into tables.
use Rattle.std.proofs.Common.{◌≡◌, List, map, sym, ap, ◌∙◌}
use Rattle.std.specs.FinMap.{insert}
use Rattle.vault_model.specs.declared.nodes.Group.{Group, out-Group}
use Rattle.vault_model.specs.declared.nodes.Group.TheFolds.{fold_out-Group}
use Rattle.vault_model.specs.Db.{NodeId}
use Rattle.vault_model.specs.SeenNodes.{entry_row, tree_seen, tree_step}
use Rattle.vault_model.specs.Shape.{Children}
use Rattle.vault_model.specs.Tree.{Tree, all_trees, id_of, node}
use Rattle.merge_shapes.specs.declared.nodes.NodeTables.{NodeTables}
use Rattle.merge_shapes.specs.NodeTables.{children_in, with_rows, with_nodes, with_all_nodes}

pub seen_group : (g : Group)
    → tree_seen g
    ≡ node (out-Group g).id
    (record { placed = (out-Group g).placed; previous = (out-Group g).previous; state = (out-Group g).state; view = (out-Group g).view })
    (map entry_row (out-Group g).entries)
    (all_trees (map tree_seen (out-Group g).groups))
seen_group g = fold_out-Group Tree tree_step g

pub seen_id : (g : Group) → id_of (tree_seen g) ≡ (out-Group g).id
seen_id g = ap id_of (seen_group g)

-- what is put of a group in memory: itself, its entries, and then the groups in it
pub seen_nodes : (g : Group) (n : NodeTables)
    → with_nodes (tree_seen g) n
    ≡ with_all_nodes (all_trees (map tree_seen (out-Group g).groups))
    (with_rows (map entry_row (out-Group g).entries)
    (record n {
      groups = insert n.groups (out-Group g).id
          (record { placed = (out-Group g).placed; previous = (out-Group g).previous; state = (out-Group g).state; view = (out-Group g).view });
      children = insert n.children (out-Group g).id (children_in (tree_seen g));
    }))
seen_nodes g n =
    ap (λ (t : Tree). with_nodes t n) (seen_group g)
    ∙ ap
    (λ (t : Tree). with_all_nodes (all_trees (map tree_seen (out-Group g).groups))
    (with_rows (map entry_row (out-Group g).entries)
    (record n {
      groups = insert n.groups (out-Group g).id
          (record { placed = (out-Group g).placed; previous = (out-Group g).previous; state = (out-Group g).state; view = (out-Group g).view });
      children = insert n.children (out-Group g).id (children_in t);
    })))
    (sym (seen_group g))

abbrev pub children : List NodeId → List NodeId → Children
children es gs = record { entries = es; groups = gs }

pub same_lists : (es fs gs hs : List NodeId) → es ≡ fs → gs ≡ hs → children es gs ≡ children fs hs
same_lists es fs gs hs p q = λ i. record { entries = p i; groups = q i }
