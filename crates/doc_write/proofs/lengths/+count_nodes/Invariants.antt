use Rattle.std.proofs.Common.{◌≡◌, ◌+◌, ◌≤◌, drop, map, min}
use Rattle.doc_spelling.specs.Ranges.{count_all, tree_nodes}
use Rattle.vault_model.specs.SeenNodes.{tree_seen}
use Rattle.doc_write.proofs.lengths.+count_nodes.Given as goal

abbrev pub invariant-loop-below : goal.invariant-loop-below
invariant-loop-below l =
    record {
      sum : min (l.count + count_all tree_nodes (map tree_seen (drop l.below-index l.below-items))) 18446744073709551615
          ≡ min (l.initial.count + count_all tree_nodes (map tree_seen l.below-items)) 18446744073709551615;
      most : l.count ≤ 18446744073709551615;
    }
