use Rattle.std.proofs.Common.{◌≡◌, ◌+◌, ◌≤◌, drop, map, min}
use Rattle.doc_forms.specs.SeenDocuments.{pool_item}
use Rattle.doc_spelling.specs.Ranges.{count_all}
use Rattle.doc_write.specs.Written.{binary_len}
use Rattle.doc_write.proofs.lengths.binaries_len.Given as goal

abbrev pub invariant-loop-item : goal.invariant-loop-item
invariant-loop-item l =
    record {
      sum : min (l.len + count_all binary_len (map pool_item (drop l.item-index l.items))) 18446744073709551615
          ≡ min (count_all binary_len (map pool_item l.items)) 18446744073709551615;
      most : l.len ≤ 18446744073709551615;
    }
