use Rattle.std.proofs.Common.{◌≡◌, ◌+◌, ◌≤◌, drop, map, min}
use Rattle.doc_spelling.specs.Ranges.{count_all, entry_nodes}
use Rattle.vault_model.specs.SeenNodes.{entry_row}
use Rattle.doc_write.proofs.lengths.count_entries.Given as goal

abbrev pub invariant-loop-entry : goal.invariant-loop-entry
invariant-loop-entry l =
    record {
      sum : min (l.count + count_all entry_nodes (map entry_row (drop l.entry-index l.entries))) 18446744073709551615
          ≡ min (l.initial.count + count_all entry_nodes (map entry_row l.entries)) 18446744073709551615;
      most : l.count ≤ 18446744073709551615;
    }
