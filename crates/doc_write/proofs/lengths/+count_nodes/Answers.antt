use Rattle.std.proofs.Common.{List, ap, arith, map}
use Rattle.vault_model.specs.SeenNodes.{entry_row, tree_seen}
use Rattle.vault_model.specs.declared.nodes.Entry.{Entry}
use Rattle.vault_model.specs.declared.nodes.Group.{Group}
use Rattle.doc_spelling.specs.Ranges.{count_all, entry_nodes, tree_nodes}
use Rattle.doc_write.proofs.Counts.{count_end, count_more}
use Rattle.doc_write.proofs.GroupPieces.{nodes_seen}
use Rattle.doc_write.proofs.lengths.+count_nodes.Goals as goal

pub loop-below-preserved : goal.loop-below-preserved
loop-below-preserved t c = record {
  sum = count_more tree_nodes tree_seen _ _ c.below-item.result c.loop-below.count _ _ c.loop-below-test.true c.below-item.is
      c.count_nodes-count.ensures c.loop-below.invariant.sum;
  most = omega (arith, c.count_nodes-count.ensures);
}

pub returns : goal.returns
returns t c =
    let sum = count_end tree_nodes tree_seen _ _ _ _ c.loop-below-test.false c.loop-below.invariant.most c.loop-below.invariant.sum in
    let entries = ap (λ (l : List Entry). count_all entry_nodes (map entry_row l)) c.as_slice.ensures in
    let groups = ap (λ (l : List Group). count_all tree_nodes (map tree_seen l)) c.as_slice-below-items.ensures in
    omega (arith, nodes_seen c.args.group.now, sum, entries, groups, c.count_entries-count.ensures, c.saturating_add.ensures)
