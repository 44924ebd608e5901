use Rattle.std.proofs.Common.{arith}
use Rattle.std.proofs.lemmas.List.{length-map}
use Rattle.vault_model.specs.SeenNodes.{bare_version, entry_row}
use Rattle.doc_spelling.specs.Ranges.{entry_nodes}
use Rattle.doc_write.proofs.Counts.{count_end, count_more}
use Rattle.doc_write.proofs.lengths.count_entries.Goals as goal

pub loop-entry-preserved : goal.loop-entry-preserved
loop-entry-preserved c = record {
  sum = count_more entry_nodes entry_row _ _ c.entry-item.result c.loop-entry.count _ _ c.loop-entry-test.true c.entry-item.is
      (omega (arith, length-map c.entry-item.result.history bare_version, c.saturating_add.ensures, c.saturating_add-count.ensures, c.len.ensures)) c.loop-entry.invariant.sum;
  most = omega arith;
}

pub returns : goal.returns
returns c = count_end entry_nodes entry_row _ _ _ _ c.loop-entry-test.false c.loop-entry.invariant.most c.loop-entry.invariant.sum
