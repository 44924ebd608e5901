use Rattle.std.proofs.Common.{arith}
use Rattle.doc_forms.specs.SeenDocuments.{pool_item}
use Rattle.doc_write.specs.Written.{binary_len}
use Rattle.doc_write.proofs.Counts.{count_end, count_more}
use Rattle.doc_write.proofs.lengths.binaries_len.Goals as goal

pub loop-item-preserved : goal.loop-item-preserved
loop-item-preserved c = record {
  sum = count_more binary_len pool_item _ _ c.item-item.result c.loop-item.len _ _ c.loop-item-test.true c.item-item.is
      (omega (arith, rw c.deref.ensures at c.len.ensures, c.saturating_add.ensures, c.saturating_add-len.ensures)) c.loop-item.invariant.sum;
  most = omega arith;
}

pub returns : goal.returns
returns c = count_end binary_len pool_item _ _ _ _ c.loop-item-test.false c.loop-item.invariant.most c.loop-item.invariant.sum
