use Rattle.std.proofs.Common.{arith}
use Rattle.doc_write.proofs.PutBinaries.{binaries_end, binaries_more}
use Rattle.doc_write.proofs.metas.put_binaries.Goals as goal

pub loop-item-preserved : goal.loop-item-preserved
loop-item-preserved g c = record {
  number = omega (arith, c.loop-item.invariant.number);
  puts = binaries_more _ _ _ _ _ _ _ c.loop-item-test.true c.item-item.is c.put_binary.ensures c.loop-item.invariant.puts;
}

pub returns : goal.returns
returns g c = binaries_end _ _ _ _ _ c.loop-item-test.false c.loop-item.invariant.puts
