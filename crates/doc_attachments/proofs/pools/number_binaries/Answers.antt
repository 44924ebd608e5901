use Rattle.std.proofs.Common.{arith}
use Rattle.doc_attachments.proofs.Lists.{numbered_more}
use Rattle.doc_attachments.proofs.pools.number_binaries.Goals as goal

pub loop-item-preserved : goal.loop-item-preserved
loop-item-preserved c =
    let known = c.loop-item.invariant in
    record {
      number = omega (arith, known.number);
      made = numbered_more c.args.given.now c.loop-item.item-index c.item-item.result c.loop-item.binaries c.push_made.new.list c.loop-item.number c.numbered.result _
          c.loop-item-test.true c.item-item.is known.made c.numbered.ensures c.in_default.ensures;
    }
