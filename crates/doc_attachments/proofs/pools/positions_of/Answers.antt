use Rattle.doc_attachments.proofs.Positions.{below_more, finds_more}
use Rattle.doc_attachments.proofs.pools.positions_of.Goals as goal

pub loop-position-preserved : goal.loop-position-preserved
loop-position-preserved c =
    let binary = c.index-binaries-position.result in
    let known = c.loop-position.invariant in
    record {
      finds = finds_more c.args.binaries.now c.loop-position.position binary c.loop-position.positions c.insert.new.self
          c.loop-position-test.true c.index-binaries-position.is c.in_ok-insert.ensures.updates known.finds known.below;
      below = below_more c.args.binaries.now c.loop-position.position binary c.loop-position.positions c.insert.new.self
          c.loop-position-test.true c.index-binaries-position.is c.in_ok-insert.ensures.updates known.below;
    }
