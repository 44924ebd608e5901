use Rattle.std.proofs.Common.{take}
use Rattle.doc_attachments.proofs.Positions.{AreBelow}
use Rattle.doc_attachments.specs.Pools.{Finds}
use Rattle.doc_attachments.proofs.pools.positions_of.Given as goal

-- the positions find the binaries before this one
abbrev pub invariant-loop-position : goal.invariant-loop-position
invariant-loop-position l =
    record {
      finds : Finds l.positions (take l.position l.binaries);
      below : AreBelow l.positions l.position;
    }
