use Rattle.std.proofs.Common.{drop}
use Rattle.cli_showing.proofs.FoundIds.{InSetOrLater}
use Rattle.cli_showing.proofs.paths.add_ids.Given as goal

abbrev pub invariant-loop-id : goal.invariant-loop-id
invariant-loop-id l = InSetOrLater l.set (drop l.id-index l.ids) l.ids
