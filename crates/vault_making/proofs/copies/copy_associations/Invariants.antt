use Rattle.std.proofs.Common.{◌≡◌, ◌++◌, drop}
use Rattle.vault_making.proofs.copies.copy_associations.Given as goal

abbrev pub invariant-loop-pair : goal.invariant-loop-pair
invariant-loop-pair l = l.copy ++ drop l.pair-index l.pairs ≡ l.pairs
