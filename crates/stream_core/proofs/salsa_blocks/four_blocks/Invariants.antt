use Rattle.std.proofs.Common.{◌≡◌, ℕ, ◌<◌}
use Rattle.stream_core.specs.Salsa20.{double_rounds}
use Rattle.stream_core.specs.Lanes.{lane}
use Rattle.stream_core.proofs.salsa_blocks.four_blocks.Given as goal

abbrev pub invariant-rounds : goal.invariant-rounds
invariant-rounds l = (j : ℕ) → j < 4 → lane l.states j ≡ double_rounds l.n (lane l.first j)
