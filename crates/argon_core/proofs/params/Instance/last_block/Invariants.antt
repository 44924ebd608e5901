use Rattle.std.proofs.Common.{◌≡◌}
use Rattle.argon_core.specs.Argon2.{last_blocks}
use Rattle.argon_core.proofs.params.Instance.last_block.Given as goal

abbrev pub invariant-lanes : goal.invariant-lanes
invariant-lanes l = l.last.words ≡ last_blocks l.self l.lane
