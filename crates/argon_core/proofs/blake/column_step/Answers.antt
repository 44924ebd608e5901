use Rattle.argon_core.specs.Blake2b.{column_step}
use Rattle.argon_core.proofs.blake.column_step.Goals as goal

pub returns : goal.returns
unfolding column_step
returns c = rw (← c.mix-v0.ensures, ← c.mix-v1.ensures, ← c.mix-v2.ensures, ← c.mix-v3.ensures)
