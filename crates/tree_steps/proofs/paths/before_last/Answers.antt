use Rattle.std.proofs.Common.{◌∙◌, sym, arith}
use Rattle.tree_steps.proofs.Texts.{cut_at_other, cut_at_slash}
use Rattle.tree_steps.proofs.paths.before_last.Goals as goal

pub returns-then-byte-eq47 : goal.returns-then-byte-eq47
returns-then-byte-eq47 c = cut_at_slash c.loop-front.front.now (omega arith) c.if-byte-eq47.true ∙ sym c.loop-front.invariant

pub loop-front-preserved : goal.loop-front-preserved
loop-front-preserved c = c.loop-front.invariant ∙ cut_at_other c.loop-front.front.now (omega arith) c.if-byte-eq47.false
