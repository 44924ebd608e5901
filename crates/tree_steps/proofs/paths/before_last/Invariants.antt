use Rattle.std.proofs.Common.{◌≡◌, length}
use Rattle.tree_core.specs.NewPaths.{before_last}
use Rattle.tree_steps.proofs.paths.before_last.Given as goal

abbrev pub invariant-loop-front : goal.invariant-loop-front
invariant-loop-front l = before_last l.path ≡ before_last l.front

abbrev pub decreases-loop-front : goal.decreases-loop-front
decreases-loop-front l = length l.front
