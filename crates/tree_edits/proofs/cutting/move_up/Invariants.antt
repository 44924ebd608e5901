use Rattle.tree_edits.proofs.MovedUp.{IsMoved}
use Rattle.tree_edits.proofs.cutting.move_up.Given as goal

abbrev pub invariant-loop-at : goal.invariant-loop-at
invariant-loop-at l = IsMoved l.initial.history l.by l.at l.history
