use Rattle.std.proofs.Common.{◌≡◌, ◌-◌, length, take}
use Rattle.tree_edits.proofs.cutting.cut_end.Given as goal

abbrev pub invariant-loop-count : goal.invariant-loop-count
invariant-loop-count l = l.history ≡ take (length l.initial.history - l._count) l.initial.history
