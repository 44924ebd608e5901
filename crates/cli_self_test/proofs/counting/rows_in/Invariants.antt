use Rattle.std.proofs.Common.{◌≡◌, ◌+◌, length}
use Rattle.cli_self_test.proofs.counting.rows_in.Given as goal

abbrev pub invariant-loop-value : goal.invariant-loop-value
invariant-loop-value g l = l.count + length l.value-iterator ≡ length l.initial.value-iterator
