use Rattle.std.proofs.Common.{◌≡◌, ◌+◌, length}
use Rattle.text_core.proofs.decoding.zeros.Given as goal

abbrev pub invariant-loop : goal.invariant-loop
invariant-loop l = (length l.zeros.bytes ≡ l.counter) × (l.counter + l.zeros.spare ≡ l.initial.len)
