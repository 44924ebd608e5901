use Rattle.std.proofs.Common.{◌≡◌, ◌+◌, ◌≤◌}
use Rattle.known_answers.proofs.macs.write.Given as goal

abbrev pub invariant-contents : goal.invariant-contents
invariant-contents l = (l.writer.index + 2 ≡ l.index) × (l.index ≤ 1000)
