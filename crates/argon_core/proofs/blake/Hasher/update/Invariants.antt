use Rattle.std.proofs.Common.{◌≡◌, ℕ, ◌+◌, ◌-◌, ◌≤◌, ◌++◌, List, length, take}
use Rattle.argon_core.specs.Hasher.{HasAbsorbed}
use Rattle.argon_core.proofs.blake.Hasher.update.Given as goal

abbrev pub decreases-pieces : goal.decreases-pieces
decreases-pieces l = length l.piece - l.done

abbrev pub invariant-pieces : goal.invariant-pieces
invariant-pieces l = record {
  within : l.done ≤ length l.piece;
  total : l.self.absorbed + l.self.filled ≡ l.fn.self.absorbed + l.fn.self.filled + l.done;
  holds : (size : ℕ) (message : List ℕ) → HasAbsorbed size l.fn.self message → HasAbsorbed size l.self (message ++ take l.done l.piece);
}
