use Rattle.std.proofs.Common.{◌≡◌, ◌≤◌, ◌-◌}
use Rattle.std.specs.Fn.{iterate}
use Rattle.sha2.specs.Sha256.{sha256}
use Rattle.psafe_file.proofs.keys.hash_again.Given as goal

abbrev pub invariant-iterations : goal.invariant-iterations
invariant-iterations l =
    (l.counter ≤ l.iterations)
    × (iterate sha256 (l.iterations - l.counter) l.digest ≡ iterate sha256 l.iterations l.fn.digest)
