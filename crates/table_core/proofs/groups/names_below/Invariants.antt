use Rattle.std.proofs.Common.{◌≡◌, ◌++◌, drop, map}
use Rattle.table_core.proofs.groups.names_below.Given as goal

abbrev pub invariant-loop-above : goal.invariant-loop-above
invariant-loop-above l =
    map (λ n. n.now) l.below ++ map (λ n. n.now) (drop l.above-index l.names) ≡ map (λ n. n.now) l.names
