use Rattle.std.proofs.Common.{◌≡◌, ◌++◌}
use Rattle.merge_twins.specs.Rules.{rules_of}
use Rattle.merge_twins.specs.Twins.{twin_tombs}
use Rattle.merge_twins.proofs.making.put_tombs.Given as goal

abbrev pub invariant-loop-number : goal.invariant-loop-number
invariant-loop-number l = l.tombs ≡ l.fn.tombs ++ twin_tombs (rules_of l.which) l.number
