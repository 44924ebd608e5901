use Rattle.std.proofs.Common.{append_assoc, rules}
use Rattle.tree_removals.proofs.burying.gather_tombs.Goals as goal

pub returns : goal.returns
returns c = search (rules, append_assoc)
