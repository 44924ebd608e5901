use Rattle.std.proofs.Common.{◌≡◌, ◌++◌, drop}
use Rattle.vault_model.specs.Join.{ids}
use Rattle.merge_tables.specs.Databases.{databases}
use Rattle.merge_parts.proofs.nodes.push_held.Given as goal

abbrev pub invariant-loop-member : goal.invariant-loop-member
invariant-loop-member l = ids (databases l.members) ≡ l.held.items ++ ids (databases (drop l.member-index l.members))
