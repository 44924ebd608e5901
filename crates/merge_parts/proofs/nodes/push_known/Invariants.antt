use Rattle.std.proofs.Common.{◌≡◌, ◌++◌, drop}
use Rattle.merge_tables.specs.Databases.{databases}
use Rattle.merge_parts.specs.KnownIds.{known_ids}
use Rattle.merge_parts.proofs.nodes.push_known.Given as goal

abbrev pub invariant-loop-member : goal.invariant-loop-member
invariant-loop-member l = known_ids (databases l.members) ≡ l.known.items ++ known_ids (databases (drop l.member-index l.members))
