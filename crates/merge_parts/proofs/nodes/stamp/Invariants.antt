use Rattle.std.proofs.Common.{◌≡◌, drop, max}
use Rattle.vault_model.specs.Join.{stamp}
use Rattle.merge_tables.specs.Databases.{databases}
use Rattle.merge_parts.proofs.nodes.stamp.Given as goal

abbrev pub invariant-loop-member : goal.invariant-loop-member
invariant-loop-member l = stamp (databases l.members) l.id ≡ max l.greatest (stamp (databases (drop l.member-index l.members)) l.id)
