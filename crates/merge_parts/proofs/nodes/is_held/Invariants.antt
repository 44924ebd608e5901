use Rattle.std.proofs.Common.{◌≡◌, drop}
use Rattle.vault_model.specs.Join.{is_held}
use Rattle.merge_tables.specs.Databases.{databases}
use Rattle.merge_parts.proofs.nodes.is_held.Given as goal

abbrev pub invariant-loop-member : goal.invariant-loop-member
invariant-loop-member l = is_held (databases l.members) l.id ≡ is_held (databases (drop l.member-index l.members)) l.id
