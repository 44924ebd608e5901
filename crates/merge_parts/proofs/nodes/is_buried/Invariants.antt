use Rattle.std.proofs.Common.{◌≡◌, drop}
use Rattle.std.specs.FinMap.{get}
use Rattle.std.specs.List.{list_any}
use Rattle.vault_model.specs.Db.{Db}
use Rattle.vault_model.specs.Join.{buried, is_from}
use Rattle.merge_tables.specs.Databases.{databases}
use Rattle.merge_parts.proofs.nodes.is_buried.Given as goal

abbrev pub invariant-loop-member : goal.invariant-loop-member
invariant-loop-member l = buried (databases l.members) l.id ≡ list_any (λ (m : Db). is_from l.time (get m.tombs l.id)) (databases (drop l.member-index l.members))
