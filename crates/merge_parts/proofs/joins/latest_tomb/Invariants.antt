use Rattle.std.proofs.Common.{◌≡◌, drop, map, max}
use Rattle.std.specs.FinMap.{get}
use Rattle.vault_model.specs.Db.{Db}
use Rattle.vault_model.specs.Unite.{gather, join_options}
use Rattle.merge_tables.specs.Databases.{databases}
use Rattle.merge_parts.proofs.joins.latest_tomb.Given as goal

abbrev pub invariant-loop-member : goal.invariant-loop-member
invariant-loop-member l = gather max (map (λ (m : Db). get m.tombs l.id) (databases l.members)) ≡ join_options max l.latest (gather max (map (λ (m : Db). get m.tombs l.id) (databases (drop l.member-index l.members))))
