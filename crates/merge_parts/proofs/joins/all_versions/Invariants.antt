use Rattle.std.proofs.Common.{◌≡◌, drop, map}
use Rattle.std.specs.FinMap.{get}
use Rattle.vault_model.specs.Db.{Db}
use Rattle.vault_model.specs.Join.{stats_join}
use Rattle.vault_model.specs.Unite.{gather, join_options, unite}
use Rattle.merge_tables.specs.Databases.{databases}
use Rattle.merge_parts.proofs.joins.all_versions.Given as goal

abbrev pub invariant-loop-member : goal.invariant-loop-member
invariant-loop-member l = gather (unite stats_join) (map (λ (m : Db). get m.entries l.id) (databases l.members)) ≡ join_options (unite stats_join) l.joined (gather (unite stats_join) (map (λ (m : Db). get m.entries l.id) (databases (drop l.member-index l.members))))
