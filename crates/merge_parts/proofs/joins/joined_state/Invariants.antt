use Rattle.std.proofs.Common.{◌≡◌, drop, map}
use Rattle.std.specs.FinMap.{get}
use Rattle.vault_model.specs.Db.{Db}
use Rattle.vault_model.specs.Join.{state_join}
use Rattle.vault_model.specs.Unite.{gather, join_options}
use Rattle.merge_tables.specs.Databases.{databases}
use Rattle.merge_parts.proofs.joins.joined_state.Given as goal

abbrev pub invariant-loop-member : goal.invariant-loop-member
invariant-loop-member l = gather state_join (map (λ (m : Db). get m.groups l.id) (databases l.members)) ≡ join_options state_join l.joined (gather state_join (map (λ (m : Db). get m.groups l.id) (databases (drop l.member-index l.members))))
