use Rattle.std.proofs.Common.{◌≡◌, Some, map, drop}
use Rattle.vault_model.specs.Db.{Db}
use Rattle.vault_model.specs.Join.{meta_join}
use Rattle.vault_model.specs.Unite.{gather, join_options}
use Rattle.merge_tables.specs.Databases.{databases, shared_meta}
use Rattle.merge_parts.proofs.joins.absorb_all.Given as goal

abbrev pub invariant-loop-member : goal.invariant-loop-member
invariant-loop-member l =
    join_options meta_join (Some (shared_meta l.fn.joined)) (gather meta_join (map (λ (m : Db). Some m.meta) (databases l.members)))
    ≡ join_options meta_join (Some (shared_meta l.joined)) (gather meta_join (map (λ (m : Db). Some m.meta) (databases (drop l.member-index l.members))))
