-- The first takes in the rest.
use Rattle.std.proofs.Common.{◌-◌, List, Some, length, drop, take, map, ap, sym, ◌∙◌}
use Rattle.std.specs.Option.{unwrap_or}
use Rattle.vault_model.specs.Db.{Db, SharedMeta}
use Rattle.vault_model.specs.Join.{meta_join, no_meta}
use Rattle.vault_model.specs.Unite.{gather, join_options}
use Rattle.merge_core.proofs.SoundJoin.{join_meta}
use Rattle.merge_tables.specs.declared.databases.Database.{Database}
use Rattle.merge_tables.specs.Databases.{databases}
use Rattle.merge_parts.proofs.Members.{first_and_rest}
use Rattle.merge_parts.proofs.joins.joined_meta.Goals as goal

pub returns-in-Ok : goal.returns-in-Ok
returns-in-Ok c =
    let members = c.args.members.now in
    let rest = gather meta_join (map (λ (m : Db). Some m.meta) (databases (take (length members - 1) (drop 1 members)))) in
    sym (join_meta (databases members)
    ∙ ap (λ o. unwrap_or o no_meta)
    (ap (λ (ms : List Database). gather meta_join (map (λ (m : Db). Some m.meta) (databases ms))) (first_and_rest members c.index-members-0.result c.requires)
    ∙ ap (λ (s : SharedMeta). join_options meta_join (Some s) rest) (sym c.in_ok-joined.ensures)
    ∙ sym c.in-Ok.ensures))
