use Rattle.std.proofs.Common.{List, sym, ap, map, subst, ◌∙◌}
use Rattle.vault_model.specs.Db.{mark_cmp}
use Rattle.vault_model.specs.Join.{stats_join}
use Rattle.vault_model.specs.SeenNodes.{bare_version}
use Rattle.vault_model.specs.Shape.{BareVersion}
use Rattle.vault_model.specs.declared.nodes.Version.{Version}
use Rattle.tree_contents.specs.Spots.{spot}
use Rattle.tree_edits.specs.Versions.{AreRising}
use Rattle.tree_contents.proofs.Places.{joined_there, put_at_spot, spot_end, spot_seen}
use Rattle.tree_edits.proofs.histories.add_copy.Goals as goal

pub version_spot-requires : goal.version_spot-requires
version_spot-requires c = subst (λ (vs : List Version). AreRising (map bare_version vs)) (sym c.as_slice.ensures) c.requires

pub insert_copy-requires : goal.insert_copy-requires
insert_copy-requires c =
    let order = λ (v : BareVersion). mark_cmp (bare_version c.args.version.now).mark v.mark in
    spot_end (λ (v : Version). order (bare_version v)) c.args.versions.now c.in-Err.at c.version_spot.result
    (c.version_spot.ensures ∙ ap (λ (vs : List Version). spot order (map bare_version vs)) c.as_slice.ensures ∙ spot_seen bare_version order c.args.versions.now) c.in-Err.is

pub returns-in-Ok : goal.returns-in-Ok
returns-in-Ok c =
    let order = λ (v : BareVersion). mark_cmp (bare_version c.args.version.now).mark v.mark in
    let place = c.version_spot.ensures ∙ ap (λ (vs : List Version). spot order (map bare_version vs)) c.as_slice.ensures in
    joined_there bare_version order (bare_version c.args.version.now) (λ (w : BareVersion). record w { stats = stats_join c.args.version.now.stats w.stats })
    c.args.versions.now c.join_stats_at.new.versions c.in-Ok.at (sym place ∙ c.in-Ok.is) c.join_stats_at.ensures

pub returns-in-Err : goal.returns-in-Err
returns-in-Err c =
    let order = λ (v : BareVersion). mark_cmp (bare_version c.args.version.now).mark v.mark in
    let place = c.version_spot.ensures ∙ ap (λ (vs : List Version). spot order (map bare_version vs)) c.as_slice.ensures in
    put_at_spot bare_version order (bare_version c.args.version.now) (λ (w : BareVersion). record w { stats = stats_join c.args.version.now.stats w.stats })
    c.args.versions.now c.insert_copy.new.versions c.in-Err.at c.insert_copy.result (sym place ∙ c.in-Err.is) c.insert_copy.ensures
