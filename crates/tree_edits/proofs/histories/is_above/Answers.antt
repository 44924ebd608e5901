use Rattle.std.proofs.Common.{◌≡◌, eq-eqb, length, refl, ◌∙◌}
use Rattle.vault_model.specs.Db.{mark_cmp}
use Rattle.vault_model.specs.SeenNodes.{bare_version}
use Rattle.tree_edits.proofs.LastVersions.{above_end, above_none}
use Rattle.tree_edits.proofs.histories.is_above.Goals as goal

pub returns-then-count-eq0 : goal.returns-then-count-eq0
returns-then-count-eq0 c =
    eq-eqb (length c.args.versions.now) 0 c.if-count-eq0.true
    ∙ above_none (bare_version c.args.version.now) c.args.versions.now (length c.args.versions.now) refl c.if-count-eq0.true

pub returns-else-count-eq0 : goal.returns-else-count-eq0
returns-else-count-eq0 c =
    let order : c.compare_marks.result ≡ mark_cmp (bare_version c.args.version.now).mark (bare_version c.index-versions-count.result).mark =
    cc (c.compare_marks.ensures, c.index-versions-count.is) in
    c.is_gt.ensures
    ∙ above_end (bare_version c.args.version.now) c.args.versions.now (length c.args.versions.now) c.index-versions-count.result c.compare_marks.result refl c.if-count-eq0.false c.index-versions-count.is
    order
