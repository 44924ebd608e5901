use Rattle.std.proofs.Common.{sym, ◌∙◌}
use Rattle.vault_model.specs.SeenNodes.{bare_version}
use Rattle.tree_edits.proofs.LastVersions.{above_spot}
use Rattle.tree_edits.proofs.histories.version_spot.Goals as goal

pub returns-then-is_above : goal.returns-then-is_above
returns-then-is_above c =
    sym (above_spot (bare_version c.args.version.now) c.args.versions.now c.requires (sym c.is_above.ensures ∙ c.if-is_above.true))
