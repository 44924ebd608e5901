use Rattle.std.proofs.Common.{◌≡◌, drop, map}
use Rattle.vault_model.specs.Db.{mark_cmp}
use Rattle.vault_model.specs.SeenNodes.{bare_version}
use Rattle.vault_model.specs.Shape.{BareVersion}
use Rattle.tree_contents.specs.Spots.{further, spot}
use Rattle.tree_edits.proofs.histories.spot_from_start.Given as goal

abbrev pub invariant-loop-at : goal.invariant-loop-at
invariant-loop-at l =
    spot (λ (v : BareVersion). mark_cmp (bare_version l.version).mark v.mark) (map bare_version l.versions)
    ≡ further l.at (spot (λ (v : BareVersion). mark_cmp (bare_version l.version).mark v.mark) (map bare_version (drop l.at l.versions)))
