-- The version that is put comes before the rest.
use Rattle.std.proofs.Common.{◌<◌, ◌+◌, ◌++◌, ◌∷◌, [], List, append_assoc, length, drop, map, arith, ap, sym, ◌∙◌}
use Rattle.vault_model.specs.declared.nodes.Version.{Version}
use Rattle.vault_model.specs.SeenNodes.{bare_version}
use Rattle.vault_model.specs.Shape.{BareVersion}
use Rattle.merge_tables.proofs.ListSteps.{drop_next}
use Rattle.merge_shapes.proofs.nodes.push_versions.Goals as goal

pub loop-version-preserved : goal.loop-version-preserved
loop-version-preserved c =
    let all = c.args.history.now in
    let i = c.loop-version.version-index in
    let before = c.loop-version.lent.items in
    let rest = map bare_version (drop (i + 1) all) in
    let lt : i < length all = omega arith in
    ap (λ (vs : List BareVersion). vs ++ rest) c.in_ok-push.ensures.items
    ∙ append_assoc before (c.lent_version.result ∷ []) rest
    ∙ ap (λ (v : BareVersion). before ++ v ∷ rest) c.lent_version.ensures
    ∙ ap (λ (vs : List Version). before ++ map bare_version vs) (sym (drop_next all i c.version-item.result lt c.version-item.is))
    ∙ c.loop-version.invariant
