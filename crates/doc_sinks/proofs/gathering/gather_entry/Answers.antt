use Rattle.std.proofs.Common.{List, map}
use Rattle.std.specs.List.{flat_map}
use Rattle.doc_sinks.proofs.GatheredPairs.{gathers_both, gathers_end, gathers_more, gathers_none}
use Rattle.doc_spelling.specs.Pool.{version_pairs}
use Rattle.vault_model.specs.SeenNodes.{bare_version}
use Rattle.vault_model.specs.declared.nodes.Version.{Version}
use Rattle.doc_sinks.proofs.gathering.gather_entry.Goals as goal

pub loop-version-init : goal.loop-version-init
loop-version-init c = gathers_none _ _

pub loop-version-preserved : goal.loop-version-preserved
loop-version-preserved c =
    gathers_more _ _ _ _ _ _ bare_version _ _ c.version-item.result c.loop-version-test.true c.version-item.is
    version_pairs c.loop-version.invariant c.in_ok-gather_version-2.ensures

pub returns : goal.returns
returns c =
    gathers_both _ _ _ _ _ _ _ _ c.in_ok-gather_version.ensures
    (gathers_end _ _ _ _ (λ (vs : List Version). flat_map version_pairs (map bare_version vs)) _ _ _ c.loop-version-test.false c.as_slice-version-items.ensures c.loop-version.invariant)
