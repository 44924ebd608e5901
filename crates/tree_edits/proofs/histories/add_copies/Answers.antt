use Rattle.std.proofs.Common.{map, ap}
use Rattle.vault_model.specs.SeenNodes.{bare_version, entry_record}
use Rattle.tree_edits.proofs.RisingVersions.{all_rising, are_rising, rises_first, rises_last, rises_next}
use Rattle.tree_edits.proofs.histories.add_copies.Goals as goal

pub loop-version-init : goal.loop-version-init
loop-version-init c = rises_first (map bare_version c.as_slice-version-items.result.now) (map bare_version c.args.rising.now) (ap (map bare_version) c.requires)

pub loop-version-preserved : goal.loop-version-preserved
loop-version-preserved c =
    let items = c.as_slice-version-items.result.now in
    rises_next (map bare_version items) items c.loop-version.version-index c.version-item.result (map bare_version c.loop-version.rising) (map bare_version c.add_copy.new.versions)
    c.loop-version-test.true c.version-item.is c.in_ok-add_copy.ensures c.loop-version.invariant

pub returns : goal.returns
returns c =
    let items = c.as_slice-version-items.result.now in
    all_rising (entry_record c.args.entry.now) (map bare_version c.loop-version.rising) (map bare_version c.add_copy-2.new.versions)
    (rises_last items c.args.entry.now.history c.loop-version.version-index (map bare_version c.loop-version.rising) c.loop-version-test.false c.as_slice-version-items.ensures c.loop-version.invariant)
    c.in_ok-add_copy-2.ensures

pub add_copy-requires : goal.add_copy-requires
add_copy-requires c = are_rising _ _ _ c.loop-version.invariant

pub add_copy-requires-2 : goal.add_copy-requires-2
add_copy-requires-2 c = are_rising _ _ _ c.loop-version.invariant
