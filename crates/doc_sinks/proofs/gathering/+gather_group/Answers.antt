use Rattle.std.proofs.Common.{List, map, refl}
use Rattle.std.specs.List.{flat_map}
use Rattle.doc_sinks.proofs.GatheredPairs.{gathers_end, gathers_group, gathers_more, gathers_none, tree_pairs}
use Rattle.vault_model.specs.SeenNodes.{tree_seen}
use Rattle.vault_model.specs.declared.nodes.Group.{Group, out-Group}
use Rattle.doc_sinks.proofs.gathering.+gather_group.Goals as goal

pub loop-below-init : goal.loop-below-init
loop-below-init t c = gathers_none _ _

pub loop-below-preserved : goal.loop-below-preserved
loop-below-preserved t c =
    gathers_more _ _ _ _ _ _ tree_seen _ _ c.below-item.result c.loop-below-test.true c.below-item.is
    tree_pairs c.loop-below.invariant c.in_ok-gather_group.ensures

pub returns : goal.returns
returns t c =
    gathers_group _ _ _ _ _ _ c.args.group.now _ _ c.as_slice.ensures refl c.in_ok-gather_entries.ensures
    (gathers_end _ _ _ _ (λ (gs : List Group). flat_map tree_pairs (map tree_seen gs)) _ (out-Group c.args.group.now).groups _ c.loop-below-test.false c.as_slice-below-items.ensures c.loop-below.invariant)
