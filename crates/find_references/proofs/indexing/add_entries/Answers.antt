use Rattle.std.proofs.Common.{refl}
use Rattle.find_references.proofs.IndexSteps.{adds_entry, adds_none}
use Rattle.find_references.specs.inside.Indexed.{has_compared}
use Rattle.vault_model.specs.SeenNodes.{entry_row}
use Rattle.find_references.proofs.indexing.add_entries.Goals as goal

pub loop-entry-init : goal.loop-entry-init
loop-entry-init c = adds_none _ _ (λ bytes. refl)

pub loop-entry-preserved : goal.loop-entry-preserved
loop-entry-preserved c =
    adds_entry _ _ _ entry_row _ _ c.entry-item.result c.loop-entry-test.true c.entry-item.is
    entry_row (has_compared c.args.place) c.loop-entry.invariant c.in_ok-add_entry.ensures
