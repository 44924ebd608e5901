use Rattle.doc_sinks.proofs.GatheredPairs.{gathers_more, gathers_none}
use Rattle.doc_spelling.specs.Pool.{entry_pairs}
use Rattle.vault_model.specs.SeenNodes.{entry_row}
use Rattle.doc_sinks.proofs.gathering.gather_entries.Goals as goal

pub loop-entry-init : goal.loop-entry-init
loop-entry-init c = gathers_none _ _

pub loop-entry-preserved : goal.loop-entry-preserved
loop-entry-preserved c =
    gathers_more _ _ _ _ _ _ entry_row _ _ c.entry-item.result c.loop-entry-test.true c.entry-item.is
    entry_pairs c.loop-entry.invariant c.in_ok-gather_entry.ensures
