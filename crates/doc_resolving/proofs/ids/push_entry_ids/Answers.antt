use Rattle.doc_resolving.proofs.NodeIds.{one_entry_more}
use Rattle.doc_resolving.proofs.ids.push_entry_ids.Goals as goal

pub loop-entry-preserved : goal.loop-entry-preserved
loop-entry-preserved c =
    one_entry_more _ c.loop-entry.ids.items c.push.new.self.items c.args.entries.now c.loop-entry.entry-index c.entry-item.result
    c.loop-entry-test.true c.entry-item.is c.loop-entry.invariant c.in_ok-push.ensures.items
