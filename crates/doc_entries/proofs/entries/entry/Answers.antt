use Rattle.doc_entries.proofs.EndSteps.{entry_ended}
use Rattle.doc_entries.specs.EntrySteps.{whole_entry}
use Rattle.doc_walk.proofs.Branches.{then_in, then_refused}
use Rattle.doc_entries.proofs.entries.entry.Goals as goal

pub returns-in-Ok : goal.returns-in-Ok
returns-in-Ok c =
    let steps = rw c.no_entry.ensures at c.in-Ok.ensures in
    entry_ended c.args.tag.now (then_in (whole_entry c.args.tag.now.offset) steps c.whole_entry.ensures)

pub returns-in-Err : goal.returns-in-Err
returns-in-Err c =
    let steps = rw c.no_entry.ensures at c.in-Err.ensures in
    entry_ended c.args.tag.now (then_refused (whole_entry c.args.tag.now.offset) steps)
