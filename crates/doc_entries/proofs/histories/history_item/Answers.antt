use Rattle.doc_forms.specs.Entries.{version_of}
use Rattle.doc_walk.proofs.Branches.{made_in, refused_in}
use Rattle.doc_entries.proofs.EndSteps.{item_ended}
use Rattle.doc_entries.proofs.histories.history_item.Goals as goal

pub returns-in-Ok : goal.returns-in-Ok
returns-in-Ok c =
    let steps = rw c.no_entry.ensures at c.in-Ok.ensures in
    item_ended c.args.tag.now (made_in version_of c.version_in.ensures steps)

pub returns-in-Err : goal.returns-in-Err
returns-in-Err c =
    let steps = rw c.no_entry.ensures at c.in-Err.ensures in
    item_ended c.args.tag.now (refused_in version_of steps)
