use Rattle.std.proofs.Common.{ap}
use Rattle.doc_forms.specs.SeenDrafts.{entry_seen}
use Rattle.doc_entries.specs.SeenBuilders.{entry_known}
use Rattle.doc_entries.proofs.EndSteps.{entry_made, id_refused}
use Rattle.doc_entries.proofs.entries.whole_entry.Goals as goal

pub returns-in-Ok : goal.returns-in-Ok
returns-in-Ok c =
    let known = rw c.in-Ok.ensures.1 at c.id_of-id.ensures in
    entry_made c.args.offset (entry_known c.args.known) (entry_known c.in-Ok.both.0) c.in-Ok.both.1 (entry_seen c.entry_of.result) known (ap entry_known c.in-Ok.ensures.0) c.entry_of.ensures

pub returns-in-Err : goal.returns-in-Err
returns-in-Err c =
    let fails = rw c.in-Err.ensures at c.id_of-id.ensures in
    id_refused c.args.offset (entry_known c.args.known) c.in-Err.refusal fails
