use Rattle.std.proofs.Common.{Ok, ap, sym}
use Rattle.doc_values.proofs.marks.appended.Goals as goal

pub returns-in-Ok : goal.returns-in-Ok
returns-in-Ok c = ap Ok (sym c.in-Ok.ensures.bytes)
