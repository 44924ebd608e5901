use Rattle.std.proofs.Common.{Some, None}
use Rattle.table_reading.proofs.Hosts.{up_to_found}
use Rattle.table_reading.proofs.cells.up_to.Goals as goal

pub returns-in-Some : goal.returns-in-Some
returns-in-Some c = up_to_found c.args.stop c.args.text.now (Some c.in-Some.parts) c.in-Some.ensures.cases c.requires

pub returns-in-None : goal.returns-in-None
returns-in-None c = up_to_found c.args.stop c.args.text.now None c.in-None.ensures.cases c.requires
