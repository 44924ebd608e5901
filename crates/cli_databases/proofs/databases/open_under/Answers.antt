use Rattle.cli_databases.proofs.Refusals.{unopened_under}
use Rattle.cli_databases.proofs.databases.open_under.Goals as goal

pub returns-in-Err-clause-told : goal.returns-in-Err-clause-told
returns-in-Err-clause-told g c = λ m is.
    unopened_under c.in-Err.fail c.unopened.result c.args.name.now m c.args.composite c.unopened.ensures (rw is at c.in-Err.ensures.told)
