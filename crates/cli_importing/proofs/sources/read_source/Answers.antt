use Rattle.cli_importing.proofs.HeldImports.{some_read}
use Rattle.cli_importing.proofs.sources.read_source.Goals as goal

pub returns-in-Ok-clause-some_file : goal.returns-in-Ok-clause-some_file
returns-in-Ok-clause-some_file g c = some_read c.read_by.result _ _ _ _ _ c.read_by.ensures.gives
