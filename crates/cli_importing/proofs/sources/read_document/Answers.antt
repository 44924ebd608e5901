use Rattle.std.proofs.Common.{[]}
use Rattle.cli_files.specs.Files.{plain_document}
use Rattle.cli_importing.specs.Imports.{plain_or_refusal}
use Rattle.cli_importing.proofs.Refused.{document_refused, source_refused}
use Rattle.cli_importing.proofs.sources.read_document.Goals as goal

pub returns-in-Err-clause-gives : goal.returns-in-Err-clause-gives
returns-in-Err-clause-gives c =
    source_refused [] c.document_stop.result (plain_or_refusal c.args.name.now (plain_document c.args.bytes.bytes))
    (document_refused c.in-Err.fail c.document_stop.result c.args.name.now _ c.document_stop.ensures.stop c.in-Err.ensures)
