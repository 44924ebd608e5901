use Rattle.std.proofs.Common.{ap, sym, ◌∙◌, Ok}
use Rattle.doc_forms.specs.SeenDocuments.{read_seen}
use Rattle.cli_files.specs.Files.{plain_document}
use Rattle.cli_files.specs.SeenOpened.{opened_seen}
use Rattle.cli_databases.specs.Databases.{document_or_refusal}
use Rattle.cli_databases.proofs.NoDocuments.{no_document_cause, no_document_stops}
use Rattle.cli_databases.proofs.plain.build.Goals as goal

pub returns-in-Ok-clause-gives : goal.returns-in-Ok-clause-gives
returns-in-Ok-clause-gives c = ap (document_or_refusal c.args.name.now) c.in-Ok.ensures ∙ ap Ok (sym (ap opened_seen c.plain_by.ensures))

pub returns-in-Ok-clause-some_file : goal.returns-in-Ok-clause-some_file
returns-in-Ok-clause-some_file c = record {
  bytes = c.args.bytes.bytes;
  read = read_seen c.in-Ok.read;
  says = c.in-Ok.ensures;
  is = sym (ap opened_seen c.plain_by.ensures);
}

pub returns-in-Err-clause-gives : goal.returns-in-Err-clause-gives
returns-in-Err-clause-gives c =
    no_document_stops c.in-Err.fail c.undocumented.result c.args.name.now (plain_document c.args.bytes.bytes) c.undocumented.ensures c.in-Err.ensures

pub returns-in-Err-clause-cause : goal.returns-in-Err-clause-cause
returns-in-Err-clause-cause c = no_document_cause c.in-Err.fail c.undocumented.result c.args.name.now c.undocumented.ensures
