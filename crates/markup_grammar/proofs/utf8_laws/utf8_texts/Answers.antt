use Rattle.markup_grammar.proofs.Utf8Texts.{IsUtf8-from_run, run-from_IsUtf8}
use Rattle.markup_grammar.proofs.utf8_laws.utf8_texts.Goals as goal

pub returns-clause-from_run : goal.returns-clause-from_run
returns-clause-from_run c = IsUtf8-from_run

pub returns-clause-run : goal.returns-clause-run
returns-clause-run c = run-from_IsUtf8
