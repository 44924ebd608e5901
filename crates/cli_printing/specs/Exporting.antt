-- What `export` prints.
use Rattle.std.specs.Prelude.{ℕ, List, None, Result, Ok, Err}
use Rattle.cli_messages.specs.Messages.{refusal_of}
use Rattle.cli_messages.specs.declared.answers.Refusal.{Refusal}
use Rattle.cli_needs.specs.declared.command.ExportFormat.{ExportFormat}
use Rattle.cli_needs.specs.declared.command.ExportFormat.TheVariants.{Csv, Xml}
use Rattle.cli_writing.specs.Writing.{write_answer}
use Rattle.cli_writing.specs.DocWrite.Written.{write_outcome}
use Rattle.cli_writing.specs.DocWrite.declared.writing.WriteFail.{WriteFail}
use Rattle.stream_core.specs.InnerStream.{NoKeystream}
use Rattle.table_core.specs.Rows.{table_of}
use Rattle.vault_model.specs.Tree.{BareDoc}
use Rattle.vault_model.specs.declared.forms.DocForm.TheVariants.{Plain}

-- A text, or the refusal about the file of this name.
abbrev pub text_or_refusal : List ℕ → Result (List ℕ) WriteFail → Result (List ℕ) Refusal
text_or_refusal file (Ok text) = Ok text
text_or_refusal file (Err why) = Err (refusal_of (write_answer why) file)

-- What `export` prints of the document of a file: the document by itself, which hides nothing and
-- has no binaries beside it, with nothing after it; or its table.
abbrev pub exported : List ℕ → ExportFormat → BareDoc → Result (List ℕ) Refusal
exported file Xml doc = text_or_refusal file (write_outcome Plain NoKeystream None doc)
exported file Csv doc = Ok (table_of doc)
