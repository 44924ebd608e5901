-- The stop at a file that is no plain document.
use Rattle.std.specs.Prelude.{◌≡◌, ◌≢◌, ℕ, List}
use Rattle.doc_forms.specs.declared.fails.DocFail.{DocFail}
use Rattle.doc_forms.specs.declared.fails.DocFail.TheVariants.{NoMemory}
use Rattle.cli_messages.specs.Messages.{Refuses, refusal_of}
use Rattle.cli_messages.specs.Phases.{IsMemoryStop}
use Rattle.cli_messages.specs.declared.answers.Stop.{Stop}
use Rattle.cli_files.specs.Answers.{document_answer}

-- The stop of a call whose file of this name is no plain document: the refusal, unless memory ran
-- out.
pub record IsNoDocument (fail : DocFail) (name : List ℕ) (stop : Stop) : Type 0 where
  pub without_memory : fail ≡ NoMemory → IsMemoryStop stop
  pub refused : fail ≢ NoMemory → Refuses stop (refusal_of (document_answer fail) name)
