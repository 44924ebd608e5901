-- What `show` and `search` refuse with.
use Rattle.std.specs.Prelude.{ℕ, List, codes, Result, Ok, Err}
use Rattle.find_references.specs.declared.fail.FindFail.{FindFail}
use Rattle.find_references.specs.declared.fail.FindFail.TheVariants as fail
use Rattle.cli_messages.specs.Messages.{Refuses, refusal_of}
use Rattle.cli_messages.specs.Phases.{IsMemoryStop}
use Rattle.cli_messages.specs.declared.answers.Reason.TheVariants as answer
use Rattle.cli_messages.specs.declared.answers.Refusal.{Refusal}
use Rattle.cli_messages.specs.declared.answers.Stop.{Stop}

-- The refusal that comes of a search or of a value with references. A term without a text is a
-- fault of the words, and all else is about the file.
abbrev pub find_refusal : List ℕ → FindFail → Refusal
find_refusal file (fail.TooMuch count) = refusal_of answer.TooMuch file
find_refusal file (fail.EmptyTerm place) = refusal_of (answer.EmptyTerm place) (codes "words")
find_refusal file fail.NoMemory = refusal_of answer.OutOfMemory file

-- What is found in the document of a file, or the refusal.
abbrev pub found_or_refusal : {A : Type 0} → List ℕ → Result A FindFail → Result A Refusal
found_or_refusal file (Ok a) = Ok a
found_or_refusal file (Err why) = Err (find_refusal file why)

-- ---- how the code relates to it

-- The stop of a call that found nothing to show for this reason.
abbrev pub IsUnfound : FindFail → List ℕ → Stop → Type 0
IsUnfound fail.NoMemory file stop = IsMemoryStop stop
IsUnfound why file stop = Refuses stop (find_refusal file why)
