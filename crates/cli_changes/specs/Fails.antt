-- The answers of commands that change no document.
use Rattle.std.specs.Prelude.{◌≡◌, ◌⊎◌, ℕ, List, [], Result, Ok, Err, slice_index_or}
use Rattle.cli_messages.specs.Messages.{Refuses, refusal_of}
use Rattle.cli_messages.specs.Phases.{IsMemoryStop}
use Rattle.cli_messages.specs.declared.answers.Reason.{Reason}
use Rattle.cli_messages.specs.declared.answers.Reason.TheVariants as answer
use Rattle.cli_messages.specs.declared.answers.Refusal.{Refusal}
use Rattle.cli_messages.specs.declared.answers.Stop.{Stop}
use Rattle.cli_messages.specs.declared.answers.Stop.TheVariants.{NoMemory}
use Rattle.tree_core.specs.declared.fails.TreeFail.{TreeFail}
use Rattle.tree_core.specs.declared.fails.TreeFail.TheVariants as fail

-- The answer that a refusal to change a document is.
abbrev pub tree_answer : TreeFail → Reason
tree_answer fail.NoSuchPath = answer.NoSuchPath
tree_answer (fail.NoVersion number) = answer.NoVersion number
tree_answer (fail.NoField place) = answer.NoAttribute []
tree_answer fail.NoAttachment = answer.NoAttachment []
tree_answer fail.NameTaken = answer.NameTaken
tree_answer fail.AlreadyThere = answer.AlreadyThere
tree_answer fail.RootFixed = answer.RootFixed
tree_answer (fail.IntoItself id) = answer.IntoItself id
tree_answer fail.TooDeep = answer.TooDeep
tree_answer (fail.IdTaken id) = answer.IdTaken id
tree_answer (fail.StampLimit seconds) = answer.StampLimit
tree_answer fail.NoMemory = answer.OutOfMemory

-- The same where the command names the fields that are taken away, and an attachment.
abbrev pub named_answer : (unset : List (List ℕ)) → (attachment : List ℕ) → TreeFail → Reason
named_answer unset attachment (fail.NoField place) =
    answer.NoAttribute (slice_index_or unset place [])
named_answer unset attachment fail.NoAttachment = answer.NoAttachment attachment
named_answer unset attachment why = tree_answer why

-- What is made of a document of this file, or the refusal about it, where the command names the
-- fields that are taken away, and an attachment.
abbrev pub named_or_refusal : {A : Type 0} → List ℕ → List (List ℕ) → List ℕ → Result A TreeFail
    → Result A Refusal
named_or_refusal file unset attachment (Ok a) = Ok a
named_or_refusal file unset attachment (Err why) =
    Err (refusal_of (named_answer unset attachment why) file)

-- What is made of a document of this file, or the refusal about it.
abbrev pub change_or_refusal : {A : Type 0} → List ℕ → Result A TreeFail → Result A Refusal
change_or_refusal file (Ok a) = Ok a
change_or_refusal file (Err why) = Err (refusal_of (tree_answer why) file)

-- The stop of a command whose document, which is of this file, was not changed, where the command
-- names the fields that are taken away, and an attachment.
abbrev pub IsUnchangedBy : TreeFail → List ℕ → List (List ℕ) → List ℕ → Stop → Type 0
IsUnchangedBy fail.NoMemory file unset attachment stop = IsMemoryStop stop
IsUnchangedBy why file unset attachment stop =
    Refuses stop (refusal_of (named_answer unset attachment why) file) ⊎ (stop ≡ NoMemory)

-- The stop of a command whose document, which is of this file, was not changed.
abbrev pub IsUnchanged : TreeFail → List ℕ → Stop → Type 0
IsUnchanged fail.NoMemory file stop = IsMemoryStop stop
IsUnchanged why file stop = Refuses stop (refusal_of (tree_answer why) file)
