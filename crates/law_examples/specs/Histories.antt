-- A call that adds an entry, as all of it is seen, and a history that it begins.
use Rattle.std.specs.Prelude.{ℕ, true, List, [], ◌∷◌, None, Some}
use Rattle.std.specs.FinMap.{insert}
use Rattle.cli_writing.specs.Writing.{NewFile}
use Rattle.merge_examples.specs.Cases.{example_docs}
use Rattle.keepass_call.specs.Call.{IsCall}
use Rattle.keepass_call.specs.Outcome.{Counts, Seen, Truth, counts, seen, truth}
use Rattle.call_conditions.specs.Copies.{CallSeen}
use Rattle.call_conditions.specs.Histories.{IsHistory, call, copied}
use Rattle.law_examples.specs.Files.{three_files}
use Rattle.law_examples.specs.PlainCopies.{plain_copies}
use Rattle.law_examples.specs.Calls.{add_generated, adding_dice, dice_left, with_dice}

-- every answer is that of what is reported
abbrev pub all_truthful : Truth
all_truthful = truth true true true

-- what is seen before it: nothing was written; the files and the dice are reported
abbrev pub before_adding : Seen
before_adding = seen (Some []) (Some []) (Some three_files) None [] (Some []) (Some adding_dice)
    all_truthful

-- what is seen after it, where this was printed and this file written
abbrev pub after_adding : List ℕ → NewFile → Seen
after_adding text file = seen (Some text) (Some [])
    (Some (insert three_files file.name file.bytes)) None [] (Some []) (Some dice_left)
    all_truthful

-- no fault was counted
abbrev pub no_counts : Counts
no_counts = counts 0 0 0 0 0 0

-- the call on the disk of the three files, of which it changes the first
abbrev pub adding_call : List ℕ → NewFile → CallSeen
adding_call text file = record {
  words = add_generated;
  time = 50;
  result = 0;
  before = before_adding;
  now = after_adding text file;
  counts = no_counts;
  counts' = no_counts;
  world = with_dice;
  disk = 0;
  target = 0;
  sources = [];
}

-- All that is promised of a call holds of it; and the three files have a history in which it is made,
-- and the second file becomes a copy of the first after it.
pub record ExampleHistory : Type 0 where
  pub text : List ℕ
  pub file : NewFile
  pub is_call : IsCall add_generated 50 0 before_adding (after_adding text file) no_counts no_counts
  pub is_history : IsHistory plain_copies example_docs (λ _. three_files)
      (call (adding_call text file) ∷ copied 1 0 ∷ [])
