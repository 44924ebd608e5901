-- What the program promises of each call.
use Rattle.std.specs.Prelude.{◌≡◌, ◌≢◌, ◌≤◌, ◌⊎◌, ℕ, List, Some, Err, false}
use Rattle.cli_messages.specs.declared.answers.Refusal.{Refusal}
use Rattle.cli_needs.specs.Needs.{files_named}
use Rattle.keepass_call.specs.Held.{IsAuthentic, IsComplete, WritesTask}
use Rattle.keepass_call.specs.Merges.{MergesAgreed, MergesNothing}
use Rattle.keepass_call.specs.Outcome.{AsksCommand, Counts, ForEachWorld, IsAsSaid, IsCut, IsRefused, IsSafe, IsUsage, KeepsFaults, NoFaults, PrintsOfSomeFile, Seen, draws_words, may_store_by, outcome}
use Rattle.keepass_call.specs.Telling.{PrintsPage, TellsOneLine}
use Rattle.cli_pages.specs.Pages.{page_of}
use Rattle.cli_parse.specs.Words.{command_of}
use Rattle.cli_writing.specs.Writing.{IsSame, KeepsFiles}

-- A call with these words at a moment, its status, what is seen before and after it, and the counts
-- before and after. What holds *always* presumes nothing of the outside; the other parts hold for each
-- world that the outside reports and answered like.
pub record IsCall (words : List (List ℕ)) (time result : ℕ) (before now : Seen)
    (counts counts' : Counts) : Type 0 where
  -- Always: a status is at most 12.
  pub range : result ≤ 12
  -- Always: statuses have their causes, and a refusal changes no file.
  pub safe : IsSafe result before now counts counts'
  -- Always: at status 0 no count of faults rose.
  pub faultless : result ≡ 0 → KeepsFaults counts counts'
  -- Always: words that are no command that may write change no file, and words that are no command
  -- that draws, with a database or without one, draw nothing.
  pub reads_only : may_store_by (command_of words) ≡ false → IsSame before.store now.store
  pub draws_nothing : draws_words words ≡ false → now.stream ≡ before.stream
  -- Always: words that ask for a page print it, and touch nothing else.
  pub page : (text : List ℕ) → page_of words ≡ Some text
      → PrintsPage text result before now counts counts'
  -- Always: words that are no command, with a database or without one, and ask for no page touch
  -- nothing but standard error.
  pub usage : (refusal : Refusal) → command_of words ≡ Err refusal → AsksCommand words
      → IsUsage result before now
  -- Where the status is 0, or nothing failed and memory did not run out, all is as the outcome of
  -- the words says.
  pub as_said : ForEachWorld words before now (λ world. (result ≡ 0)
      ⊎ ((result ≢ 9) × NoFaults counts counts')
      → IsAsSaid (outcome words time world) result before now)
  -- A refusal is the outcome's, or reports a fault whose count rose.
  pub refused : ForEachWorld words before now (λ world.
      IsRefused (files_named (command_of words)) (outcome words time world) result before now
      counts counts')
  -- Where memory ran out or output failed, so much is as the outcome says.
  pub cut : ForEachWorld words before now (λ world. (result ≡ 9) ⊎ (result ≡ 10)
      → IsCut (outcome words time world) before now)
  -- Where memory ran out or output failed, and the words are to be a command, no file changed, or
  -- the file that was to be written holds the document that was made of those that the files hold, or
  -- the attachment that is taken out, and every other file is as it was.
  pub cut_writes : AsksCommand words → ForEachWorld words before now (λ world.
      (result ≡ 9) ⊎ (result ≡ 10)
      → KeepsFiles before.store now.store ⊎ WritesTask words time world before now)
  -- Whatever the status, standard error gains a prefix of one line and nothing else.
  pub one_line : ForEachWorld words before now (λ world. TellsOneLine
      (files_named (command_of words)) (outcome words time world) before now counts counts')
  -- Where the words are to be a command, what is printed at status 0 is made of documents that the
  -- files hold under the lines and the key files that were given, and a file that was written holds
  -- the document that was made of them, under the key that the command leaves: the one of before, or
  -- one that its words ask for; or it holds the attachment that is taken out, byte for byte.
  pub authentic : AsksCommand words → ForEachWorld words before now (λ world. result ≡ 0
      → IsAuthentic words time world before now)
  -- A merge of copies that are parts of an agreed set is never refused because ids clash or moves
  -- make a cycle, and at status 0 the target holds the join of all of them.
  pub agreed_merge : ForEachWorld words before now (λ world.
      MergesAgreed words time world result now)
  -- Where the target is settled and is the join of itself and the sources, agreed or not, as where
  -- they were merged into it before, a merge changes nothing at status 0.
  pub merge_again : ForEachWorld words before now (λ world.
      MergesNothing words time world result before now)
  -- What can be carried out is.
  pub complete : ForEachWorld words before now (λ world. IsComplete words time world result counts
      counts')
  -- Always: where the words are to be a command, what is printed at status 0 is made of documents that
  -- some files hold, and a file that was written holds the document that was made of them, or the
  -- attachment that is taken out.
  pub some_file : AsksCommand words → result ≡ 0 → PrintsOfSomeFile words time before now
