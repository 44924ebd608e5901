-- Histories of calls on copies of a database, where files are also copied over one another; and what
-- each event does to the documents of the copies.
use Rattle.std.specs.Prelude.{◌≡◌, ◌≢◌, ◌<◌, ◌⊎◌, ℕ, true, false, cond, nat_eq, if◌then◌else◌, List, [], ◌∷◌, Option, None, Some, Ok}
use Rattle.std.specs.FinMap.{get, insert}
use Rattle.std.specs.Option.{unwrap_or}
use Rattle.outside_core.specs.Files.{FileMap}
use Rattle.vault_model.specs.Tree.{BareDoc, IsDoc}
use Rattle.content_condition_laws.specs.RunLaws.TrimmedRuns.{DocEvent, IsRun, growth, joining, overwriting, world_after}
use Rattle.cli_needs.specs.declared.command.Command.{Command}
use Rattle.cli_parse.specs.Words.{command_of}
use Rattle.keepass_call.specs.CliFiles.Tasks.{Task}
use Rattle.keepass_call.specs.CliCommands.Commands.{may_write}
use Rattle.keepass_call.specs.Call.{IsCall}
use Rattle.keepass_call.specs.Held.{IsTask}
use Rattle.keepass_call.specs.Merges.{merges}
use Rattle.keepass_call.specs.Outcome.{IsWorldOf, may_write_by}
use Rattle.call_conditions.specs.Copies.{AreApart, CallSeen, Copies, CopyHolds, Disks, OpensCopies}

-- ---- events

-- A call; or the file of a copy becomes that of another, as where it is carried on a stick.
pub data Event : Type 0 where
  call : CallSeen → Event
  copied : ℕ → ℕ → Event

-- A call keeps what is promised of calls, over a world that the outside reports and answers like and
-- that has the files of the copies as they are. A command that may write opens copies by their keys.
pub record IsCallOn (copies : Copies) (disks : Disks) (c : CallSeen) : Type 0 where
  pub is_call : IsCall c.words c.time c.result c.before c.now c.counts c.counts'
  pub told : IsWorldOf c.words c.before c.now c.world
  pub files : (i : ℕ) → i < copies.count → (copies.copy i).disk ≡ c.disk
      → get c.world.files (copies.copy i).name ≡ get (disks c.disk) (copies.copy i).name
  pub opens : (task : Task) → IsTask c.words c.time c.world task → may_write task.command ≡ true
      → OpensCopies copies c task

-- Such a call may be made, and any copy may become one of the same key.
abbrev pub IsEvent : Copies → Disks → Event → Type 0
IsEvent copies disks (call c) = IsCallOn copies disks c
IsEvent copies disks (copied i j) = (i < copies.count) × (j < copies.count)
    × ((copies.copy i).key ≡ (copies.copy j).key)

-- The disks, of which one has these files now.
abbrev pub put_files : Disks → ℕ → FileMap → Disks
put_files disks disk files = λ k. cond (nat_eq k disk) files (disks k)

-- Files with one of this name that has these bytes, if any.
abbrev pub with_bytes : FileMap → List ℕ → Option (List ℕ) → FileMap
with_bytes files name None = files
with_bytes files name (Some bytes) = insert files name bytes

-- The disks after an event.
abbrev pub disks_after : Copies → Disks → Event → Disks
disks_after copies disks (call c) =
    put_files disks c.disk (unwrap_or c.now.store.files (disks c.disk))
disks_after copies disks (copied i j) = put_files disks (copies.copy i).disk
    (with_bytes (disks (copies.copy i).disk) (copies.copy i).name
    (get (disks (copies.copy j).disk) (copies.copy j).name))

-- The disks after several, one after another.
abbrev pub disks_at_end : Copies → Disks → List Event → Disks
disks_at_end copies disks [] = disks
disks_at_end copies disks (e ∷ es) = disks_at_end copies (disks_after copies disks e) es

-- Each event is one that may be.
abbrev pub AreEvents : Copies → Disks → List Event → Type 0
AreEvents copies disks [] = Unit {0}
AreEvents copies disks (e ∷ es) = IsEvent copies disks e
    × AreEvents copies (disks_after copies disks e) es

-- A history: copies apart, files that hold documents as it begins, and events.
pub record IsHistory (copies : Copies) (docs : ℕ → BareDoc) (disks : Disks) (es : List Event) :
    Type 0 where
  pub apart : AreApart copies
  pub are_docs : (i : ℕ) → IsDoc (docs i)
  pub hold : (i : ℕ) → i < copies.count → CopyHolds disks (copies.copy i) (docs i)
  pub events : AreEvents copies disks es

-- ---- what the events did

-- A command makes this document of its target: a merge merges the sources into it.
abbrev pub made_by : Command → CallSeen → BareDoc → DocEvent
made_by command c e = if merges command then joining c.target c.sources e else growth c.target e

-- A call did something: its status is 0, or it was cut off, and its words are a command that may
-- write.
pub record Did (c : CallSeen) (x : DocEvent) : Type 0 where
  pub status : (c.result ≡ 0) ⊎ ((c.result ≡ 9) ⊎ (c.result ≡ 10))
  pub command : Command
  pub is_command : command_of c.words ≡ Ok command
  pub writes : may_write command ≡ true
  pub doc : BareDoc
  pub is : x ≡ made_by command c doc

-- What an event did, if anything. A call did nothing only where its status is not 0, or where its
-- words are no command that may write.
abbrev pub IsDeed : Event → Option DocEvent → Type 0
IsDeed (call c) None = (c.result ≢ 0) ⊎ (may_write_by (command_of c.words) ≡ false)
IsDeed (call c) (Some x) = Did c x
IsDeed (copied i j) None = ⊥
IsDeed (copied i j) (Some x) = x ≡ overwriting i j

-- Each of these is what an event did.
abbrev pub AreDeeds : List Event → List (Option DocEvent) → Type 0
AreDeeds [] [] = Unit {0}
AreDeeds [] (x ∷ xs) = ⊥
AreDeeds (e ∷ es) [] = ⊥
AreDeeds (e ∷ es) (x ∷ xs) = IsDeed e x × AreDeeds es xs

-- Those that are something.
abbrev pub done : List (Option DocEvent) → List DocEvent
done [] = []
done (None ∷ xs) = done xs
done (Some x ∷ xs) = x ∷ done xs

-- The events did this, which is a run of the documents; and after it the files hold the documents of
-- the run.
pub record IsRunOf (copies : Copies) (docs : ℕ → BareDoc) (disks : Disks) (es : List Event)
    (xs : List (Option DocEvent)) : Type 0 where
  pub deeds : AreDeeds es xs
  pub run : IsRun docs (done xs)
  pub hold : (i : ℕ) → i < copies.count → CopyHolds (disks_at_end copies disks es) (copies.copy i)
      (world_after docs (done xs) i).doc
