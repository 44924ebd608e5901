-- Histories of calls that agree by what is called: nothing is deleted for good, no group is moved, and no
-- id is drawn twice.
use Rattle.std.specs.Prelude.{◌≡◌, ◌<◌, ℕ, true, false, List, [], ◌∷◌, Option, None, Some}
use Rattle.vault_model.specs.Db.{Db}
use Rattle.vault_model.specs.Join.{IsWithin, Agreed}
use Rattle.vault_model.specs.Tree.{BareDoc, db_in}
use Rattle.history_laws.specs.Current.{current_view}
use Rattle.command_laws.specs.Adding.{IsUnused}
use Rattle.run_laws.specs.FreeRuns.{known_by, known_by_all}
use Rattle.run_laws.specs.TrimmedRuns.{DocEvent}
use Rattle.cli_files.specs.Tasks.{Task}
use Rattle.cli_commands.specs.Commands.{may_write}
use Rattle.change_laws.specs.Adding.{OnlyAddsBy, made_id}
use Rattle.keepass_call.specs.Held.{IsTask}
use Rattle.keepass_call.specs.Merges.{merges}
use Rattle.call_conditions.specs.Copies.{CallSeen, Copies, CopyHolds, Disks}
use Rattle.call_conditions.specs.Histories.{Event, IsHistory, IsRunOf, call, copied, disks_at_end, done}
use Rattle.call_histories.specs.HistoryLaws.{learned_in}

-- A call that may write and is no merge only adds to its document: it adds, edits or restores an
-- entry, puts an attachment to one or takes it away, makes a group, moves an entry, or puts one into
-- the bin; and the id that it draws is that of no node of the known databases, and of none that they
-- deleted.
abbrev pub IsFreeCall : List Db → CallSeen → Type 0
IsFreeCall known c = (task : Task) → IsTask c.words c.time c.world task
    → may_write task.command ≡ true → merges task.command ≡ false
    → OnlyAddsBy c.time task.command c.world.dice task.opened.doc
    × IsUnused known (made_id task.command task.opened.doc c.world.dice)

-- so is each call among the events; a merge, a copy, and what only reads may always be
abbrev pub IsFreeEvent : List Db → Event → Type 0
IsFreeEvent known (call c) = IsFreeCall known c
IsFreeEvent known (copied i j) = Unit {0}

-- the known databases after what an event did: each that a call made, but for merges
abbrev pub known_with : List Db → Option DocEvent → List Db
known_with known None = known
known_with known (Some x) = known_by known x

-- each event is free, where the databases are known that were there at the beginning or made before
abbrev pub AreFreeEvents : List Db → List Event → List (Option DocEvent) → Type 0
AreFreeEvents known [] xs = Unit {0}
AreFreeEvents known (e ∷ es) [] = Unit {0}
AreFreeEvents known (e ∷ es) (x ∷ xs) = IsFreeEvent known e
    × AreFreeEvents (known_with known x) es xs

-- All that was learned in a history of copies of one database is of an agreed set, so that copies that
-- have learned the same are alike in what is current.
pub record IsAgreedHistory (copies : Copies) (m : Db) (docs : ℕ → BareDoc) (disks : Disks)
    (es : List Event) (xs : List (Option DocEvent)) : Type 0 where
  pub agreed : Agreed (known_by_all (m ∷ []) (done xs))
  pub within : (i : ℕ) → IsWithin (learned_in docs xs i) (known_by_all (m ∷ []) (done xs))
  pub same : (i j : ℕ) → i < copies.count → j < copies.count
      → IsWithin (learned_in docs xs i) (learned_in docs xs j)
      → IsWithin (learned_in docs xs j) (learned_in docs xs i) → (d e : BareDoc)
      → CopyHolds (disks_at_end copies disks es) (copies.copy i) d
      → CopyHolds (disks_at_end copies disks es) (copies.copy j) e
      → current_view (db_in d) ≡ current_view (db_in e)

-- So it is with every history whose calls are free, whatever fails.
abbrev pub FreeCallsAgree : Type 0
FreeCallsAgree = (copies : Copies) (m : Db) (docs : ℕ → BareDoc) (disks : Disks) (es : List Event)
    → IsHistory copies docs disks es → ((i : ℕ) → db_in (docs i) ≡ m)
    → (xs : List (Option DocEvent)) × (IsRunOf copies docs disks es xs
    × (AreFreeEvents (m ∷ []) es xs → IsAgreedHistory copies m docs disks es xs))
