-- What holds of the files after a history of calls, each statement by itself.
use Rattle.std.specs.Prelude.{◌≡◌, ◌≢◌, ◌<◌, ℕ, true, List, ◌++◌, [], ◌∷◌, Option}
use Rattle.vault_model.specs.Db.{Db}
use Rattle.vault_model.specs.Join.{join, IsWithin, Agreed}
use Rattle.vault_model.specs.Plans.{learned_by}
use Rattle.vault_model.specs.Tree.{BareDoc, db_in}
use Rattle.history_laws.specs.Current.{current_view}
use Rattle.run_laws.specs.TrimmedRuns.{DocEvent, growth, joining, overwriting, world_after}
use Rattle.cli_files.specs.Tasks.{Task}
use Rattle.keepass_call.specs.Held.{IsTask}
use Rattle.keepass_call.specs.Merges.{merges}
use Rattle.call_conditions.specs.Copies.{CallSeen, Copies, CopyHolds, Disks}
use Rattle.call_conditions.specs.Histories.{Event, IsCallOn, IsHistory, IsRunOf, disks_at_end, done}

-- whatever was called and copied, the files hold the documents of a run that did what the calls did
abbrev pub CallsAreRuns : Type 0
CallsAreRuns = (copies : Copies) (docs : ℕ → BareDoc) (disks : Disks) (es : List Event)
    → IsHistory copies docs disks es
    → (xs : List (Option DocEvent)) × IsRunOf copies docs disks es xs

-- what a copy has learned
abbrev pub learned_in : (ℕ → BareDoc) → List (Option DocEvent) → ℕ → List Db
learned_in docs xs i = (world_after docs (done xs) i).learned

-- what is current of the document in a copy's file is what is current of the join of what it learned,
-- where that is within an agreed set
abbrev pub CopiesJoin : Type 0
CopiesJoin = (copies : Copies) (docs : ℕ → BareDoc) (disks : Disks) (es : List Event)
    (xs : List (Option DocEvent)) → IsRunOf copies docs disks es xs → (S : List Db) → Agreed S
    → (i : ℕ) → i < copies.count → IsWithin (learned_in docs xs i) S → (d : BareDoc)
    → CopyHolds (disks_at_end copies disks es) (copies.copy i) d
    → current_view (db_in d) ≡ current_view (join (learned_in docs xs i))

-- so the files of copies that have learned the same hold the same entries as they are now, and the
-- same groups, places, settings and tombstones
abbrev pub CopiesSame : Type 0
CopiesSame = (copies : Copies) (docs : ℕ → BareDoc) (disks : Disks) (es : List Event)
    (xs : List (Option DocEvent)) → IsRunOf copies docs disks es xs → (S : List Db) → Agreed S
    → (i j : ℕ) → i < copies.count → j < copies.count → IsWithin (learned_in docs xs j) S
    → IsWithin (learned_in docs xs i) (learned_in docs xs j)
    → IsWithin (learned_in docs xs j) (learned_in docs xs i) → (d e : BareDoc)
    → CopyHolds (disks_at_end copies disks es) (copies.copy i) d
    → CopyHolds (disks_at_end copies disks es) (copies.copy j) e
    → current_view (db_in d) ≡ current_view (db_in e)

-- nothing was done but that copies were merged and copied over
abbrev pub OnlyMerged : List DocEvent → Type 0
OnlyMerged [] = Unit {0}
OnlyMerged (growth i d ∷ xs) = ⊥
OnlyMerged (joining i js d ∷ xs) = OnlyMerged xs
OnlyMerged (overwriting i j ∷ xs) = OnlyMerged xs

-- and then a copy's file holds the join of what it learned itself, in whatever order and grouping
abbrev pub MergesJoin : Type 0
MergesJoin = (copies : Copies) (docs : ℕ → BareDoc) (disks : Disks) (es : List Event)
    (xs : List (Option DocEvent)) → IsRunOf copies docs disks es xs → OnlyMerged (done xs)
    → (S : List Db) → Agreed S → (i : ℕ) → i < copies.count → IsWithin (learned_in docs xs i) S
    → (d : BareDoc) → CopyHolds (disks_at_end copies disks es) (copies.copy i) d
    → db_in d ≡ join (learned_in docs xs i)

-- after a history no merge of copies that have learned what is within an agreed set is refused
-- because ids clash or moves make a cycle
abbrev pub MergesGoOn : Type 0
MergesGoOn = (copies : Copies) (docs : ℕ → BareDoc) (disks : Disks) (es : List Event)
    (xs : List (Option DocEvent)) → IsRunOf copies docs disks es xs → (S : List Db) → Agreed S
    → (c : CallSeen) → IsCallOn copies (disks_at_end copies disks es) c → (task : Task)
    → IsTask c.words c.time c.world task → merges task.command ≡ true
    → IsWithin (learned_in docs xs c.target ++ learned_by (world_after docs (done xs)) c.sources) S
    → c.result ≢ 6
