-- Runs of commands on copies of one document.
use Rattle.std.specs.Prelude.{◌≡◌, ℕ, Bool, List, [], ◌∷◌, Option, None, Some, Ok, is_some, map}
use Rattle.vault_model.specs.Db.{Db, NodeId}
use Rattle.vault_model.specs.Join.{join, IsWithin, Agreed}
use Rattle.vault_model.specs.Plans.{World, begin}
use Rattle.vault_model.specs.Tree.{BareDoc, IsDoc, db_in}
use Rattle.tree_core.specs.After.{after_add, after_attach, after_detach, after_edit, after_make_group, after_move_entry, after_remove_entry, after_restore, needs_bin}
use Rattle.tree_core.specs.declared.fails.Removed.TheVariants.{Recycled}
use Rattle.tree_core.specs.FurtherChanges.{FurtherChange}
use Rattle.tree_core.specs.NewNodes.{GivenValues}
use Rattle.document_merge.specs.Merging.{merge_result}
use Rattle.agreed_laws.specs.Merges.{MergesInto}
use Rattle.agreed_laws.specs.Runs.{docs_of}
use Rattle.history_laws.specs.Current.{current_view}
use Rattle.growth_laws.specs.Growth.{DropsNothing}
use Rattle.command_laws.specs.Adding.{IsUnused}
use Rattle.run_laws.specs.FreeRuns.{known_by, known_by_all}
use Rattle.run_laws.specs.TrimmedRuns.{DocEvent, after_doc_event, after_doc_events, growth, joining, overwriting}

-- A command that deletes nothing for good and moves no group, with the id that it draws, if any.
pub data Command : Type 0 where
  add : List ℕ → NodeId → GivenValues → ℕ → Command
  edit : List ℕ → GivenValues → FurtherChange → ℕ → Command
  attach : (path name bytes : List ℕ) → (replaces : Bool) → ℕ → Command
  detach : (path name : List ℕ) → ℕ → Command
  restore : List ℕ → (number : ℕ) → ℕ → Command
  move_entry : List ℕ → List ℕ → ℕ → Command
  make_group : List ℕ → NodeId → ℕ → Command
  recycle : List ℕ → Option NodeId → ℕ → Command

-- the command makes one document of another; to recycle is to remove an entry that goes into the bin
abbrev pub Makes : Command → BareDoc → BareDoc → Type 0
Makes (add path id values now) d e = after_add path id values now d ≡ Ok e
Makes (edit path values further now) d e = after_edit path values further now d ≡ Ok e
Makes (attach path name bytes replaces now) d e =
    after_attach path name bytes replaces now d ≡ Ok e
Makes (detach path name now) d e = after_detach path name now d ≡ Ok e
Makes (restore path number now) d e = after_restore path number now d ≡ Ok e
Makes (move_entry path goal now) d e = after_move_entry path goal now d ≡ Ok e
Makes (make_group path id now) d e = after_make_group path id now d ≡ Ok e
Makes (recycle path bin now) d e = (is_some bin ≡ needs_bin d)
    × (after_remove_entry path bin now d ≡ Ok (record { removed = Recycled; doc = e }))

-- the id that it draws
abbrev pub drawn : Command → Option NodeId
drawn (add path id values now) = Some id
drawn (edit path values further now) = None
drawn (attach path name bytes replaces now) = None
drawn (detach path name now) = None
drawn (restore path number now) = None
drawn (move_entry path goal now) = None
drawn (make_group path id now) = Some id
drawn (recycle path bin now) = bin

-- What is done to a copy: a command, a merge of other copies into it, or another copy over it.
pub data TypedEvent : Type 0 where
  typed : ℕ → Command → BareDoc → TypedEvent
  merged : ℕ → List ℕ → BareDoc → TypedEvent
  copied : ℕ → ℕ → TypedEvent

-- what becomes of the copies
abbrev pub doc_event_of : TypedEvent → DocEvent
doc_event_of (typed i c e) = growth i e
doc_event_of (merged i js d) = joining i js d
doc_event_of (copied i j) = overwriting i j

-- what may be done: a command that is not refused, whose id is used nowhere, a merge that is not
-- refused, and any copy
abbrev pub IsTypedEvent : World → List Db → TypedEvent → Type 0
IsTypedEvent w known (typed i c e) = IsDoc e × (Makes c (w i).doc e × IsUnused known (drawn c))
IsTypedEvent w known (merged i js d) = merge_result (w i).doc (docs_of w js) ≡ Ok d
IsTypedEvent w known (copied i j) = Unit {0}

-- each is one that may be done
abbrev pub AreTypedEvents : World → List Db → List TypedEvent → Type 0
AreTypedEvents w known [] = Unit {0}
AreTypedEvents w known (x ∷ xs) = IsTypedEvent w known x
    × AreTypedEvents (after_doc_event w (doc_event_of x)) (known_by known (doc_event_of x)) xs

-- A run that begins with copies of one document.
pub record IsTypedRun (d : BareDoc) (xs : List TypedEvent) : Type 0 where
  pub is_doc : IsDoc d
  pub events : AreTypedEvents (begin (λ _. d)) (db_in d ∷ []) xs

-- the copies after it
abbrev pub after_run : BareDoc → List TypedEvent → World
after_run d xs = after_doc_events (begin (λ _. d)) (map doc_event_of xs)

-- all that commands made in it, and the beginning
abbrev pub made_in : BareDoc → List TypedEvent → List Db
made_in d xs = known_by_all (db_in d ∷ []) (map doc_event_of xs)

-- all that is learned in it agrees
abbrev pub TypedRunsAgree : Type 0
TypedRunsAgree = (d : BareDoc) (xs : List TypedEvent) → IsTypedRun d xs → Agreed (made_in d xs)
    × ((i : ℕ) → IsWithin (after_run d xs i).learned (made_in d xs))

-- no merge is refused after it but where a node is too deep
abbrev pub TypedRunsMerge : Type 0
TypedRunsMerge = (d : BareDoc) (xs : List TypedEvent) → IsTypedRun d xs → (i : ℕ) (js : List ℕ)
    → MergesInto (join (map db_in (docs_of (after_run d xs) (i ∷ js))))
    (merge_result (after_run d xs i).doc (docs_of (after_run d xs) js))

-- and copies that have learned the same are alike in what is current
abbrev pub TypedRunsSame : Type 0
TypedRunsSame = (d : BareDoc) (xs : List TypedEvent) → IsTypedRun d xs → (i j : ℕ)
    → IsWithin (after_run d xs i).learned (after_run d xs j).learned
    → IsWithin (after_run d xs j).learned (after_run d xs i).learned
    → current_view (db_in (after_run d xs i).doc) ≡ current_view (db_in (after_run d xs j).doc)

-- a command drops no version: an edit, something attached or taken away, or a version restored,
-- within the limits of histories
abbrev pub IsWithinLimits : Command → BareDoc → Type 0
IsWithinLimits (add path id values now) d = Unit {0}
IsWithinLimits (edit path values further now) d = DropsNothing path d
IsWithinLimits (attach path name bytes replaces now) d = DropsNothing path d
IsWithinLimits (detach path name now) d = DropsNothing path d
IsWithinLimits (restore path number now) d = DropsNothing path d
IsWithinLimits (move_entry path goal now) d = Unit {0}
IsWithinLimits (make_group path id now) d = Unit {0}
IsWithinLimits (recycle path bin now) d = Unit {0}

-- no command of a run drops a version
abbrev pub AreWithinLimits : World → List TypedEvent → Type 0
AreWithinLimits w [] = Unit {0}
AreWithinLimits w (typed i c e ∷ xs) = IsWithinLimits c (w i).doc
    × AreWithinLimits (after_doc_event w (growth i e)) xs
AreWithinLimits w (merged i js d ∷ xs) = AreWithinLimits (after_doc_event w (joining i js d)) xs
AreWithinLimits w (copied i j ∷ xs) = AreWithinLimits (after_doc_event w (overwriting i j)) xs

-- and then copies that have learned the same have the same database, old versions too
abbrev pub TypedRunsSameDb : Type 0
TypedRunsSameDb = (d : BareDoc) (xs : List TypedEvent) → IsTypedRun d xs
    → AreWithinLimits (begin (λ _. d)) xs → (i j : ℕ)
    → IsWithin (after_run d xs i).learned (after_run d xs j).learned
    → IsWithin (after_run d xs j).learned (after_run d xs i).learned
    → db_in (after_run d xs i).doc ≡ db_in (after_run d xs j).doc
