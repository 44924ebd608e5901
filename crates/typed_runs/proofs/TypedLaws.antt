-- A run of commands is free.
use Rattle.std.proofs.Common.{ℕ, List, [], ◌∷◌, map, refl, ap}
use Rattle.vault_model.specs.Db.{Db}
use Rattle.vault_model.specs.Plans.{World, begin}
use Rattle.vault_model.specs.Tree.{BareDoc, IsDoc, db_in}
use Rattle.tree_core.specs.declared.fails.Removed.TheVariants.{Recycled}
use Rattle.growth_laws.proofs.Commands.{add_grows, attach_grows, detach_grows, edit_grows, move_entry_grows, remove_entry_grows, restore_grows}
use Rattle.growth_laws.specs.Growth.{GrowsTo}
use Rattle.growth_laws.proofs.GroupCommands.{make_group_grows}
use Rattle.history_laws.specs.Current.{current_view}
use Rattle.command_laws.specs.Growing.{GrowsInCurrent}
use Rattle.command_laws.proofs.Edits.{attach_grows_in_current, detach_grows_in_current, edit_grows_in_current, restore_grows_in_current}
use Rattle.command_laws.specs.Adding.{AddsOnly}
use Rattle.command_laws.proofs.Commands.{add_adds, attach_adds, detach_adds, edit_adds, make_group_adds, move_entry_adds, recycling_adds, restore_adds}
use Rattle.run_laws.specs.FreeRuns.{AreFreeDocEvents, IsFreeDocEvent, IsFreeRun, known_by}
use Rattle.run_laws.specs.TrimmedRuns.{AreDocEvents, IsDocEvent, after_doc_event}
use Rattle.run_laws.specs.WholeRuns.{AreWholeDocEvents}
use Rattle.run_laws.proofs.WholeLaws.{whole_same}
use Rattle.run_laws.proofs.RunLaws.{doc_after, free_runs_agree, free_runs_merge, free_runs_same}
use Rattle.typed_runs.specs.TypedRuns.{TypedEvent, AreTypedEvents, AreWithinLimits, Command, IsTypedEvent, IsTypedRun, IsWithinLimits, Makes, TypedRunsAgree, TypedRunsMerge, TypedRunsSame, TypedRunsSameDb, add, attach, copied, detach, doc_event_of, drawn, edit, made_in, make_group, merged, move_entry, recycle, restore, typed}

command_adds : (c : Command) (d e : BareDoc) → IsDoc d → IsDoc e → Makes c d e → AddsOnly (drawn c) d e
command_adds (add path id values now) d e isd ise h = add_adds path id values now d e isd ise h
command_adds (edit path values further now) d e isd ise h = edit_adds path values further now d e isd ise h
command_adds (attach path name bytes replaces now) d e isd ise h = attach_adds path name bytes replaces now d e isd ise h
command_adds (detach path name now) d e isd ise h = detach_adds path name now d e isd ise h
command_adds (restore path number now) d e isd ise h = restore_adds path number now d e isd ise h
command_adds (move_entry path goal now) d e isd ise h = move_entry_adds path goal now d e isd ise h
command_adds (make_group path id now) d e isd ise h = make_group_adds path id now d e isd ise h
command_adds (recycle path bin now) d e isd ise h = recycling_adds path bin now d (record { removed = Recycled; doc = e }) isd ise h.0 h.1 refl

command_grows : (c : Command) (d e : BareDoc) → IsDoc d → IsDoc e → Makes c d e → GrowsInCurrent d e
command_grows (add path id values now) d e isd ise h = ap current_view (add_grows path id values now d e isd ise h)
command_grows (edit path values further now) d e isd ise h = edit_grows_in_current path values further now d e isd ise h
command_grows (attach path name bytes replaces now) d e isd ise h = attach_grows_in_current path name bytes replaces now d e isd ise h
command_grows (detach path name now) d e isd ise h = detach_grows_in_current path name now d e isd ise h
command_grows (restore path number now) d e isd ise h = restore_grows_in_current path number now d e isd ise h
command_grows (move_entry path goal now) d e isd ise h = ap current_view (move_entry_grows path goal now d e isd ise h)
command_grows (make_group path id now) d e isd ise h = ap current_view (make_group_grows path id now d e isd ise h)
command_grows (recycle path bin now) d e isd ise h = ap current_view (remove_entry_grows path bin now d (record { removed = Recycled; doc = e }) isd ise h.0 h.1)

typed_doc_event : (w : World) (known : List Db) → ((j : ℕ) → IsDoc (w j).doc) → (x : TypedEvent) → IsTypedEvent w known x → IsDocEvent w (doc_event_of x) × IsFreeDocEvent w known (doc_event_of x)
typed_doc_event w known doc (typed i c e) h =
    let adds = command_adds c (w i).doc e (doc i) h.0 h.1.0 in
    ((h.0, command_grows c (w i).doc e (doc i) h.0 h.1.0), (adds.adds, λ x u k now off. h.1.1 x u k (adds.new u now off)))
typed_doc_event w known doc (merged i js d) h = (h, tt)
typed_doc_event w known doc (copied i j) h = (tt, tt)

typed_doc_events : (w : World) (known : List Db) → ((j : ℕ) → IsDoc (w j).doc) → (xs : List TypedEvent) → AreTypedEvents w known xs → AreDocEvents w (map doc_event_of xs) × AreFreeDocEvents w known (map doc_event_of xs)
typed_doc_events w known doc [] h = (tt, tt)
typed_doc_events w known doc (x ∷ xs) h =
    let one = typed_doc_event w known doc x h.0 in
    let rest = typed_doc_events (after_doc_event w (doc_event_of x)) (known_by known (doc_event_of x)) (doc_after w doc (doc_event_of x) one.0) xs h.1 in
    ((one.0, rest.0), (one.1, rest.1))

run_is_free : (d : BareDoc) (xs : List TypedEvent) → IsTypedRun d xs → IsFreeRun (db_in d) (λ _. d) (map doc_event_of xs)
run_is_free d xs h =
    let doc_events = typed_doc_events (begin (λ _. d)) (db_in d ∷ []) (λ j. h.is_doc) xs h.events in
    record {
      run = record { are_docs = λ j. h.is_doc; are_doc_events = doc_events.0 };
      copies = λ i. refl;
      free = doc_events.1;
    }

pub typed_runs_agree : TypedRunsAgree
typed_runs_agree d xs h = free_runs_agree (db_in d) (λ _. d) (map doc_event_of xs) (run_is_free d xs h)

pub typed_runs_merge : TypedRunsMerge
typed_runs_merge d xs h = free_runs_merge (db_in d) (λ _. d) (map doc_event_of xs) (run_is_free d xs h)

pub typed_runs_same : TypedRunsSame
typed_runs_same d xs h = free_runs_same (db_in d) (λ _. d) (map doc_event_of xs) (run_is_free d xs h)

-- ---- where nothing is dropped

whole_grows : (c : Command) (d e : BareDoc) → IsDoc d → IsDoc e → Makes c d e → IsWithinLimits c d → GrowsTo d e
whole_grows (add path id values now) d e isd ise h k = add_grows path id values now d e isd ise h
whole_grows (edit path values further now) d e isd ise h k = edit_grows path values further now d e isd ise k h
whole_grows (attach path name bytes replaces now) d e isd ise h k = attach_grows path name bytes replaces now d e isd ise k h
whole_grows (detach path name now) d e isd ise h k = detach_grows path name now d e isd ise k h
whole_grows (restore path number now) d e isd ise h k = restore_grows path number now d e isd ise k h
whole_grows (move_entry path goal now) d e isd ise h k = move_entry_grows path goal now d e isd ise h
whole_grows (make_group path id now) d e isd ise h k = make_group_grows path id now d e isd ise h
whole_grows (recycle path bin now) d e isd ise h k = remove_entry_grows path bin now d (record { removed = Recycled; doc = e }) isd ise h.0 h.1

whole_events : (w : World) (known : List Db) → ((j : ℕ) → IsDoc (w j).doc) → (xs : List TypedEvent) → AreTypedEvents w known xs → AreWithinLimits w xs → AreWholeDocEvents w (map doc_event_of xs)
whole_events w known doc [] h k = tt
whole_events w known doc (typed i c e ∷ xs) h k =
    let one = typed_doc_event w known doc (typed i c e) h.0 in (
      (h.0.0, whole_grows c (w i).doc e (doc i) h.0.0 h.0.1.0 k.0),
      whole_events (after_doc_event w (doc_event_of (typed i c e))) (known_by known (doc_event_of (typed i c e))) (doc_after w doc (doc_event_of (typed i c e)) one.0) xs h.1 k.1,
    )
whole_events w known doc (merged i js d ∷ xs) h k =
    let one = typed_doc_event w known doc (merged i js d) h.0 in
    (h.0, whole_events (after_doc_event w (doc_event_of (merged i js d))) known (doc_after w doc (doc_event_of (merged i js d)) one.0) xs h.1 k)
whole_events w known doc (copied i j ∷ xs) h k =
    let one = typed_doc_event w known doc (copied i j) h.0 in
    (tt, whole_events (after_doc_event w (doc_event_of (copied i j))) known (doc_after w doc (doc_event_of (copied i j)) one.0) xs h.1 k)

pub typed_runs_same_db : TypedRunsSameDb
typed_runs_same_db d xs h k i j to from =
    let a = typed_runs_agree d xs h in
    whole_same (made_in d xs) (λ _. d) (map doc_event_of xs) a.0
    (record { are_docs = λ n. h.is_doc; are_doc_events = whole_events (begin (λ _. d)) (db_in d ∷ []) (λ n. h.is_doc) xs h.events k }) i j (a.1 j) to from
