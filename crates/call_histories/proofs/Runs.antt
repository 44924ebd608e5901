-- Histories of calls are runs, and what follows for the files.
use Rattle.std.proofs.Common.{◌≡◌, ◌<◌, ℕ, List, [], ◌∷◌, Option, Some, None, sym, ap, subst, ◌∙◌}
use Rattle.vault_model.specs.Plans.{World, begin}
use Rattle.vault_model.specs.Tree.{BareDoc, IsDoc, db_in}
use Rattle.history_laws.specs.Current.{current_view}
use Rattle.run_laws.specs.TrimmedRuns.{AreDocEvents, DocEvent, after_doc_event, after_doc_events, growth, joining, overwriting, world_after}
use Rattle.run_laws.specs.WholeRuns.{AreWholeDocEvents}
use Rattle.run_laws.proofs.RunLaws.{doc_after, runs_join, runs_same}
use Rattle.run_laws.proofs.WholeLaws.{whole_join}
use Rattle.call_conditions.specs.Copies.{AreApart, Copies, CopyHolds, Disks, HoldsDoc}
use Rattle.call_conditions.specs.Histories.{AreDeeds, AreEvents, Event, IsDeed, IsRunOf, disks_after, disks_at_end, done}
use Rattle.call_histories.specs.HistoryLaws.{CallsAreRuns, CopiesJoin, CopiesSame, MergesJoin, OnlyMerged}
use Rattle.call_histories.proofs.Held.{one_doc}
use Rattle.call_histories.proofs.Steps.{GrownBy, one_step}

-- the copies after what an event did, if anything
abbrev pub after_deed : World → Option DocEvent → World
after_deed w None = w
after_deed w (Some x) = after_doc_event w x

-- what grew did so by the call that did it
abbrev pub AreGrown : World → List Event → List (Option DocEvent) → Type 0
AreGrown w [] xs = Unit {0}
AreGrown w (e ∷ es) [] = Unit {0}
AreGrown w (e ∷ es) (x ∷ xs) = GrownBy w e x × AreGrown (after_deed w x) es xs

-- What events did, and what the files hold after them.
pub record Ran (copies : Copies) (disks : Disks) (w : World) (es : List Event) : Type 0 where
  pub xs : List (Option DocEvent)
  pub deeds : AreDeeds es xs
  pub grown : AreGrown w es xs
  pub may : AreDocEvents w (done xs)
  pub hold : (k : ℕ) → k < copies.count → CopyHolds (disks_at_end copies disks es) (copies.copy k) (after_doc_events w (done xs) k).doc

abbrev Holds : Copies → Disks → World → Type 0
Holds copies disks w = (k : ℕ) → k < copies.count → CopyHolds disks (copies.copy k) (w k).doc

abbrev AreAllDocs : World → Type 0
AreAllDocs w = (j : ℕ) → IsDoc (w j).doc

go_on : (copies : Copies) (disks : Disks) (w : World) (e : Event) (es : List Event) → AreAllDocs w → (deed : Option DocEvent) → IsDeed e deed → GrownBy w e deed → AreDocEvents w (done (deed ∷ []))
    → Holds copies (disks_after copies disks e) (after_doc_events w (done (deed ∷ [])))
    → ((v : World) → AreAllDocs v → Holds copies (disks_after copies disks e) v → Ran copies (disks_after copies disks e) v es)
    → Ran copies disks w (e ∷ es)
go_on copies disks w e es doc None is grown may hold rest =
    let r = rest w doc hold in
    record { xs = None ∷ r.xs; deeds = (is, r.deeds); grown = (grown, r.grown); may = r.may; hold = r.hold }
go_on copies disks w e es doc (Some x) is grown may hold rest =
    let r = rest (after_doc_event w x) (doc_after w doc x may.0) hold in
    record { xs = Some x ∷ r.xs; deeds = (is, r.deeds); grown = (grown, r.grown); may = (may.0, r.may); hold = r.hold }

pub ran : (copies : Copies) → AreApart copies → (es : List Event) (disks : Disks) (w : World) → AreAllDocs w → Holds copies disks w → AreEvents copies disks es → Ran copies disks w es
ran copies apart [] disks w doc hold h = record { xs = []; deeds = tt; grown = tt; may = tt; hold = hold }
ran copies apart (e ∷ es) disks w doc hold h =
    let s = one_step copies apart disks w doc hold e h.0 in
    go_on copies disks w e es doc s.deed s.is s.grown s.may s.hold (λ v d k. ran copies apart es (disks_after copies disks e) v d k h.1)

pub calls_are_runs : CallsAreRuns
calls_are_runs copies docs disks es h =
    let r = ran copies h.apart es disks (begin docs) h.are_docs h.hold h.events in
    (r.xs, record { deeds = r.deeds; run = record { are_docs = h.are_docs; are_doc_events = r.may }; hold = r.hold })

-- ---- what the files hold

-- the file of a copy holds the document of the run
same_doc : (copies : Copies) (docs : ℕ → BareDoc) (disks : Disks) (es : List Event) (xs : List (Option DocEvent)) → IsRunOf copies docs disks es xs → (i : ℕ) → i < copies.count → (d : BareDoc)
    → CopyHolds (disks_at_end copies disks es) (copies.copy i) d → d ≡ (world_after docs (done xs) i).doc
same_doc copies docs disks es xs r i less d h =
    let k = r.hold i less in
    let same : ◌≡◌ {A = Option (List ℕ)} (Some h.bytes) (Some k.bytes) → h.bytes ≡ k.bytes = λ e. cc e in
    one_doc (copies.copy i).key h.bytes d (world_after docs (done xs) i).doc h.holds
    (subst (λ (b : List ℕ). HoldsDoc (copies.copy i).key (world_after docs (done xs) i).doc b) (sym (same (sym h.found ∙ k.found))) k.holds)

pub copies_join : CopiesJoin
copies_join copies docs disks es xs r S a i less f d h =
    ap (λ (e : BareDoc). current_view (db_in e)) (same_doc copies docs disks es xs r i less d h) ∙ runs_join S docs (done xs) a r.run i f

pub copies_same : CopiesSame
copies_same copies docs disks es xs r S a i j less small f to from d e h k =
    ap (λ (x : BareDoc). current_view (db_in x)) (same_doc copies docs disks es xs r i less d h)
    ∙ runs_same S docs (done xs) a r.run i j f to from
    ∙ sym (ap (λ (x : BareDoc). current_view (db_in x)) (same_doc copies docs disks es xs r j small e k))

-- ---- merges alone

whole_events : (w : World) (xs : List DocEvent) → OnlyMerged xs → AreDocEvents w xs → AreWholeDocEvents w xs
whole_events w [] o h = tt
whole_events w (growth i d ∷ xs) o h = absurd o
whole_events w (joining i js d ∷ xs) o h = (h.0, whole_events (after_doc_event w (joining i js d)) xs o h.1)
whole_events w (overwriting i j ∷ xs) o h = (h.0, whole_events (after_doc_event w (overwriting i j)) xs o h.1)

pub merges_join : MergesJoin
merges_join copies docs disks es xs r o S a i less f d h =
    ap db_in (same_doc copies docs disks es xs r i less d h)
    ∙ whole_join S docs (done xs) a (record { are_docs = r.run.are_docs; are_doc_events = whole_events (begin docs) (done xs) o r.run.are_doc_events }) i f
