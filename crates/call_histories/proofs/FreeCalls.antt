-- Histories whose calls only add agree.
use Rattle.std.proofs.Common.{◌≡◌, ℕ, List, [], ◌∷◌, Option, Some, None, sym, subst, ◌∙◌}
use Rattle.std.proofs.lemmas.Option.{same_Some}
use Rattle.vault_model.specs.Db.{Db}
use Rattle.vault_model.specs.Plans.{World, begin}
use Rattle.vault_model.specs.Tree.{BareDoc, IsDoc}
use Rattle.command_laws.specs.Adding.{AddsOnly}
use Rattle.command_laws.proofs.Commands.{adding_is_free}
use Rattle.run_laws.specs.FreeRuns.{AreFreeDocEvents, IsFreeDocEvent}
use Rattle.run_laws.specs.TrimmedRuns.{AreDocEvents, DocEvent, IsDocEvent, after_doc_event, growth, joining, overwriting}
use Rattle.run_laws.proofs.RunLaws.{doc_after, free_runs_agree}
use Rattle.call_run.specs.Endings.{inputs_of}
use Rattle.change_laws.specs.Adding.{made_id}
use Rattle.change_laws.proofs.Adding.{commands_add}
use Rattle.call_histories.specs.FreeHistories.{AreFreeEvents, FreeCallsAgree, IsFreeEvent, known_with}
use Rattle.call_conditions.specs.Histories.{AreDeeds, Event, IsRunOf, done}
use Rattle.call_histories.proofs.Runs.{AreGrown, copies_same, ran}
use Rattle.call_histories.proofs.Steps.{GrownBy, IsGrown}

-- what grew by a free call is free growth
grown_free : (w : World) (known : List Db) (e : Event) (i : ℕ) (d : BareDoc) → IsDoc (w i).doc → IsDoc d → IsGrown w e i d → IsFreeEvent known e → IsFreeDocEvent w known (growth i d)
grown_free w known e i d was isd g free =
    let f = subst (IsFreeEvent known) g.is free g.task g.is_task g.writes g.no_merge in
    let id = made_id g.task.command g.task.opened.doc g.c.world.dice in
    let a = commands_add g.c.time g.task.command (inputs_of g.task) g.task.opened.doc g.c.world.dice g.change
    (subst IsDoc (sym g.opened) was) f.0 g.makes in
    let same : a.doc ≡ d = same_Some a.doc d (sym a.is ∙ g.doc) in
    let adds : AddsOnly id (w i).doc d =
    subst (λ (t : BareDoc). AddsOnly id t d) g.opened (subst (AddsOnly id g.task.opened.doc) same (a.adds (subst IsDoc (sym same) isd))) in
    (adding_is_free w known i id d isd adds f.1).1

free_deed : (w : World) (known : List Db) (e : Event) → ((j : ℕ) → IsDoc (w j).doc) → (x : DocEvent) → IsDocEvent w x → GrownBy w e (Some x) → IsFreeEvent known e → IsFreeDocEvent w known x
free_deed w known e docs (growth i d) may g free = grown_free w known e i d (docs i) may.0 g free
free_deed w known e docs (joining i js d) may g free = tt
free_deed w known e docs (overwriting i j) may g free = tt

free_deeds : (w : World) (known : List Db) (es : List Event) (xs : List (Option DocEvent)) → ((j : ℕ) → IsDoc (w j).doc) → AreDeeds es xs → AreDocEvents w (done xs) → AreGrown w es xs
    → AreFreeEvents known es xs → AreFreeDocEvents w known (done xs)
free_deeds w known [] [] docs deeds may g free = tt
free_deeds w known [] (x ∷ xs) docs deeds may g free = absurd deeds
free_deeds w known (e ∷ es) [] docs deeds may g free = absurd deeds
free_deeds w known (e ∷ es) (None ∷ xs) docs deeds may g free = free_deeds w known es xs docs deeds.1 may g.1 free.1
free_deeds w known (e ∷ es) (Some x ∷ xs) docs deeds may g free = (
  free_deed w known e docs x may.0 g.0 free.0,
  free_deeds (after_doc_event w x) (known_with known (Some x)) es xs (doc_after w docs x may.0) deeds.1 may.1 g.1 free.1,
)

pub free_calls_agree : FreeCallsAgree
free_calls_agree copies m docs disks es h one =
    let r = ran copies h.apart es disks (begin docs) h.are_docs h.hold h.events in
    let run : IsRunOf copies docs disks es r.xs = record { deeds = r.deeds; run = record { are_docs = h.are_docs; are_doc_events = r.may }; hold = r.hold } in (
      r.xs,
      (
        run,
        λ free.
            let a = free_runs_agree m docs (done r.xs) (record {
              run = run.run;
              copies = one;
              free = free_deeds (begin docs) (m ∷ []) es r.xs h.are_docs r.deeds r.may r.grown free;
            }) in
            record {
              agreed = a.0;
              within = a.1;
              same = λ i j less small to from d e held other. copies_same copies docs disks es r.xs run _ a.0 i j less small (a.1 j) to from d e held other;
            },
      ),
    )
