-- Runs whose histories may be trimmed, and runs that agree by what is done.
use Rattle.std.proofs.Common.{◌≡◌, ℕ, inl, inr, List, [], ◌∷◌, ◌++◌, Ok, map, refl, sym, ap, subst, ◌∙◌}
use Rattle.vault_model.specs.Db.{Db, Sound}
use Rattle.vault_model.specs.Join.{join, IsWithin, Agreed}
use Rattle.vault_model.specs.Plans.{World, begin, change, dbs_of, learned_by}
use Rattle.vault_model.specs.Tree.{BareDoc, LEVELS, IsDoc, db_in}
use Rattle.vault_model.proofs.Tests.{from_map, in_either}
use Rattle.merge_core.proofs.PlanLaws.{alike_join, join_one}
use Rattle.merge_core.proofs.Regroup.{join_of_joins, joins_agreed, some_end}
use Rattle.merge_core.proofs.SoundDoc.{document_sound}
use Rattle.agreed_laws.specs.DocumentMerge.Merging.{merge_result}
use Rattle.agreed_laws.specs.Merges.{AreDocs}
use Rattle.agreed_laws.specs.Runs.{docs_of}
use Rattle.agreed_laws.proofs.Merged.{merged_so, merges_into, settled_as}
use Rattle.agreed_laws.proofs.Parts.{members_are}
use Rattle.history_laws.specs.Current.{current_view}
use Rattle.history_laws.specs.Histories.{copy, schedule_step}
use Rattle.history_laws.proofs.CurrentAgreed.{agreed_alike}
use Rattle.history_laws.proofs.CurrentJoin.{view_alike}
use Rattle.history_laws.proofs.FreeLaws.{IsFit, calm_agreed, calm_begin, learned_within, more_calm}
use Rattle.history_laws.proofs.HistoryLaws.{IsTrimmed, learned_end, learned_parts, there, trimmed_begin, trimmed_dbs, trimmed_event}
use Rattle.run_laws.specs.FreeRuns.{AreFreeDocEvents, FreeRunsAgree, FreeRunsMerge, FreeRunsSame, IsFreeDocEvent, IsFreeRun, known_by, known_by_all}
use Rattle.run_laws.specs.TrimmedRuns.{AreDocEvents, DocEvent, IsDocEvent, TrimmedRunsJoin, TrimmedRunsSame, after_doc_event, after_doc_events, growth, joining, overwriting}

pub docs_dbs : (w : World) (js : List ℕ) → map db_in (docs_of w js) ≡ dbs_of w js
docs_dbs w [] = refl
docs_dbs w (j ∷ js) = ap (λ x. db_in (w j).doc ∷ x) (docs_dbs w js)

pub are_docs : (w : World) → ((j : ℕ) → IsDoc (w j).doc) → (js : List ℕ) → AreDocs (docs_of w js)
are_docs w doc js d h = let f = from_map (λ j. (w j).doc) js d h in subst IsDoc f.1.1 (doc f.0)

-- what is done leaves documents
pub doc_after : (w : World) → ((j : ℕ) → IsDoc (w j).doc) → (x : DocEvent) → IsDocEvent w x → (j : ℕ) → IsDoc (after_doc_event w x j).doc
doc_after w doc (growth i d) h j = there (λ r. IsDoc r.doc) w i (record { doc = d; learned = (w i).learned ++ db_in d ∷ [] }) j h.0 (doc j)
doc_after w doc (joining i js d) h j =
    there (λ r. IsDoc r.doc) w i (record { doc = d; learned = (w i).learned ++ learned_by w js }) j
    (settled_as (w i).doc (docs_of w js) (are_docs w doc (i ∷ js)) d (merged_so (w i).doc (docs_of w js) (are_docs w doc (i ∷ js)) d h)).is_doc (doc j)
doc_after w doc (overwriting i k) h j = there (λ r. IsDoc r.doc) w i (w k) j (doc k) (doc j)

module _ (S : List Db) (a : Agreed S) (w : World) (doc : (j : ℕ) → IsDoc (w j).doc) (good : (j : ℕ) → IsWithin (w j).learned S → IsTrimmed (w j)) where
  alike_docs : (js : List ℕ) → IsWithin (learned_by w js) S → map current_view (map db_in (docs_of w js)) ≡ map current_view (map join (map (λ j. (w j).learned) js))
  alike_docs js f = ap (map current_view) (docs_dbs w js) ∙ trimmed_dbs S a w good js f

  -- the documents of replicas agree
  docs_agree : (js : List ℕ) → IsWithin (learned_by w js) S → Agreed (map db_in (docs_of w js))
  docs_agree js f =
      agreed_alike (map db_in (docs_of w js)) (map join (map (λ j. (w j).learned) js)) (alike_docs js f)
      (λ m h. let d = from_map db_in (docs_of w js) m h in subst Sound d.1.1 (document_sound d.0 (are_docs w doc js d.0 d.1.0)))
      (joins_agreed S (map (λ j. (w j).learned) js) a (learned_parts S a w IsTrimmed (λ r g. g.some) good js f))

  good_merge : (i : ℕ) (js : List ℕ) (d : BareDoc) → merge_result (w i).doc (docs_of w js) ≡ Ok d → IsWithin ((w i).learned ++ learned_by w js) S
      → IsTrimmed (record { doc = d; learned = (w i).learned ++ learned_by w js })
  good_merge i js d h f =
      let t = (w i).doc in
      let ss = docs_of w js in
      let all = are_docs w doc (i ∷ js) in
      let Ls = map (λ j. (w j).learned) (i ∷ js) in
      let parts = learned_parts S a w IsTrimmed (λ r g. g.some) good (i ∷ js) f in
      let st = settled_as t ss all d (merged_so t ss all d h) in
      record {
        some = some_end (w i).learned (learned_by w js) parts.0.0;
        sound = document_sound d st.is_doc;
        same = ap current_view (st.database ∙ ap join (members_are t ss all (docs_agree (i ∷ js) f)))
            ∙ view_alike (map db_in (docs_of w (i ∷ js))) (map join Ls) (alike_docs (i ∷ js) f)
            ∙ ap current_view (join_of_joins S a Ls tt parts) ∙ ap (λ L. current_view (join L)) (learned_end S a w (i ∷ js));
      }

  good_doc_event : (x : DocEvent) → IsDocEvent w x → (j : ℕ) → IsWithin (after_doc_event w x j).learned S → IsTrimmed (after_doc_event w x j)
  good_doc_event (growth i d) h j = trimmed_event S a w good LEVELS (schedule_step (change i d)) h.1 j
  good_doc_event (joining i js d) h j =
      there (λ r. IsWithin r.learned S → IsTrimmed r) w i (record { doc = d; learned = (w i).learned ++ learned_by w js }) j (good_merge i js d h) (good j)
  good_doc_event (overwriting i k) h j = trimmed_event S a w good LEVELS (copy i k) tt j

good_doc_events : (S : List Db) (a : Agreed S) (w : World) (xs : List DocEvent) → ((j : ℕ) → IsDoc (w j).doc) → ((j : ℕ) → IsWithin (w j).learned S → IsTrimmed (w j)) → AreDocEvents w xs
    → (j : ℕ) → IsWithin (after_doc_events w xs j).learned S → IsTrimmed (after_doc_events w xs j)
good_doc_events S a w [] doc good steps = good
good_doc_events S a w (x ∷ xs) doc good steps = good_doc_events S a (after_doc_event w x) xs (doc_after w doc x steps.0) (good_doc_event S a w doc good x steps.0) steps.1

pub runs_join : TrimmedRunsJoin
runs_join S docs xs a r i f = (good_doc_events S a (begin docs) xs r.are_docs (trimmed_begin S a docs) r.are_doc_events i f).same

pub runs_same : TrimmedRunsSame
runs_same S docs xs a r i j f to from =
    let w = after_doc_events (begin docs) xs in
    let g : (k : ℕ) → IsWithin (w k).learned S → IsTrimmed (w k) = good_doc_events S a (begin docs) xs r.are_docs (trimmed_begin S a docs) r.are_doc_events in
    let here : IsWithin (w i).learned S = λ m h. f m (to m h) in
    (g i here).same ∙ ap current_view (alike_join S a (w i).learned (w j).learned ((g i here).some, here) ((g j f).some, f) to from) ∙ sym (g j f).same

-- ---- runs that are free

fit_doc_event : (w : World) (known : List Db) → ((j : ℕ) → IsDoc (w j).doc) → IsFit w known → (x : DocEvent) → IsDocEvent w x → IsFreeDocEvent w known x → IsFit (after_doc_event w x) (known_by known x)
fit_doc_event w known doc fit (growth i d) h free =
    let now = db_in d ∷ known in
    let calm = more_calm known fit.calm (w i) (fit.good i) (fit.within i) (db_in d) (document_sound d h.0) free.0 free.1 in
    let within : (j : ℕ) → IsWithin (after_doc_event w (growth i d) j).learned now =
    λ j. there (λ r. IsWithin r.learned now) w i (record { doc = d; learned = (w i).learned ++ db_in d ∷ [] }) j
    (λ x h. elim (in_either (w i).learned (db_in d ∷ []) x h) [
      | inl k ↦ inr (fit.within i x k)
      | inr k ↦ elim k [ inl p ↦ inl p | inr z ↦ absurd z ]
    ]) (λ x h. inr (fit.within j x h)) in
    record { calm = calm; within = within; good = λ j. good_doc_event now (calm_agreed now calm) w doc (λ k f. fit.good k) (growth i d) h j (within j) }
fit_doc_event w known doc fit (joining i js d) h free =
    let within : (j : ℕ) → IsWithin (after_doc_event w (joining i js d) j).learned known =
    λ j. there (λ r. IsWithin r.learned known) w i (record { doc = d; learned = (w i).learned ++ learned_by w js }) j
    (λ x h. elim (in_either (w i).learned (learned_by w js) x h) [ inl k ↦ fit.within i x k | inr k ↦ learned_within w known fit.within js x k ]) (fit.within j) in
    record { calm = fit.calm; within = within; good = λ j. good_doc_event known (calm_agreed known fit.calm) w doc (λ k f. fit.good k) (joining i js d) h j (within j) }
fit_doc_event w known doc fit (overwriting i k) h free = record {
  calm = fit.calm;
  within = λ j. there (λ r. IsWithin r.learned known) w i (w k) j (fit.within k) (fit.within j);
  good = λ j. there IsTrimmed w i (w k) j (fit.good k) (fit.good j);
}

-- What is known is calm, and each replica is good and holds a document.
record IsSound (w : World) (known : List Db) : Type 0 where
  fit : IsFit w known
  doc : (j : ℕ) → IsDoc (w j).doc

fit_doc_events : (w : World) (known : List Db) (xs : List DocEvent) → IsSound w known → AreDocEvents w xs → AreFreeDocEvents w known xs → IsSound (after_doc_events w xs) (known_by_all known xs)
fit_doc_events w known [] s steps free = s
fit_doc_events w known (x ∷ xs) s steps free =
    fit_doc_events (after_doc_event w x) (known_by known x) xs
    (record { fit = fit_doc_event w known s.doc s.fit x steps.0 free.0; doc = doc_after w s.doc x steps.0 }) steps.1 free.1

module _ (m : Db) (docs : ℕ → BareDoc) (xs : List DocEvent) (h : IsFreeRun m docs xs) where
  sound_begin : Sound m
  sound_begin = subst Sound (h.copies 0) (document_sound (docs 0) (h.run.are_docs 0))

  begun : IsSound (begin docs) (m ∷ [])
  begun =
      let calm = calm_begin m sound_begin in
      record {
        fit = record {
          calm = calm;
          within = λ i x k. elim k [ inl p ↦ inl (sym (h.copies i) ∙ p) | inr z ↦ absurd z ];
          good = λ i. record {
            some = tt;
            sound = document_sound (docs i) (h.run.are_docs i);
            same = ap current_view (h.copies i ∙ sym (join_one (m ∷ []) (calm_agreed (m ∷ []) calm) m (inl refl)) ∙ ap (λ x. join (x ∷ [])) (sym (h.copies i)));
          };
        };
        doc = h.run.are_docs;
      }

  ended : IsSound (after_doc_events (begin docs) xs) (known_by_all (m ∷ []) xs)
  ended = fit_doc_events (begin docs) (m ∷ []) xs begun h.run.are_doc_events h.free

  agrees : Agreed (known_by_all (m ∷ []) xs)
  agrees = calm_agreed (known_by_all (m ∷ []) xs) ended.fit.calm

pub free_runs_agree : FreeRunsAgree
free_runs_agree m docs xs h = (agrees m docs xs h, (ended m docs xs h).fit.within)

pub free_runs_merge : FreeRunsMerge
free_runs_merge m docs xs h i js =
    let w = after_doc_events (begin docs) xs in
    let known = known_by_all (m ∷ []) xs in
    let e = ended m docs xs h in
    merges_into (w i).doc (docs_of w js) (are_docs w e.doc (i ∷ js))
    (docs_agree known (agrees m docs xs h) w e.doc (λ k f. e.fit.good k) (i ∷ js) (learned_within w known e.fit.within (i ∷ js)))

pub free_runs_same : FreeRunsSame
free_runs_same m docs xs h i j to from =
    runs_same (known_by_all (m ∷ []) xs) docs xs (agrees m docs xs h) h.run i j ((ended m docs xs h).fit.within j) to from
