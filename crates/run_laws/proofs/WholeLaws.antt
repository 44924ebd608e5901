-- Runs in which no version is dropped.
use Rattle.std.proofs.Common.{◌≡◌, ℕ, List, [], ◌∷◌, ◌++◌, Ok, map, sym, ap, subst, ◌∙◌}
use Rattle.vault_model.specs.Db.{Db}
use Rattle.vault_model.specs.Join.{join, IsWithin, Agreed}
use Rattle.vault_model.specs.Plans.{World, begin, change, learned_by}
use Rattle.vault_model.specs.Tree.{BareDoc, LEVELS, IsDoc, db_in}
use Rattle.merge_core.proofs.PlanLaws.{alike_join}
use Rattle.merge_core.proofs.Regroup.{join_of_joins, joins_agreed, some_end}
use Rattle.merge_core.proofs.SoundDoc.{document_sound}
use Rattle.agreed_laws.specs.DocumentMerge.Merging.{merge_result}
use Rattle.agreed_laws.specs.Runs.{docs_of}
use Rattle.agreed_laws.proofs.Merged.{merged_so, settled_as}
use Rattle.agreed_laws.proofs.Parts.{members_are}
use Rattle.history_laws.specs.Histories.{copy, schedule_step}
use Rattle.history_laws.proofs.HistoryLaws.{IsWhole, learned_end, learned_parts, there, whole_begin, whole_dbs, whole_event}
use Rattle.run_laws.specs.TrimmedRuns.{DocEvent, after_doc_event, after_doc_events, growth, joining, overwriting}
use Rattle.run_laws.specs.WholeRuns.{AreWholeDocEvents, IsWholeDocEvent, WholeRunsJoin, WholeRunsSame}
use Rattle.run_laws.proofs.RunLaws.{are_docs, docs_dbs}

doc_whole : (w : World) → ((j : ℕ) → IsDoc (w j).doc) → (x : DocEvent) → IsWholeDocEvent w x → (j : ℕ) → IsDoc (after_doc_event w x j).doc
doc_whole w doc (growth i d) h j = there (λ r. IsDoc r.doc) w i (record { doc = d; learned = (w i).learned ++ db_in d ∷ [] }) j h.0 (doc j)
doc_whole w doc (joining i js d) h j =
    there (λ r. IsDoc r.doc) w i (record { doc = d; learned = (w i).learned ++ learned_by w js }) j
    (settled_as (w i).doc (docs_of w js) (are_docs w doc (i ∷ js)) d (merged_so (w i).doc (docs_of w js) (are_docs w doc (i ∷ js)) d h)).is_doc (doc j)
doc_whole w doc (overwriting i k) h j = there (λ r. IsDoc r.doc) w i (w k) j (doc k) (doc j)

module _ (S : List Db) (a : Agreed S) (w : World) (doc : (j : ℕ) → IsDoc (w j).doc) (good : (j : ℕ) → IsWithin (w j).learned S → IsWhole (w j)) where
  whole_merge : (i : ℕ) (js : List ℕ) (d : BareDoc) → merge_result (w i).doc (docs_of w js) ≡ Ok d → IsWithin ((w i).learned ++ learned_by w js) S
      → IsWhole (record { doc = d; learned = (w i).learned ++ learned_by w js })
  whole_merge i js d h f =
      let t = (w i).doc in
      let ss = docs_of w js in
      let all = are_docs w doc (i ∷ js) in
      let Ls = map (λ j. (w j).learned) (i ∷ js) in
      let parts = learned_parts S a w IsWhole (λ r g. g.some) good (i ∷ js) f in
      let joins : map db_in (docs_of w (i ∷ js)) ≡ map join Ls = docs_dbs w (i ∷ js) ∙ whole_dbs S a w good (i ∷ js) f in
      let agreed : Agreed (map db_in (docs_of w (i ∷ js))) = subst Agreed (sym joins) (joins_agreed S Ls a parts) in
      let st = settled_as t ss all d (merged_so t ss all d h) in
      record {
        some = some_end (w i).learned (learned_by w js) parts.0.0;
        sound = document_sound d st.is_doc;
        same = st.database ∙ ap join (members_are t ss all agreed) ∙ ap join joins ∙ join_of_joins S a Ls tt parts ∙ ap join (learned_end S a w (i ∷ js));
      }

  whole_doc_event : (x : DocEvent) → IsWholeDocEvent w x → (j : ℕ) → IsWithin (after_doc_event w x j).learned S → IsWhole (after_doc_event w x j)
  whole_doc_event (growth i d) h j = whole_event S a w good LEVELS (schedule_step (change i d)) h.1 j
  whole_doc_event (joining i js d) h j =
      there (λ r. IsWithin r.learned S → IsWhole r) w i (record { doc = d; learned = (w i).learned ++ learned_by w js }) j (whole_merge i js d h) (good j)
  whole_doc_event (overwriting i k) h j = whole_event S a w good LEVELS (copy i k) tt j

whole_doc_events : (S : List Db) (a : Agreed S) (w : World) (xs : List DocEvent) → ((j : ℕ) → IsDoc (w j).doc) → ((j : ℕ) → IsWithin (w j).learned S → IsWhole (w j)) → AreWholeDocEvents w xs
    → (j : ℕ) → IsWithin (after_doc_events w xs j).learned S → IsWhole (after_doc_events w xs j)
whole_doc_events S a w [] doc good steps = good
whole_doc_events S a w (x ∷ xs) doc good steps = whole_doc_events S a (after_doc_event w x) xs (doc_whole w doc x steps.0) (whole_doc_event S a w doc good x steps.0) steps.1

pub whole_join : WholeRunsJoin
whole_join S docs xs a r i f = (whole_doc_events S a (begin docs) xs r.are_docs (whole_begin S a docs) r.are_doc_events i f).same

pub whole_same : WholeRunsSame
whole_same S docs xs a r i j f to from =
    let w = after_doc_events (begin docs) xs in
    let g : (k : ℕ) → IsWithin (w k).learned S → IsWhole (w k) = whole_doc_events S a (begin docs) xs r.are_docs (whole_begin S a docs) r.are_doc_events in
    let here : IsWithin (w i).learned S = λ m h. f m (to m h) in
    (g i here).same ∙ alike_join S a (w i).learned (w j).learned ((g i here).some, here) ((g j f).some, f) to from ∙ sym (g j f).same
