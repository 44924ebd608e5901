-- A run of changes and merges is a schedule.
use Rattle.std.proofs.Common.{◌≡◌, ℕ, Bool, true, false, cond, List, [], ◌∷◌, ◌++◌, map, nat_eq, refl, sym, ap, subst, ◌∙◌}
use Rattle.std.proofs.lemmas.Bool.{eqb-true}
use Rattle.vault_model.specs.Db.{Db}
use Rattle.vault_model.specs.Join.{join, IsNotEmpty, IsWithin, Agreed}
use Rattle.vault_model.specs.Plans.{Replica, Step, World, after_step, begin, dbs_of, learned_by, put, run, IsSchedule, IsStep}
use Rattle.vault_model.specs.Tree.{BareDoc, LEVELS, FitsLevels, IsDoc, db_in, lay_doc}
use Rattle.vault_model.proofs.Tests.{from_map, in_front}
use Rattle.merge_core.specs.JoinLaws.{AreParts, LearnsWithin}
use Rattle.merge_core.proofs.Regroup.{joins_agreed, some_end}
use Rattle.merge_core.proofs.ScheduleLaws.{learned_join, learned_same}
use Rattle.merge_core.specs.Refusals.{members}
use Rattle.agreed_laws.specs.Merges.{AreDocs}
use Rattle.agreed_laws.specs.Runs.{AreWritings, IsRun, IsWriting, Writing, after_writing, after_writings, docs_of, growth, joining, step_of}
use Rattle.agreed_laws.proofs.Merged.{merged_so, settled_as}
use Rattle.agreed_laws.proofs.Parts.{members_are}

-- ---- what is learned is not forgotten

-- what holds of the new replica at its number, and of the old one, holds of the one that is there
there : (P : Replica → Type 0) (w : World) (i : ℕ) (r : Replica) (j : ℕ) → (i ≡ j → P r) → P (w j) → P (put w i r j)
there P w i r j new old = pick (nat_eq j i) (λ e. new (sym (eqb-true j i e)))
  where
    pick : (b : Bool) → (b ≡ true → P r) → P (cond b r (w j))
    pick true f = f refl
    pick false f = old

keeps_more : (w : World) (i : ℕ) (r : Replica) → IsWithin (w i).learned r.learned → (j : ℕ) → IsWithin (w j).learned (put w i r j).learned
keeps_more w i r more j =
    there (λ x. IsWithin (w j).learned x.learned) w i r j (λ e. subst (λ k. IsWithin (w k).learned r.learned) e more) (λ m h. h)

keeps : (w : World) (x : Writing) (j : ℕ) → IsWithin (w j).learned (after_writing w x j).learned
keeps w (growth i d) j = keeps_more w i _ (λ m h. in_front (w i).learned (db_in d ∷ []) m h) j
keeps w (joining i js d) j = keeps_more w i _ (λ m h. in_front (w i).learned (learned_by w js) m h) j

keeps_all : (w : World) (xs : List Writing) (j : ℕ) → IsWithin (w j).learned (after_writings w xs j).learned
keeps_all w [] j m h = h
keeps_all w (x ∷ xs) j m h = keeps_all (after_writing w x) xs j m (keeps w x j m h)

-- ---- schedules put end to end

run_append : (w : World) (ss : List Step) (s : Step) → run LEVELS w (ss ++ s ∷ []) ≡ after_step LEVELS (run LEVELS w ss) s
run_append w [] s = refl
run_append w (x ∷ xs) s = run_append (after_step LEVELS w x) xs s

schedule_append : (w : World) (ss : List Step) (s : Step) → IsSchedule LEVELS w ss → IsStep LEVELS (run LEVELS w ss) s → IsSchedule LEVELS w (ss ++ s ∷ [])
schedule_append w [] s h step = (step, tt)
schedule_append w (x ∷ xs) s h step = (h.0, schedule_append (after_step LEVELS w x) xs s h.1 step)

nil_end : (ss : List Step) → ss ≡ ss ++ []
nil_end [] = refl
nil_end (s ∷ ss) = ap (λ x. s ∷ x) (nil_end ss)

-- ---- one step

-- A replica holds a document, and has learned something.
record IsFit (r : Replica) : Type 0 where
  is_doc : IsDoc r.doc
  some : IsNotEmpty r.learned

-- What is written is a step of a schedule, and leaves replicas that are so.
record IsMade (w : World) (x : Writing) : Type 0 where
  step : IsStep LEVELS w (step_of x)
  same : after_step LEVELS w (step_of x) ≡ after_writing w x
  fit : (j : ℕ) → IsFit (after_writing w x j)

module _ (S : List Db) (a : Agreed S) where
  module _ (w : World) (good : (j : ℕ) → IsFit (w j)) (within : LearnsWithin w S) (dbs : (j : ℕ) → db_in (w j).doc ≡ join (w j).learned) where
    learned_parts : (js : List ℕ) → AreParts (map (λ j. (w j).learned) js) S
    learned_parts [] = tt
    learned_parts (j ∷ js) = (((good j).some, within j), learned_parts js)

    learned_joins : (js : List ℕ) → map db_in (docs_of w js) ≡ map join (map (λ j. (w j).learned) js)
    learned_joins [] = refl
    learned_joins (j ∷ js) = λ k. dbs j k ∷ learned_joins js k

    docs_dbs : (js : List ℕ) → map db_in (docs_of w js) ≡ dbs_of w js
    docs_dbs [] = refl
    docs_dbs (j ∷ js) = ap (λ x. db_in (w j).doc ∷ x) (docs_dbs js)

    are_docs : (i : ℕ) (js : List ℕ) → AreDocs (docs_of w (i ∷ js))
    are_docs i js d h = let f = from_map (λ j. (w j).doc) (i ∷ js) d h in subst IsDoc f.1.1 (good f.0).is_doc

    docs_agree : (js : List ℕ) → Agreed (map db_in (docs_of w js))
    docs_agree js = subst Agreed (sym (learned_joins js)) (joins_agreed S (map (λ j. (w j).learned) js) a (learned_parts js))

    made : (x : Writing) → IsWriting w x → IsMade w x
    made (growth i d) h = record {
      step = h.1;
      same = refl;
      fit = λ j. there IsFit w i (record { doc = d; learned = (w i).learned ++ db_in d ∷ [] }) j
          (λ e. record { is_doc = h.0; some = some_end (w i).learned (db_in d ∷ []) (good i).some }) (good j);
    }
    made (joining i js d) h =
        let t = (w i).doc in
        let ss = docs_of w js in
        let m = merged_so t ss (are_docs i js) d h in
        let list : members t ss ≡ db_in t ∷ dbs_of w js = members_are t ss (are_docs i js) (docs_agree (i ∷ js)) ∙ ap (λ x. db_in t ∷ x) (docs_dbs js) in
        record {
          step = subst (λ (R : List Db). FitsLevels LEVELS (join R)) list m.fits;
          same = ap (λ x. put w i (record { doc = x; learned = (w i).learned ++ learned_by w js }))
              (ap (λ (R : List Db). lay_doc LEVELS (join R) t) (sym list) ∙ m.laid);
          fit = λ j. there IsFit w i (record { doc = d; learned = (w i).learned ++ learned_by w js }) j
              (λ e. record { is_doc = (settled_as t ss (are_docs i js) d m).is_doc; some = some_end (w i).learned (learned_by w js) (good i).some }) (good j);
        }

  -- ---- a run

  module _ (docs : ℕ → BareDoc) where
    abbrev at : List Step → World
    at ss = run LEVELS (begin docs) ss

    -- the laws of schedules at the end of one
    learned_at : (ss : List Step) → IsSchedule LEVELS (begin docs) ss → LearnsWithin (at ss) S → (i : ℕ) → db_in (at ss i).doc ≡ join (at ss i).learned
    learned_at ss h f =
        learned_join LEVELS S a docs ss [] (subst (IsSchedule LEVELS (begin docs)) (nil_end ss) h) (subst (λ x. LearnsWithin (at x) S) (nil_end ss) f)

    same_at : (ss : List Step) → IsSchedule LEVELS (begin docs) ss → LearnsWithin (at ss) S → (i j : ℕ) → IsWithin (at ss i).learned (at ss j).learned
        → IsWithin (at ss j).learned (at ss i).learned → db_in (at ss i).doc ≡ db_in (at ss j).doc
    same_at ss h f =
        learned_same LEVELS S a docs ss [] (subst (IsSchedule LEVELS (begin docs)) (nil_end ss) h) (subst (λ x. LearnsWithin (at x) S) (nil_end ss) f)

    go : (ss : List Step) (xs : List Writing) → IsSchedule LEVELS (begin docs) ss → ((j : ℕ) → IsFit (at ss j)) → AreWritings (at ss) xs → LearnsWithin (after_writings (at ss) xs) S
        → IsSchedule LEVELS (at ss) (map step_of xs) × (run LEVELS (at ss) (map step_of xs) ≡ after_writings (at ss) xs)
    go ss [] h good ws f = (tt, refl)
    go ss (x ∷ xs) h good ws f =
        let now : LearnsWithin (at ss) S = λ j m k. f j m (keeps_all (at ss) (x ∷ xs) j m k) in
        let one = made (at ss) good now (learned_at ss h now) x ws.0 in
        let next : at (ss ++ step_of x ∷ []) ≡ after_step LEVELS (at ss) (step_of x) = run_append (begin docs) ss (step_of x) in
        let is : at (ss ++ step_of x ∷ []) ≡ after_writing (at ss) x = next ∙ one.same in
        let rest = go (ss ++ step_of x ∷ []) xs (schedule_append (begin docs) ss (step_of x) h one.step)
        (subst (λ (v : World). (j : ℕ) → IsFit (v j)) (sym is) one.fit)
        (subst (λ (v : World). AreWritings v xs) (sym is) ws.1)
        (subst (λ (v : World). LearnsWithin (after_writings v xs) S) (sym is) f) in (
          (one.step, subst (λ (v : World). IsSchedule LEVELS v (map step_of xs)) next rest.0),
          ap (λ (v : World). run LEVELS v (map step_of xs)) (sym next) ∙ rest.1 ∙ ap (λ (v : World). after_writings v xs) is,
        )

module _ (S : List Db) (docs : ℕ → BareDoc) (xs : List Writing) (r : IsRun S docs xs) where
  pub run_schedule : IsSchedule LEVELS (begin docs) (map step_of xs) × (run LEVELS (begin docs) (map step_of xs) ≡ after_writings (begin docs) xs)
  run_schedule = go S r.agreed docs [] xs tt (λ j. record { is_doc = r.are_docs j; some = tt }) r.are_writings r.within

  there_too : LearnsWithin (run LEVELS (begin docs) (map step_of xs)) S
  there_too = subst (λ (v : World). LearnsWithin v S) (sym run_schedule.1) r.within

  pub run_join : (i : ℕ) → db_in (after_writings (begin docs) xs i).doc ≡ join (after_writings (begin docs) xs i).learned
  run_join = subst (λ (v : World). (i : ℕ) → db_in (v i).doc ≡ join (v i).learned) run_schedule.1 (learned_at S r.agreed docs (map step_of xs) run_schedule.0 there_too)

  pub run_agree : (i j : ℕ) → IsWithin (after_writings (begin docs) xs i).learned (after_writings (begin docs) xs j).learned
      → IsWithin (after_writings (begin docs) xs j).learned (after_writings (begin docs) xs i).learned
      → db_in (after_writings (begin docs) xs i).doc ≡ db_in (after_writings (begin docs) xs j).doc
  run_agree =
      subst (λ (v : World). (i j : ℕ) → IsWithin (v i).learned (v j).learned → IsWithin (v j).learned (v i).learned → db_in (v i).doc ≡ db_in (v j).doc) run_schedule.1
      (same_at S r.agreed docs (map step_of xs) run_schedule.0 there_too)
