-- Runs of changes and merges over several replicas.
use Rattle.std.proofs.Common.{◌≡◌, ℕ, Bool, true, false, cond, inl, inr, List, [], ◌∷◌, ◌++◌, map, nat_eq, refl, sym, ap, subst, ◌∙◌}
use Rattle.std.proofs.lemmas.Bool.{eqb-true, eq-eqb}
use Rattle.vault_model.specs.Db.{Db, Sound}
use Rattle.vault_model.specs.Join.{join, IsIn, IsWithin, IsNotEmpty, IsPart, Agreed}
use Rattle.vault_model.specs.Plans.{Replica, World, Step, change, merged, begin, learned_by, dbs_of, put, after_step, run, IsStep, IsSchedule}
use Rattle.vault_model.specs.Tree.{BareDoc, db_in, lay_doc}
use Rattle.vault_model.proofs.Tests.{in_front, in_back}
use Rattle.merge_core.proofs.TreeShape.{laid_document}
use Rattle.merge_core.specs.JoinLaws.{AreParts, end_to_end, LearnsWithin}
use Rattle.merge_core.proofs.PlanLaws.{join_one, alike_join}
use Rattle.merge_core.proofs.Regroup.{part_join_sound, join_of_joins, end_part, some_end}

-- what holds of the new replica at its number, and of the old one, holds of the one that is there
there : (P : Replica → Type 0) (w : World) (i : ℕ) (r : Replica) (j : ℕ) → (i ≡ j → P r) → P (w j) → P (put w i r j)
there P w i r j new old = pick (nat_eq j i) (λ e. new (sym (eqb-true j i e)))
  where
    pick : (b : Bool) → (b ≡ true → P r) → P (cond b r (w j))
    pick true f = f refl
    pick false f = old

-- ---- what is learned is not forgotten

keeps_learned : (w : World) (i : ℕ) (r : Replica) → IsWithin (w i).learned r.learned → (j : ℕ) → IsWithin (w j).learned (put w i r j).learned
keeps_learned w i r more j =
    there (λ x. IsWithin (w j).learned x.learned) w i r j (λ e. subst (λ k. IsWithin (w k).learned r.learned) e more) (λ m h. h)

remembers : (n : ℕ) (w : World) (s : Step) (j : ℕ) → IsWithin (w j).learned (after_step n w s j).learned
remembers n w (change i d) j = keeps_learned w i _ (λ m h. in_front (w i).learned (db_in d ∷ []) m h) j
remembers n w (merged i js) j = keeps_learned w i _ (λ m h. in_front (w i).learned (learned_by w js) m h) j

remembers_all : (n : ℕ) (w : World) (ss : List Step) (S : List Db) → LearnsWithin (run n w ss) S → LearnsWithin w S
remembers_all n w [] S f j m h = f j m h
remembers_all n w (s ∷ ss) S f j m h = remembers_all n (after_step n w s) ss S f j m (remembers n w s j m h)

-- ---- every replica is good

-- a replica has learned something, and its database is the join of what it has learned
record IsGood (r : Replica) : Type 0 where
  some : IsNotEmpty r.learned
  same : db_in r.doc ≡ join r.learned

module _ (n : ℕ) (S : List Db) (a : Agreed S) where
  good_begin : (docs : ℕ → BareDoc) → LearnsWithin (begin docs) S → (j : ℕ) → IsGood (begin docs j)
  good_begin docs f j = record { some = tt; same = sym (join_one S a (db_in (docs j)) (f j (db_in (docs j)) (inl refl))) }

  module _ (w : World) (good : (j : ℕ) → IsGood (w j)) (f : LearnsWithin w S) where
    good_change : (i : ℕ) (d : BareDoc) → IsStep n w (change i d) → IsIn (db_in d) S → IsGood (record { doc = d; learned = (w i).learned ++ db_in d ∷ [] })
    good_change i d step h =
        let g = good i in
        let one : IsPart (db_in d ∷ []) S = (tt, λ m k. elim k [ inl p ↦ subst (λ (x : Db). IsIn x S) p h | inr x ↦ absurd x ]) in
        record {
          some = some_end (w i).learned (db_in d ∷ []) g.some;
          same =
              sym step ∙ (λ k. join (g.same k ∷ sym (join_one S a (db_in d) h) k ∷ []))
              ∙ join_of_joins S a ((w i).learned ∷ (db_in d ∷ []) ∷ []) tt ((g.some, f i), (one, tt));
        }

    learned_dbs : (js : List ℕ) → dbs_of w js ≡ map join (map (λ j. (w j).learned) js)
    learned_dbs [] = refl
    learned_dbs (j ∷ js) = λ k. (good j).same k ∷ learned_dbs js k

    learned_parts : (js : List ℕ) → AreParts (map (λ j. (w j).learned) js) S
    learned_parts [] = tt
    learned_parts (j ∷ js) = (((good j).some, f j), learned_parts js)

    learned_end : (js : List ℕ) → end_to_end (map (λ j. (w j).learned) js) ≡ learned_by w js
    learned_end [] = refl
    learned_end (j ∷ js) = ap (λ x. (w j).learned ++ x) (learned_end js)

    good_merge : (i : ℕ) (js : List ℕ) → IsStep n w (merged i js)
        → IsGood (record { doc = lay_doc n (join (db_in (w i).doc ∷ dbs_of w js)) (w i).doc; learned = (w i).learned ++ learned_by w js })
    good_merge i js step =
        let g = good i in
        let parts : AreParts ((w i).learned ∷ map (λ j. (w j).learned) js) S = ((g.some, f i), learned_parts js) in
        let all : join (db_in (w i).doc ∷ dbs_of w js) ≡ join ((w i).learned ++ learned_by w js) =
        (λ k. join (g.same k ∷ learned_dbs js k))
        ∙ join_of_joins S a ((w i).learned ∷ map (λ j. (w j).learned) js) tt parts
        ∙ ap (λ x. join ((w i).learned ++ x)) (learned_end js) in
        let sound : Sound (join (db_in (w i).doc ∷ dbs_of w js)) =
        subst Sound (sym (all ∙ ap (λ x. join ((w i).learned ++ x)) (sym (learned_end js))))
        (part_join_sound S ((w i).learned ++ end_to_end (map (λ j. (w j).learned) js)) a (end_part S ((w i).learned ∷ map (λ j. (w j).learned) js) tt parts)) in
        record {
          some = some_end (w i).learned (learned_by w js) g.some;
          same = (laid_document n (join (db_in (w i).doc ∷ dbs_of w js)) (w i).doc sound step).0 ∙ all;
        }

    good_step : (s : Step) → IsStep n w s → LearnsWithin (after_step n w s) S → (j : ℕ) → IsGood (after_step n w s j)
    good_step (change i d) step g j =
        there IsGood w i (record { doc = d; learned = (w i).learned ++ db_in d ∷ [] }) j
        (λ e. good_change i d step (g i (db_in d) (new_there i d))) (good j)
      where
        new_there : (k : ℕ) (x : BareDoc) → IsIn (db_in x) (after_step n w (change k x) k).learned
        new_there k x = pick (nat_eq k k) (eq-eqb k k refl)
          where
            pick : (b : Bool) → b ≡ true → IsIn (db_in x) (cond b (record { doc = x; learned = (w k).learned ++ db_in x ∷ [] }) (w k)).learned
            pick true e = in_back (w k).learned (db_in x ∷ []) (db_in x) (inl refl)
            pick false e = cc e
    good_step (merged i js) step g j =
        there IsGood w i (record { doc = lay_doc n (join (db_in (w i).doc ∷ dbs_of w js)) (w i).doc; learned = (w i).learned ++ learned_by w js }) j
        (λ e. good_merge i js step) (good j)

  good_run : (w : World) (done rest : List Step) → ((j : ℕ) → IsGood (w j)) → IsSchedule n w (done ++ rest) → LearnsWithin (run n w (done ++ rest)) S
      → (j : ℕ) → IsGood (run n w done j)
  good_run w [] rest good steps f = good
  good_run w (s ∷ ss) rest good steps f =
      good_run (after_step n w s) ss rest
      (good_step w good (remembers_all n w (s ∷ ss ++ rest) S f) s steps.0 (remembers_all n (after_step n w s) (ss ++ rest) S f))
      steps.1 f

  learns_run : (w : World) (done rest : List Step) → LearnsWithin (run n w (done ++ rest)) S → LearnsWithin (run n w done) S
  learns_run w [] rest f = remembers_all n w rest S f
  learns_run w (s ∷ ss) rest f = learns_run (after_step n w s) ss rest f

  -- after every step each replica's database is the join of what it has learned
  pub learned_join : (docs : ℕ → BareDoc) (done rest : List Step) → IsSchedule n (begin docs) (done ++ rest) → LearnsWithin (run n (begin docs) (done ++ rest)) S
      → (i : ℕ) → db_in (run n (begin docs) done i).doc ≡ join (run n (begin docs) done i).learned
  learned_join docs done rest steps f i =
      (good_run (begin docs) done rest (good_begin docs (remembers_all n (begin docs) (done ++ rest) S f)) steps f i).same

  pub learned_same : (docs : ℕ → BareDoc) (done rest : List Step) → IsSchedule n (begin docs) (done ++ rest) → LearnsWithin (run n (begin docs) (done ++ rest)) S
      → (i j : ℕ) → IsWithin (run n (begin docs) done i).learned (run n (begin docs) done j).learned
      → IsWithin (run n (begin docs) done j).learned (run n (begin docs) done i).learned
      → db_in (run n (begin docs) done i).doc ≡ db_in (run n (begin docs) done j).doc
  learned_same docs done rest steps f i j to from =
      let good = good_run (begin docs) done rest (good_begin docs (remembers_all n (begin docs) (done ++ rest) S f)) steps f in
      let within = learns_run (begin docs) done rest f in
      (good i).same
      ∙ alike_join S a (run n (begin docs) done i).learned (run n (begin docs) done j).learned ((good i).some, within i) ((good j).some, within j) to from
      ∙ sym (good j).same
