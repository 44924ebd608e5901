-- Runs of changes, merges and copies over several replicas.
use Rattle.std.proofs.Common.{◌≡◌, ℕ, Bool, true, false, cond, inl, inr, List, [], ◌∷◌, ◌++◌, map, nat_eq, refl, sym, ap, subst, ◌∙◌}
use Rattle.vault_model.specs.Db.{Db, Sound}
use Rattle.vault_model.specs.Join.{join, IsIn, IsWithin, IsNotEmpty, IsPart, Agreed}
use Rattle.vault_model.specs.Plans.{Replica, World, change, merged, begin, learned_by, dbs_of, put, IsStep}
use Rattle.vault_model.specs.Tree.{BareDoc, db_in, lay_doc}
use Rattle.vault_model.proofs.Tests.{in_front, in_back}
use Rattle.merge_core.proofs.TreeShape.{laid_document}
use Rattle.merge_core.specs.JoinLaws.{AreParts, end_to_end}
use Rattle.merge_core.proofs.PlanLaws.{join_one, alike_join}
use Rattle.merge_core.proofs.Regroup.{part_join_sound, join_of_joins, joins_allowed, end_part, some_end}
use Rattle.merge_core.proofs.SoundJoin.{join_sound}
use Rattle.history_laws.specs.Current.{current_view}
use Rattle.history_laws.specs.Histories.{AreEvents, AreTrimmedEvents, Event, HistoriesAgree, IsEvent, IsTrimmedEvent, IsTrimmedStep, SameHistorySameCurrent, SameHistorySameDb, TrimmedAgree, after_event, after_events, copy, schedule_step}
use Rattle.history_laws.proofs.CurrentJoin.{allowed_alike, view_alike}

-- what holds of the new replica, and of each old one, holds of the one that is there
pub there : (P : Replica → Type 0) (w : World) (i : ℕ) (r : Replica) (j : ℕ) → P r → P (w j) → P (put w i r j)
there P w i r j new old = pick (nat_eq j i)
  where
    pick : (b : Bool) → P (cond b r (w j))
    pick true = new
    pick false = old

-- A replica has learned something, its database is sound, and is the join of what it has learned.
pub record IsWhole (r : Replica) : Type 0 where
  pub some : IsNotEmpty r.learned
  pub sound : Sound (db_in r.doc)
  pub same : db_in r.doc ≡ join r.learned

-- The same of what is current.
pub record IsTrimmed (r : Replica) : Type 0 where
  pub some : IsNotEmpty r.learned
  pub sound : Sound (db_in r.doc)
  pub same : current_view (db_in r.doc) ≡ current_view (join r.learned)

module _ (S : List Db) (a : Agreed S) where
  -- ---- a replica whose learned databases are within the set

  abbrev pub Within : Replica → Type 0
  Within r = IsWithin r.learned S

  front : (L R : List Db) → IsWithin (L ++ R) S → IsWithin L S
  front L R f m h = f m (in_front L R m h)

  back : (L R : List Db) → IsWithin (L ++ R) S → IsWithin R S
  back L R f m h = f m (in_back L R m h)

  one_part : (m : Db) → IsIn m S → IsPart (m ∷ []) S
  one_part m h = (tt, λ n k. elim k [ inl p ↦ subst (λ (x : Db). IsIn x S) p h | inr x ↦ absurd x ])

  -- ---- several replicas

  module _ (w : World) where
    pub learned_end : (js : List ℕ) → end_to_end (map (λ j. (w j).learned) js) ≡ learned_by w js
    learned_end [] = refl
    learned_end (j ∷ js) = ap (λ x. (w j).learned ++ x) (learned_end js)

    module _ (P : Replica → Type 0) (some : (r : Replica) → P r → IsNotEmpty r.learned) (good : (j : ℕ) → Within (w j) → P (w j)) where
      pub learned_parts : (js : List ℕ) → IsWithin (learned_by w js) S → AreParts (map (λ j. (w j).learned) js) S
      learned_parts [] f = tt
      learned_parts (j ∷ js) f =
          let here = front (w j).learned (learned_by w js) f in
          ((some (w j) (good j here), here), learned_parts js (back (w j).learned (learned_by w js) f))

      all_good : (js : List ℕ) → IsWithin (learned_by w js) S → (m : Db) → IsIn m (dbs_of w js) → (j : ℕ) × ((db_in (w j).doc ≡ m) × P (w j))
      all_good [] f m h = absurd h
      all_good (j ∷ js) f m (inl p) = (j, (p, good j (front (w j).learned (learned_by w js) f)))
      all_good (j ∷ js) f m (inr h) = all_good js (back (w j).learned (learned_by w js) f) m h

  -- ---- whole histories

  module _ (w : World) (good : (j : ℕ) → Within (w j) → IsWhole (w j)) where
    whole_change : (i : ℕ) (d : BareDoc) → IsStep 0 w (change i d) → Within (record { doc = d; learned = (w i).learned ++ db_in d ∷ [] })
        → IsWhole (record { doc = d; learned = (w i).learned ++ db_in d ∷ [] })
    whole_change i d step f =
        let mine = front (w i).learned (db_in d ∷ []) f in
        let h = back (w i).learned (db_in d ∷ []) f (db_in d) (inl refl) in
        let g = good i mine in
        record {
          some = some_end (w i).learned (db_in d ∷ []) g.some;
          sound = a.compatible.sound (db_in d) h;
          same = sym step ∙ (λ k. join (g.same k ∷ sym (join_one S a (db_in d) h) k ∷ []))
              ∙ join_of_joins S a ((w i).learned ∷ (db_in d ∷ []) ∷ []) tt ((g.some, mine), (one_part (db_in d) h, tt));
        }

    pub whole_dbs : (js : List ℕ) → IsWithin (learned_by w js) S → dbs_of w js ≡ map join (map (λ j. (w j).learned) js)
    whole_dbs [] f = refl
    whole_dbs (j ∷ js) f = λ k. (good j (front (w j).learned (learned_by w js) f)).same k ∷ whole_dbs js (back (w j).learned (learned_by w js) f) k

    whole_merge : (n i : ℕ) (js : List ℕ) → IsStep n w (merged i js)
        → Within (record { doc = lay_doc n (join (db_in (w i).doc ∷ dbs_of w js)) (w i).doc; learned = (w i).learned ++ learned_by w js })
        → IsWhole (record { doc = lay_doc n (join (db_in (w i).doc ∷ dbs_of w js)) (w i).doc; learned = (w i).learned ++ learned_by w js })
    whole_merge n i js step f =
        let Ls = map (λ j. (w j).learned) (i ∷ js) in
        let parts = learned_parts w IsWhole (λ r g. g.some) good (i ∷ js) f in
        let joined : join (db_in (w i).doc ∷ dbs_of w js) ≡ join (end_to_end Ls) =
        ap join (whole_dbs (i ∷ js) f) ∙ join_of_joins S a Ls tt parts in
        let sound : Sound (join (db_in (w i).doc ∷ dbs_of w js)) =
        subst Sound (sym joined) (part_join_sound S (end_to_end Ls) a (end_part S Ls tt parts)) in
        let laid = (laid_document n (join (db_in (w i).doc ∷ dbs_of w js)) (w i).doc sound step).0 in
        record {
          some = some_end (w i).learned (learned_by w js) parts.0.0;
          sound = subst Sound (sym laid) sound;
          same = laid ∙ joined ∙ ap join (learned_end w (i ∷ js));
        }

    pub whole_event : (n : ℕ) (e : Event) → IsEvent n w e → (j : ℕ) → Within (after_event n w e j) → IsWhole (after_event n w e j)
    whole_event n (schedule_step (change i d)) step j =
        there (λ r. Within r → IsWhole r) w i (record { doc = d; learned = (w i).learned ++ db_in d ∷ [] }) j (whole_change i d step) (good j)
    whole_event n (schedule_step (merged i js)) step j =
        there (λ r. Within r → IsWhole r) w i (record { doc = lay_doc n (join (db_in (w i).doc ∷ dbs_of w js)) (w i).doc; learned = (w i).learned ++ learned_by w js }) j
        (whole_merge n i js step) (good j)
    whole_event n (copy i k) step j = there (λ r. Within r → IsWhole r) w i (w k) j (good k) (good j)

  whole_events : (n : ℕ) (w : World) (es : List Event) → ((j : ℕ) → Within (w j) → IsWhole (w j)) → AreEvents n w es
      → (j : ℕ) → Within (after_events n w es j) → IsWhole (after_events n w es j)
  whole_events n w [] good steps = good
  whole_events n w (e ∷ es) good steps = whole_events n (after_event n w e) es (whole_event w good n e steps.0) steps.1

  pub whole_begin : (docs : ℕ → BareDoc) (j : ℕ) → Within (begin docs j) → IsWhole (begin docs j)
  whole_begin docs j f =
      let h = f (db_in (docs j)) (inl refl) in
      record { some = tt; sound = a.compatible.sound (db_in (docs j)) h; same = sym (join_one S a (db_in (docs j)) h) }

  -- ---- trimmed histories

  module _ (w : World) (good : (j : ℕ) → Within (w j) → IsTrimmed (w j)) where
    trimmed_change : (i : ℕ) (d : BareDoc) → IsTrimmedStep 0 w (change i d) → Within (record { doc = d; learned = (w i).learned ++ db_in d ∷ [] })
        → IsTrimmed (record { doc = d; learned = (w i).learned ++ db_in d ∷ [] })
    trimmed_change i d step f =
        let mine = front (w i).learned (db_in d ∷ []) f in
        let h = back (w i).learned (db_in d ∷ []) f (db_in d) (inl refl) in
        let g = good i mine in
        record {
          some = some_end (w i).learned (db_in d ∷ []) g.some;
          sound = a.compatible.sound (db_in d) h;
          same = sym step
              ∙ view_alike (db_in (w i).doc ∷ db_in d ∷ []) (join (w i).learned ∷ join (db_in d ∷ []) ∷ []) (λ k. g.same k ∷ current_view (sym (join_one S a (db_in d) h) k) ∷ [])
              ∙ ap current_view (join_of_joins S a ((w i).learned ∷ (db_in d ∷ []) ∷ []) tt ((g.some, mine), (one_part (db_in d) h, tt)));
        }

    pub trimmed_dbs : (js : List ℕ) → IsWithin (learned_by w js) S → map current_view (dbs_of w js) ≡ map current_view (map join (map (λ j. (w j).learned) js))
    trimmed_dbs [] f = refl
    trimmed_dbs (j ∷ js) f = λ k. (good j (front (w j).learned (learned_by w js) f)).same k ∷ trimmed_dbs js (back (w j).learned (learned_by w js) f) k

    trimmed_merge : (n i : ℕ) (js : List ℕ) → IsTrimmedStep n w (merged i js)
        → Within (record { doc = lay_doc n (join (db_in (w i).doc ∷ dbs_of w js)) (w i).doc; learned = (w i).learned ++ learned_by w js })
        → IsTrimmed (record { doc = lay_doc n (join (db_in (w i).doc ∷ dbs_of w js)) (w i).doc; learned = (w i).learned ++ learned_by w js })
    trimmed_merge n i js step f =
        let dbs = db_in (w i).doc ∷ dbs_of w js in
        let Ls = map (λ j. (w j).learned) (i ∷ js) in
        let parts = learned_parts w IsTrimmed (λ r g. g.some) good (i ∷ js) f in
        let alike = trimmed_dbs (i ∷ js) f in
        let allowed = allowed_alike dbs (map join Ls) alike (joins_allowed S a Ls tt parts) in
        let sound : Sound (join dbs) = join_sound dbs allowed (λ m h.
        let g = all_good w IsTrimmed (λ r x. x.some) good (i ∷ js) f m h in
        subst Sound g.1.0 g.1.1.sound) in
        let laid = (laid_document n (join dbs) (w i).doc sound step).0 in
        record {
          some = some_end (w i).learned (learned_by w js) parts.0.0;
          sound = subst Sound (sym laid) sound;
          same = ap current_view laid ∙ view_alike dbs (map join Ls) alike ∙ ap current_view (join_of_joins S a Ls tt parts) ∙ ap (λ L. current_view (join L)) (learned_end w (i ∷ js));
        }

    pub trimmed_event : (n : ℕ) (e : Event) → IsTrimmedEvent n w e → (j : ℕ) → Within (after_event n w e j) → IsTrimmed (after_event n w e j)
    trimmed_event n (schedule_step (change i d)) step j =
        there (λ r. Within r → IsTrimmed r) w i (record { doc = d; learned = (w i).learned ++ db_in d ∷ [] }) j (trimmed_change i d step) (good j)
    trimmed_event n (schedule_step (merged i js)) step j =
        there (λ r. Within r → IsTrimmed r) w i (record { doc = lay_doc n (join (db_in (w i).doc ∷ dbs_of w js)) (w i).doc; learned = (w i).learned ++ learned_by w js }) j
        (trimmed_merge n i js step) (good j)
    trimmed_event n (copy i k) step j = there (λ r. Within r → IsTrimmed r) w i (w k) j (good k) (good j)

  trimmed_events : (n : ℕ) (w : World) (es : List Event) → ((j : ℕ) → Within (w j) → IsTrimmed (w j)) → AreTrimmedEvents n w es
      → (j : ℕ) → Within (after_events n w es j) → IsTrimmed (after_events n w es j)
  trimmed_events n w [] good steps = good
  trimmed_events n w (e ∷ es) good steps = trimmed_events n (after_event n w e) es (trimmed_event w good n e steps.0) steps.1

  pub trimmed_begin : (docs : ℕ → BareDoc) (j : ℕ) → Within (begin docs j) → IsTrimmed (begin docs j)
  trimmed_begin docs j f = let g = whole_begin docs j f in record { some = g.some; sound = g.sound; same = ap current_view g.same }

pub histories_agree : HistoriesAgree
histories_agree n S docs es a steps i f = (whole_events S a n (begin docs) es (whole_begin S a docs) steps i f).same

pub trimmed_agree : TrimmedAgree
trimmed_agree n S docs es a steps i f = (trimmed_events S a n (begin docs) es (trimmed_begin S a docs) steps i f).same

pub same_history_same_db : SameHistorySameDb
same_history_same_db n S docs es a steps i j f to from =
    let w = after_events n (begin docs) es in
    let g : (k : ℕ) → IsWithin (w k).learned S → IsWhole (w k) = whole_events S a n (begin docs) es (whole_begin S a docs) steps in
    let here : IsWithin (w i).learned S = λ m h. f m (to m h) in
    (g i here).same ∙ alike_join S a (w i).learned (w j).learned ((g i here).some, here) ((g j f).some, f) to from ∙ sym (g j f).same

pub same_history_same_current : SameHistorySameCurrent
same_history_same_current n S docs es a steps i j f to from =
    let w = after_events n (begin docs) es in
    let g : (k : ℕ) → IsWithin (w k).learned S → IsTrimmed (w k) = trimmed_events S a n (begin docs) es (trimmed_begin S a docs) steps in
    let here : IsWithin (w i).learned S = λ m h. f m (to m h) in
    (g i here).same ∙ ap current_view (alike_join S a (w i).learned (w j).learned ((g i here).some, here) ((g j f).some, f) to from) ∙ sym (g j f).same
