-- A history in which each change only adds agrees.
use Rattle.std.proofs.Common.{◌≡◌, ℕ, Bool, true, false, cond, inl, inr, List, [], ◌∷◌, ◌++◌, Some, None, map, max, nat_eq, refl, sym, ap, subst, ◌∙◌}
use Rattle.std.proofs.lemmas.Option.{same_Some}
use Rattle.std.specs.FinMap.{contains_key, get}
use Rattle.vault_model.specs.Db.{Db, NodeId, Place, Sound, holds}
use Rattle.vault_model.specs.Join.{Agreed, IsIn, IsPart, IsWithin, join, kept, latest, root_of}
use Rattle.vault_model.specs.Plans.{Replica, World, begin, change, learned_by, merged, put}
use Rattle.vault_model.specs.Tree.{BareDoc, db_in}
use Rattle.vault_model.proofs.Tests.{apart, decide, from_map, in_either, is_false, or_cases, or_left, or_right, some_of}
use Rattle.merge_core.proofs.Facts.{join_places, join_root, latest_found, part_root, part_sound, placed_held}
use Rattle.merge_core.proofs.PlanLaws.{join_one}
use Rattle.merge_core.proofs.Regroup.{keeps_tombs, part_allowed}
use Rattle.merge_core.proofs.Semilattice.{none-gather}
use Rattle.merge_core.proofs.SoundJoin.{cond_some, entry_kept, group_kept}
use Rattle.history_laws.specs.Current.{current_view}
use Rattle.history_laws.specs.FreeHistories.{AreFree, FreeHistoriesAgree, FreeSameCurrent, IsFree, IsFreeHistory, IsFresh, OnlyAdds, known_after, known_at_end}
use Rattle.history_laws.specs.Histories.{AreTrimmedEvents, Event, IsTrimmedEvent, after_event, after_events, copy, schedule_step}
use Rattle.history_laws.specs.Orderly.{HasNoLoss, HasNoMove, IsOneTree}
use Rattle.history_laws.proofs.CurrentJoin.{view_has}
use Rattle.history_laws.proofs.HistoryLaws.{IsTrimmed, same_history_same_current, there, trimmed_event}
use Rattle.history_laws.proofs.OrderlyLaws.{unmoved_agree}

-- what holds of two of some things, and of each with a new one, holds of any two of all
pairs : (P : Db → Db → Type 0) (n : Db) (known : List Db) → P n n → ((x : Db) → IsIn x known → P n x) → ((x : Db) → IsIn x known → P x n)
    → ((x y : Db) → IsIn x known → IsIn y known → P x y) → (x y : Db) → IsIn x (n ∷ known) → IsIn y (n ∷ known) → P x y
pairs P n known same to from old x y (inl p) (inl q) = subst (λ (a : Db). P a y) p (subst (λ (b : Db). P n b) q same)
pairs P n known same to from old x y (inl p) (inr j) = subst (λ (a : Db). P a y) p (to y j)
pairs P n known same to from old x y (inr i) (inl q) = subst (λ (b : Db). P x b) q (from x i)
pairs P n known same to from old x y (inr i) (inr j) = old x y i j

-- Databases that are one tree with no loss and no move.
pub record IsCalm (known : List Db) : Type 0 where
  pub one : IsOneTree known
  pub whole : HasNoLoss known
  pub unmoved : HasNoMove known

pub calm_agreed : (known : List Db) → IsCalm known → Agreed known
calm_agreed known c = unmoved_agree known c.one c.whole c.unmoved

-- ---- a change adds to what is known

module _ (known : List Db) (c : IsCalm known) (r : Replica) (good : IsTrimmed r) (within : IsWithin r.learned known) where
  abbrev m : Db
  m = db_in r.doc

  abbrev L : List Db
  L = r.learned

  agreed : Agreed known
  agreed = calm_agreed known c

  part : IsPart L known
  part = (good.some, within)

  same_groups : m.groups ≡ (join L).groups
  same_groups = ap (λ (x : Db). x.groups) good.same

  same_places : m.places ≡ (join L).places
  same_places = ap (λ (x : Db). x.places) good.same

  same_tombs : m.tombs ≡ (join L).tombs
  same_tombs = ap (λ (x : Db). x.tombs) good.same

  same_root : m.root ≡ root_of known
  same_root = ap (λ (x : Db). x.root) good.same ∙ join_root L ∙ part_root L known c.one.root part

  -- what it holds some database that was learned holds
  entry_from : (u : NodeId) → contains_key m.entries u ≡ true → (y : Db) × (IsIn y known × (contains_key y.entries u ≡ true))
  entry_from u e =
      let here = sym (view_has (join L) u) ∙ ap (λ (x : Db). contains_key x.entries u) (sym good.same) ∙ view_has m u ∙ e in
      let k = (entry_kept L (part_allowed known L agreed part) (part_sound agreed.compatible L part) u here).1 in
      (k.0, (within k.0 k.1.0, k.1.1))

  group_from : (u : NodeId) → contains_key m.groups u ≡ true → (y : Db) × (IsIn y known × (contains_key y.groups u ≡ true))
  group_from u e =
      let k = (group_kept L (part_allowed known L agreed part) (part_sound agreed.compatible L part) u (ap (λ g. contains_key g u) (sym same_groups) ∙ e)).1 in
      (k.0, (within k.0 k.1.0, k.1.1))

  held_from : (u : NodeId) → holds m u ≡ true → (y : Db) × (IsIn y known × (holds y u ≡ true))
  held_from u e = elim (or_cases (contains_key m.entries u) (contains_key m.groups u) e) [
    | inl k ↦ let y = entry_from u k in (y.0, (y.1.0, or_left (contains_key y.0.entries u) (contains_key y.0.groups u) y.1.1))
    | inr k ↦ let y = group_from u k in (y.0, (y.1.0, or_right (contains_key y.0.entries u) (contains_key y.0.groups u) y.1.1))
  ]

  place_from : (u : NodeId) (p : Place) → get m.places u ≡ Some p → (y : Db) × (IsIn y known × (get y.places u ≡ Some p))
  place_from u p e =
      let l = (cond_some (kept L u) (latest L u) p (sym (join_places L u) ∙ ap (λ q. get q u) (sym same_places) ∙ e)).1 in
      let f = latest_found L u p l in
      (f.0, (within f.0 f.1.0, f.1.1))

  no_tomb : (u : NodeId) (x : Db) → IsIn x known → holds x u ≡ true → get m.tombs u ≡ None
  no_tomb u x h e =
      ap (λ t. get t u) same_tombs ∙ keeps_tombs known L agreed part u
      ∙ none-gather max (map (λ (y : Db). get y.tombs u) L) (λ o k. let f = from_map (λ (y : Db). get y.tombs u) L o k in sym f.1.1 ∙ c.whole x f.0 u h (within f.0 f.1.0) e)

  module _ (n : Db) (sound : Sound n) (adds : OnlyAdds m n) (fresh : IsFresh known m n) where
    -- what is held elsewhere too was held before
    was : (x : Db) (u : NodeId) → IsIn x known → holds n u ≡ true → holds x u ≡ true → holds m u ≡ true
    was x u h e k = elim (decide (holds m u)) [ inl t ↦ t | inr t ↦ apart (holds x u) k (fresh x u h e t).0 ]

    was_entry : (u : NodeId) → holds m u ≡ true → contains_key n.entries u ≡ true → contains_key m.entries u ≡ true
    was_entry u e k = elim (or_cases (contains_key m.entries u) (contains_key m.groups u) e) [
      | inl t ↦ t
      | inr t ↦ apart (contains_key n.groups u) (adds.groups u t) (sound.kinds u k)
    ]

    was_group : (u : NodeId) → holds m u ≡ true → contains_key n.groups u ≡ true → contains_key m.groups u ≡ true
    was_group u e k = elim (or_cases (contains_key m.entries u) (contains_key m.groups u) e) [
      | inl t ↦ apart (contains_key n.groups u) k (sound.kinds u (adds.entries u t))
      | inr t ↦ t
    ]

    as_entry : (x : Db) (u : NodeId) → contains_key x.entries u ≡ true → holds x u ≡ true
    as_entry x u e = or_left (contains_key x.entries u) (contains_key x.groups u) e

    as_group : (x : Db) (u : NodeId) → contains_key x.groups u ≡ true → holds x u ≡ true
    as_group x u e = or_right (contains_key x.entries u) (contains_key x.groups u) e

    abbrev Kinds : Db → Db → Type 0
    Kinds x y = (u : NodeId) → contains_key x.entries u ≡ true → contains_key y.groups u ≡ false

    kinds_to : (x : Db) → IsIn x known → Kinds n x
    kinds_to x h u e = is_false (contains_key x.groups u) (λ k.
        let y = entry_from u (was_entry u (was x u h (as_entry n u e) (as_group x u k)) e) in
        apart (contains_key x.groups u) k (c.one.kinds y.0 x u y.1.0 h y.1.1))

    kinds_from : (x : Db) → IsIn x known → Kinds x n
    kinds_from x h u e = is_false (contains_key n.groups u) (λ k.
        let y = group_from u (was_group u (was x u h (as_group n u k) (as_entry x u e)) k) in
        apart (contains_key y.0.groups u) y.1.1 (c.one.kinds x y.0 u h y.1.0 e))

    abbrev Alive : Db → Db → Type 0
    Alive x y = (u : NodeId) → holds x u ≡ true → get y.tombs u ≡ None

    alive_to : (x : Db) → IsIn x known → Alive n x
    alive_to x h u e = elim (decide (holds m u)) [
      | inl t ↦ let y = held_from u t in c.whole y.0 x u y.1.0 h y.1.1
      | inr t ↦ (fresh x u h e t).1
    ]

    alive_from : (x : Db) → IsIn x known → Alive x n
    alive_from x h u e = ap (λ t. get t u) (sym adds.tombs) ∙ no_tomb u x h e

    abbrev Placed : Db → Db → Type 0
    Placed x y = (g : NodeId) (p q : Place) → contains_key y.groups g ≡ true → get x.places g ≡ Some p → get y.places g ≡ Some q → p.parent ≡ q.parent

    -- the group of a group in the new database is that in a known one
    same_parent : (x : Db) → IsIn x known → (g : NodeId) (p q : Place) → contains_key n.groups g ≡ true → holds x g ≡ true → get x.places g ≡ Some p → get n.places g ≡ Some q → p.parent ≡ q.parent
    same_parent x h g p q is held a b =
        let old = was_group g (was x g h (as_group n g is) held) is in
        let apart_root : g ≡ m.root → ⊥ = λ r. let no : None ≡ Some q → ⊥ = λ e. cc e in no (sym (ap (get n.places) (r ∙ adds.root) ∙ sound.top) ∙ b) in
        let s = some_of (get m.places g) (good.sound.placed g apart_root ∙ as_group m g old) in
        let y = place_from g s.0 s.1 in
        let there = group_from g old in
        let here : contains_key y.0.groups g ≡ true = in_group y.0 y.1.0 g s.0 y.1.1 there.0 there.1.0 there.1.1 in
        c.unmoved x y.0 g p s.0 h y.1.0 here a y.1.1 ∙ adds.parents g s.0 q old s.1 b
      where
        -- what has a place is held, and a group where it is one elsewhere
        in_group : (y : Db) → IsIn y known → (v : NodeId) (t : Place) → get y.places v ≡ Some t → (z : Db) → IsIn z known → contains_key z.groups v ≡ true → contains_key y.groups v ≡ true
        in_group y i v t e z k is_one = elim (or_cases (contains_key y.entries v) (contains_key y.groups v) (placed_held y v t (c.one.sound y i) e).1) [
          | inl o ↦ apart (contains_key z.groups v) is_one (c.one.kinds y z v i k o)
          | inr o ↦ o
        ]

    placed_from : (x : Db) → IsIn x known → Placed x n
    placed_from x h g p q is a b = same_parent x h g p q is (placed_held x g p (c.one.sound x h) a).1 a b

    placed_to : (x : Db) → IsIn x known → Placed n x
    placed_to x h g p q is a b =
        let held = (placed_held n g p sound a).1 in
        let old = was x g h held (as_group x g is) in
        let new : contains_key n.groups g ≡ true = elim (or_cases (contains_key n.entries g) (contains_key n.groups g) held) [
          | inl o ↦ apart (contains_key x.groups g) is (kinds_to x h g o)
          | inr o ↦ o
        ] in
        sym (same_parent x h g q p new (as_group x g is) b a)

    itself : Placed n n
    itself g p q is a b = ap (λ (t : Place). t.parent) (same_Some p q (sym a ∙ b))

    pub more_calm : IsCalm (n ∷ known)
    more_calm = record {
      one = record {
        sound = λ x h. elim h [ inl p ↦ subst Sound p sound | inr i ↦ c.one.sound x i ];
        root = λ x h. elim h [
          | inl p ↦ ap (λ (y : Db). y.root) (sym p)
          | inr i ↦ c.one.root x i ∙ sym same_root ∙ adds.root
        ];
        kinds = λ x y u h i. pairs Kinds n known sound.kinds kinds_to kinds_from (λ a b j k v. c.one.kinds a b v j k) x y h i u;
      };
      whole = λ x y u h i. pairs Alive n known sound.alive alive_to alive_from (λ a b j k v. c.whole a b v j k) x y h i u;
      unmoved = λ x y g p q h i. pairs Placed n known itself placed_to placed_from (λ a b j k v s t. c.unmoved a b v s t j k) x y h i g p q;
    }

-- ---- events

-- What is known is calm; each replica is good, and has learned what is known.
pub record IsFit (w : World) (known : List Db) : Type 0 where
  pub calm : IsCalm known
  pub within : (i : ℕ) → IsWithin (w i).learned known
  pub good : (i : ℕ) → IsTrimmed (w i)

pub learned_within : (w : World) (known : List Db) → ((i : ℕ) → IsWithin (w i).learned known) → (js : List ℕ) → IsWithin (learned_by w js) known
learned_within w known f [] x h = absurd h
learned_within w known f (j ∷ js) x h = elim (in_either (w j).learned (learned_by w js) x h) [
  | inl i ↦ f j x i
  | inr i ↦ learned_within w known f js x i
]

pub fit_event : (n : ℕ) (w : World) (known : List Db) → IsFit w known → (e : Event) → IsTrimmedEvent n w e → IsFree w known e → IsFit (after_event n w e) (known_after known e)
fit_event n w known fit (schedule_step (change i d)) step free =
    let now = db_in d ∷ known in
    let calm = more_calm known fit.calm (w i) (fit.good i) (fit.within i) (db_in d) free.0 free.1.0 free.1.1 in
    let within : (j : ℕ) → IsWithin (after_event n w (schedule_step (change i d)) j).learned now =
    λ j. there (λ r. IsWithin r.learned now) w i (record { doc = d; learned = (w i).learned ++ db_in d ∷ [] }) j
    (λ x h. elim (in_either (w i).learned (db_in d ∷ []) x h) [
      | inl k ↦ inr (fit.within i x k)
      | inr k ↦ elim k [ inl p ↦ inl p | inr z ↦ absurd z ]
    ]) (λ x h. inr (fit.within j x h)) in
    record { calm = calm; within = within; good = λ j. trimmed_event now (calm_agreed now calm) w (λ k f. fit.good k) n (schedule_step (change i d)) step j (within j) }
fit_event n w known fit (schedule_step (merged i js)) step free =
    let within : (j : ℕ) → IsWithin (after_event n w (schedule_step (merged i js)) j).learned known =
    λ j. there (λ r. IsWithin r.learned known) w i _ j
    (λ x h. elim (in_either (w i).learned (learned_by w js) x h) [ inl k ↦ fit.within i x k | inr k ↦ learned_within w known fit.within js x k ]) (fit.within j) in
    record { calm = fit.calm; within = within; good = λ j. trimmed_event known (calm_agreed known fit.calm) w (λ k f. fit.good k) n (schedule_step (merged i js)) step j (within j) }
fit_event n w known fit (copy i k) step free = record {
  calm = fit.calm;
  within = λ j. there (λ r. IsWithin r.learned known) w i (w k) j (fit.within k) (fit.within j);
  good = λ j. there IsTrimmed w i (w k) j (fit.good k) (fit.good j);
}

fit_events : (n : ℕ) (w : World) (known : List Db) (es : List Event) → IsFit w known → AreTrimmedEvents n w es → AreFree n w known es → IsFit (after_events n w es) (known_at_end known es)
fit_events n w known [] fit steps free = fit
fit_events n w known (e ∷ es) fit steps free = fit_events n (after_event n w e) (known_after known e) es (fit_event n w known fit e steps.0 free.0) steps.1 free.1

-- ---- the beginning

module _ (m : Db) (s : Sound m) where
  alone : (P : Db → Db → Type 0) → P m m → (x y : Db) → IsIn x (m ∷ []) → IsIn y (m ∷ []) → P x y
  alone P same = pairs P m [] same (λ x h. absurd h) (λ x h. absurd h) (λ x y h k. absurd h)

  pub calm_begin : IsCalm (m ∷ [])
  calm_begin = record {
    one = record {
      sound = λ x h. elim h [ inl p ↦ subst Sound p s | inr z ↦ absurd z ];
      root = λ x h. elim h [ inl p ↦ ap (λ (y : Db). y.root) (sym p) | inr z ↦ absurd z ];
      kinds = λ x y u h i. alone (λ a b. (v : NodeId) → contains_key a.entries v ≡ true → contains_key b.groups v ≡ false) s.kinds x y h i u;
    };
    whole = λ x y u h i. alone (λ a b. (v : NodeId) → holds a v ≡ true → get b.tombs v ≡ None) s.alive x y h i u;
    unmoved = λ x y g p q h i. alone (λ a b. (v : NodeId) (t r : Place) → contains_key b.groups v ≡ true → get a.places v ≡ Some t → get b.places v ≡ Some r → t.parent ≡ r.parent)
        (λ v t r is a b. ap (λ (z : Place). z.parent) (same_Some t r (sym a ∙ b))) x y h i g p q;
  }

fit_begin : (n : ℕ) (m : Db) (docs : ℕ → BareDoc) (es : List Event) → IsFreeHistory n m docs es → IsFit (begin docs) (m ∷ [])
fit_begin n m docs es h =
    let calm = calm_begin m h.sound in
    record {
      calm = calm;
      within = λ i x k. elim k [ inl p ↦ inl (sym (h.copies i) ∙ p) | inr z ↦ absurd z ];
      good = λ i. record {
        some = tt;
        sound = subst Sound (sym (h.copies i)) h.sound;
        same = ap current_view (h.copies i ∙ sym (join_one (m ∷ []) (calm_agreed (m ∷ []) calm) m (inl refl)) ∙ ap (λ x. join (x ∷ [])) (sym (h.copies i)));
      };
    }

pub free_histories_agree : FreeHistoriesAgree
free_histories_agree n m docs es h =
    let fit = fit_events n (begin docs) (m ∷ []) es (fit_begin n m docs es h) h.events h.free in
    (calm_agreed (known_at_end (m ∷ []) es) fit.calm, fit.within)

pub free_same_current : FreeSameCurrent
free_same_current n m docs es h i j to from =
    let a = free_histories_agree n m docs es h in
    same_history_same_current n (known_at_end (m ∷ []) es) docs es a.0 h.events i j (a.1 j) to from
