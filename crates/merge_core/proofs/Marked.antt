-- Marked from each own node up to the first that is marked, the marked nodes are the kept ones.
use Rattle.std.proofs.Common.{◌≡◌, ◌≤◌, ◌<◌, ◌+◌, ◌-◌, ℕ, zero, suc, Bool, true, false, not, cond, ◌&&◌, ◌||◌, ◌⊎◌, inl, inr, List, [], ◌∷◌, Option, Some, None, length, is_some, refl, sym, ap, subst, ◌∙◌, arith}
use Rattle.std.proofs.lemmas.Option.{same_Some}
use Rattle.std.specs.Cmp.{both_ways}
use Rattle.std.specs.FinMap.{FinMap, get, empty, insert, get-empty, get-insert}
use Rattle.std.specs.List.{list_any}
use Rattle.std.specs.Option.{option_map}
use Rattle.vault_model.specs.Db.{NodeId, id_cmp, Db, steps, Reaches, Sound}
use Rattle.vault_model.specs.Join.{is_id, root_of, above, is_held, own, ids, trail, path, kept, IsIn, IsNotEmpty, HaveOneRoot}
use Rattle.vault_model.proofs.Ids.{same_id, id_itself}
use Rattle.merge_core.proofs.Allowed.{root_stays, own_held, root_own, steps_held, keeper, keeps, trail_step}
use Rattle.merge_core.proofs.Facts.{held_id, trail_head, trail_keeps}
use Rattle.vault_model.proofs.Orders.{id_order}
use Rattle.merge_core.proofs.Paths.{steps_add, reached_within, later, at_number}
use Rattle.vault_model.proofs.Tests.{or_cases, or_left, or_right, is_false, apart, decide}
use Rattle.merge_core.proofs.Versions.{never}
use Rattle.merge_core.specs.Marking.{climb, is_marked, mark_own, mark_up, is_stray, first_such}

-- ---- climbing

-- where a climb ends it passes the test
climbed : (test : NodeId → Bool) (up : NodeId → NodeId) (taken n : ℕ) (u : NodeId) (r : ℕ) → climb test up taken n u ≡ Some r
    → (i : ℕ) × ((r ≡ taken + i) × (test (steps up i u) ≡ true))
climbed test up taken zero u r e =
    elim (decide (test u)) [
      | inl t ↦
          let is : taken ≡ r = same_Some taken r (sym (ap (λ b. cond b (Some taken) None) t) ∙ e) in
          (zero, (omega (arith, is), t))
      | inr t ↦ never r (sym (ap (λ b. cond b (Some taken) None) t) ∙ e)
    ]
climbed test up taken (suc n) u r e =
    elim (decide (test u)) [
      | inl t ↦
          let is : taken ≡ r = same_Some taken r (sym (ap (λ b. cond b (Some taken) (climb test up (suc taken) n (up u))) t) ∙ e) in
          (zero, (omega (arith, is), t))
      | inr t ↦
          let f = climbed test up (suc taken) n (up u) r (sym (ap (λ b. cond b (Some taken) (climb test up (suc taken) n (up u))) t) ∙ e) in
          let is = f.1.0 in
          (suc f.0, (omega (arith, is), f.1.1))
    ]

-- and where it fails nothing on the way passes it
not_climbed : (test : NodeId → Bool) (up : NodeId → NodeId) (taken n : ℕ) (u : NodeId) → climb test up taken n u ≡ None → (i : ℕ) → i ≤ n → test (steps up i u) ≡ false
not_climbed test up taken zero u e zero h =
    elim (decide (test u)) [
      | inl t ↦ never taken (sym e ∙ ap (λ b. cond b (Some taken) None) t)
      | inr t ↦ t
    ]
not_climbed test up taken zero u e (suc i) h = absurd (omega (arith, h))
not_climbed test up taken (suc n) u e zero h =
    elim (decide (test u)) [
      | inl t ↦ never taken (sym e ∙ ap (λ b. cond b (Some taken) (climb test up (suc taken) n (up u))) t)
      | inr t ↦ t
    ]
not_climbed test up taken (suc n) u e (suc i) h =
    elim (decide (test u)) [
      | inl t ↦ never taken (sym e ∙ ap (λ b. cond b (Some taken) (climb test up (suc taken) n (up u))) t)
      | inr t ↦
          let less : i ≤ n = omega (arith, h) in
          not_climbed test up (suc taken) n (up u) (sym (ap (λ b. cond b (Some taken) (climb test up (suc taken) n (up u))) t) ∙ e) i less
    ]

-- ---- marking

pub has_put : (t : FinMap id_cmp Bool) (u q : NodeId) → is_marked (insert t u true) q ≡ (is_id q u || is_marked t q)
has_put t u q = ap is_some (get-insert id_order.total t u true q) ∙ either (is_id q u)
  where
    either : (b : Bool) → is_some (cond b (Some true) (get t q)) ≡ (b || is_marked t q)
    either true = refl
    either false = refl

put_old : (t : FinMap id_cmp Bool) (u q : NodeId) → is_marked t q ≡ true → is_marked (insert t u true) q ≡ true
put_old t u q e = has_put t u q ∙ or_right (is_id q u) (is_marked t q) e

put_here : (t : FinMap id_cmp Bool) (u : NodeId) → is_marked (insert t u true) u ≡ true
put_here t u = has_put t u u ∙ or_left (is_id u u) (is_marked t u) (id_itself u)

module _ (S : List Db) where
  mark_old : (n : ℕ) (u : NodeId) (t : FinMap id_cmp Bool) (q : NodeId) → is_marked t q ≡ true → is_marked (mark_up S n u t) q ≡ true
  mark_old zero u t q e = e
  mark_old (suc n) u t q e = mark_old n (above S u) (insert t u true) q (put_old t u q e)

  mark_new : (n i : ℕ) (u : NodeId) (t : FinMap id_cmp Bool) → i < n → is_marked (mark_up S n u t) (steps (above S) i u) ≡ true
  mark_new zero i u t h = absurd (omega (arith, h))
  mark_new (suc n) zero u t h = mark_old n (above S u) (insert t u true) u (put_here t u)
  mark_new (suc n) (suc i) u t h = let less : i < n = omega (arith, h) in mark_new n i (above S u) (insert t u true) less

  mark_from : (n : ℕ) (u : NodeId) (t : FinMap id_cmp Bool) (q : NodeId) → is_marked (mark_up S n u t) q ≡ true
      → (is_marked t q ≡ true) ⊎ ((i : ℕ) × ((i < n) × (steps (above S) i u ≡ q)))
  mark_from zero u t q e = inl e
  mark_from (suc n) u t q e =
      elim (mark_from n (above S u) (insert t u true) q e) [
        | inl h ↦ elim (or_cases (is_id q u) (is_marked t q) (sym (has_put t u q) ∙ h)) [
          | inl p ↦ inr (zero, (omega arith, sym (same_id q u p)))
          | inr k ↦ inl k
        ]
        | inr f ↦ let less = f.1.0 in inr (suc f.0, (omega (arith, less), f.1.1))
      ]

-- ---- trails

step_trail : (S : List Db) (n i : ℕ) (v : NodeId) → i ≤ n → list_any (is_id (steps (above S) i v)) (trail S n v) ≡ true
step_trail S n zero v h = trail_head S n v
step_trail S zero (suc i) v h = absurd (omega (arith, h))
step_trail S (suc n) (suc i) v h =
    let less : i ≤ n = omega (arith, h) in
    or_right (is_id (steps (above S) i (above S v)) v) (list_any (is_id (steps (above S) i (above S v))) (trail S n (above S v))) (step_trail S n i (above S v) less)

-- Marks so far: the root is marked, and what stands above what is marked; marked nodes are kept, and reach the root.
pub record AreMarks (S : List Db) (K : NodeId → Bool) : Type 0 where
  pub root : K (root_of S) ≡ true
  pub up : (u : NodeId) → K u ≡ true → K (above S u) ≡ true
  pub kept : (u : NodeId) → K u ≡ true → kept S u ≡ true
  pub reach : (u : NodeId) → K u ≡ true → Reaches (above S) u (root_of S)

-- Marks while some ids are left: of all, the first stray is the first of those that are left.
pub record IsMarking (S : List Db) (all rest : List NodeId) (t : FinMap id_cmp Bool) : Type 0 where
  pub marks : AreMarks S (is_marked t)
  pub first : first_such (is_stray S) all ≡ first_such (is_stray S) rest
  pub marked : (v : NodeId) → own S v ≡ true → (is_marked t v ≡ true) ⊎ IsIn v rest

-- ---- members that need not be free of cycles

module _ (S : List Db) (some : IsNotEmpty S) (one : HaveOneRoot S) (sound : (m : Db) → IsIn m S → Sound m) where
  abbrev root : NodeId
  root = root_of S

  abbrev reaches : NodeId → Type 0
  reaches u = Reaches (above S) u root

  -- who reaches the root is there after as many steps as there are ids
  arrives : (us : List NodeId) → ((u : NodeId) → is_held S u ≡ true → IsIn u us) → (v : NodeId) → is_held S v ≡ true → reaches v → steps (above S) (length us) v ≡ root
  arrives us all v h r = reached_within (above S) root (root_stays S some one sound) r.0 us v (λ i. inr (all (steps (above S) i v) (steps_held S some one sound i v h))) r.1

  -- what stands above a node that reaches the root is on its path
  on_path : (v : NodeId) (i : ℕ) → is_held S v ≡ true → reaches v → list_any (is_id (steps (above S) i v)) (path S v) ≡ true
  on_path v i h r =
      let n = length (ids S) in
      let there = arrives (ids S) (λ u e. held_id S u e) v h r in
      elim (up_to i n) [
        | inl less ↦ step_trail S n i v less
        | inr more ↦
            let same : steps (above S) i v ≡ steps (above S) n v = later (above S) root (root_stays S some one sound) n i v more there ∙ sym there in
            let self : n ≤ n = omega arith in
            ap (λ u. list_any (is_id u) (path S v)) same ∙ step_trail S n n v self
      ]
    where
      up_to : (a b : ℕ) → (a ≤ b) ⊎ (b ≤ a)
      up_to zero b = inl (omega arith)
      up_to (suc a) zero = inr (omega arith)
      up_to (suc a) (suc b) = elim (up_to a b) [ inl h ↦ inl (omega (arith, h)) | inr h ↦ inr (omega (arith, h)) ]

  -- ---- marked nodes

  -- where every own node is marked, the marked nodes are the kept ones
  pub marked_kept : (K : NodeId → Bool) → AreMarks S K → ((v : NodeId) → own S v ≡ true → K v ≡ true) → (u : NodeId) → K u ≡ kept S u
  marked_kept K marks all u =
      both_ways (K u) (kept S u) (marks.kept u) (λ e.
      let k = keeper S some one sound u e in
      trail_keeps S K marks.up (length (ids S)) k.0 u (all k.0 k.1.0) k.1.1)

  begin_marks : AreMarks S (is_marked (insert empty root true))
  begin_marks =
      let is = λ (u : NodeId) (e : is_marked (insert empty root true) u ≡ true).
      elim (or_cases (is_id u root) (is_marked empty u) (sym (has_put empty root u) ∙ e)) as (λ _. u ≡ root) [
        | inl p ↦ same_id u root p
        | inr k ↦ apart (is_marked empty u) k (ap is_some (get-empty id_cmp u))
      ] in
      record {
        root = put_here empty root;
        up = λ u e. ap (is_marked (insert empty root true)) (ap (above S) (is u e) ∙ (root_stays S some one sound)) ∙ put_here empty root;
        kept = λ u e. ap (kept S) (is u e) ∙ keeps S some one sound root root (root_own S some one sound) (trail_head S (length (ids S)) root);
        reach = λ u e. (zero, is u e);
      }

  pub begin : (all : List NodeId) → ((u : NodeId) → is_held S u ≡ true → IsIn u all) → IsMarking S all all (insert empty root true)
  begin all within = record { marks = begin_marks; first = refl; marked = λ v e. inr (within v (own_held S some one sound v e)) }

  -- a node that is not own, and one that is not a stray, is passed over
  first_next : (u : NodeId) (us : List NodeId) → is_stray S u ≡ false → first_such (is_stray S) (u ∷ us) ≡ first_such (is_stray S) us
  first_next u us e = ap (λ b. cond b (Some u) (first_such (is_stray S) us)) e

  pub skip : (all : List NodeId) (u : NodeId) (us : List NodeId) (t : FinMap id_cmp Bool) → IsMarking S all (u ∷ us) t → own S u ≡ false → IsMarking S all us t
  skip all u us t m e = record {
    marks = m.marks;
    first = m.first ∙ first_next u us (ap (λ b. b && not (list_any (is_id root) (path S u))) e);
    marked = λ v o. elim (m.marked v o) [
      | inl h ↦ inl h
      | inr h ↦ elim h [
        | inl p ↦ apart (own S v) o (ap (own S) (sym p) ∙ e)
        | inr k ↦ inr k
      ]
    ];
  }

  -- who has a node above it that reaches the root reaches it
  reach_back : (k : ℕ) (v : NodeId) → reaches (steps (above S) k v) → reaches v
  reach_back k v r = (k + r.0, steps_add (above S) k r.0 v ∙ r.1)

  reach_from : (v : NodeId) (n i : ℕ) → i ≤ n → reaches (steps (above S) n v) → reaches (steps (above S) i v)
  reach_from v n i h r =
      let parts : n ≡ i + (n - i) = omega (arith, h) in
      let same : steps (above S) n v ≡ steps (above S) (n - i) (steps (above S) i v) =
      at_number (λ k. steps (above S) k v) n (i + (n - i)) parts ∙ steps_add (above S) i (n - i) v in
      reach_back (n - i) (steps (above S) i v) (subst reaches same r)

  steps_next : (i : ℕ) (v : NodeId) → above S (steps (above S) i v) ≡ steps (above S) (suc i) v
  steps_next zero v = refl
  steps_next (suc i) v = steps_next i (above S v)

  grown_marks : (t : FinMap id_cmp Bool) → AreMarks S (is_marked t) → (v : NodeId) → own S v ≡ true → (n : ℕ) → is_marked t (steps (above S) n v) ≡ true → AreMarks S (is_marked (mark_up S n v t))
  grown_marks t marks v o n there = record {
    root = mark_old S n v t root marks.root;
    up = λ u e. elim (mark_from S n v t u e) [
      | inl h ↦ mark_old S n v t (above S u) (marks.up u h)
      | inr f ↦
          let next : above S u ≡ steps (above S) (suc f.0) v = ap (above S) (sym f.1.1) ∙ steps_next f.0 v in
          ap (is_marked (mark_up S n v t)) next ∙ above_marked f.0 f.1.0
    ];
    kept = λ u e. elim (mark_from S n v t u e) [
      | inl h ↦ marks.kept u h
      | inr f ↦ keeps S some one sound v u o (ap (λ w. list_any (is_id w) (path S v)) (sym f.1.1) ∙ on_path v f.0 (own_held S some one sound v o) (reach_back n v (marks.reach (steps (above S) n v) there)))
    ];
    reach = λ u e. elim (mark_from S n v t u e) [
      | inl h ↦ marks.reach u h
      | inr f ↦ let less = f.1.0 in let le : f.0 ≤ n = omega (arith, less) in subst reaches f.1.1 (reach_from v n f.0 le (marks.reach (steps (above S) n v) there))
    ];
  }
    where
      at_most : (i : ℕ) → i < n → (suc i < n) ⊎ (suc i ≡ n)
      at_most i h = split i n h
        where
          split : (a b : ℕ) → a < b → (suc a < b) ⊎ (suc a ≡ b)
          split a zero k = absurd (omega (arith, k))
          split zero (suc zero) k = inr refl
          split zero (suc (suc b)) k = inl (omega arith)
          split (suc a) (suc b) k = let less : a < b = omega (arith, k) in elim (split a b less) [ inl x ↦ inl (omega (arith, x)) | inr x ↦ inr (ap suc x) ]

      above_marked : (i : ℕ) → i < n → is_marked (mark_up S n v t) (steps (above S) (suc i) v) ≡ true
      above_marked i h =
          elim (at_most i h) [
            | inl less ↦ mark_new S n (suc i) v t less
            | inr is ↦ ap (λ k. is_marked (mark_up S n v t) (steps (above S) k v)) is ∙ mark_old S n v t (steps (above S) n v) there
          ]

  pub go : (all : List NodeId) (u : NodeId) (us : List NodeId) (t : FinMap id_cmp Bool) (limit n : ℕ) → IsMarking S all (u ∷ us) t → own S u ≡ true
      → climb (is_marked t) (above S) 0 limit u ≡ Some n → IsMarking S all us (mark_up S n u t)
  go all u us t limit n m o e =
      let c = climbed (is_marked t) (above S) 0 limit u n e in
      let is = c.1.0 in
      let same : c.0 ≡ n = omega (arith, is) in
      let there : is_marked t (steps (above S) n u) ≡ true = ap (λ k. is_marked t (steps (above S) k u)) (sym same) ∙ c.1.1 in
      let r = reach_back n u (m.marks.reach (steps (above S) n u) there) in
      let arrived : list_any (is_id root) (path S u) ≡ true = ap (λ w. list_any (is_id w) (path S u)) (sym r.1) ∙ on_path u r.0 (own_held S some one sound u o) r in
      record {
        marks = grown_marks t m.marks u o n there;
        first = m.first ∙ first_next u us ((λ i. o i && not (arrived i)));
        marked = λ v w. elim (m.marked v w) [
          | inl h ↦ inl (mark_old S n u t v h)
          | inr h ↦ elim h [
            | inl p ↦ inl (ap (is_marked (mark_up S n u t)) (sym p) ∙ self_marked n there)
            | inr k ↦ inr k
          ]
        ];
      }
    where
      self_marked : (k : ℕ) → is_marked t (steps (above S) k u) ≡ true → is_marked (mark_up S k u t) u ≡ true
      self_marked zero h = h
      self_marked (suc k) h = mark_new S (suc k) zero u t (omega arith)

  -- an own node from which no marked one is met is a stray
  pub stop : (all : List NodeId) (u : NodeId) (us : List NodeId) (t : FinMap id_cmp Bool) → ((w : NodeId) → is_held S w ≡ true → IsIn w all) → IsMarking S all (u ∷ us) t
      → own S u ≡ true → climb (is_marked t) (above S) 0 (length all) u ≡ None → first_such (is_stray S) all ≡ Some u
  stop all u us t within m o e =
      let lost : list_any (is_id root) (path S u) ≡ false = is_false (list_any (is_id root) (path S u)) (λ h.
      let r = trail_step S (length (ids S)) u root h in
      let there = arrives all within u (own_held S some one sound u o) (r.0, r.1.1) in
      let self : length all ≤ length all = omega arith in
      apart (is_marked t root) m.marks.root (ap (is_marked t) (sym there) ∙ not_climbed (is_marked t) (above S) 0 (length all) u e (length all) self)) in
      m.first ∙ ap (λ b. cond b (Some u) (first_such (is_stray S) us)) (λ i. o i && not (lost i))

  pub done : (all : List NodeId) (t : FinMap id_cmp Bool) → IsMarking S all [] t → ((u : NodeId) → is_marked t u ≡ kept S u) × (first_such (is_stray S) all ≡ None)
  done all t m = (marked_kept (is_marked t) m.marks (λ v o. elim (m.marked v o) [ inl h ↦ h | inr x ↦ absurd x ]), m.first)

  -- one id more is gone through
  pub next : (all : List NodeId) (u : NodeId) (us : List NodeId) (t new : FinMap id_cmp Bool) (limit : ℕ) → IsMarking S all (u ∷ us) t
      → mark_own S limit u t ≡ Some new → IsMarking S all us new
  next all u us t new limit m e = by_own (own S u) refl
    where
      by_climb : own S u ≡ true → (c : Option ℕ) → climb (is_marked t) (above S) 0 limit u ≡ c → option_map (λ n. mark_up S n u t) c ≡ Some new → IsMarking S all us new
      by_climb o None q r = never new r
      by_climb o (Some n) q r = subst (IsMarking S all us) (same_Some _ new r) (go all u us t limit n m o q)

      by_own : (b : Bool) → own S u ≡ b → IsMarking S all us new
      by_own true o = by_climb o (climb (is_marked t) (above S) 0 limit u) refl (sym (ap (λ b. cond b (option_map (λ n. mark_up S n u t) (climb (is_marked t) (above S) 0 limit u)) (Some t)) o) ∙ e)
      by_own false o =
          subst (IsMarking S all us) (same_Some t new (sym (ap (λ b. cond b (option_map (λ n. mark_up S n u t) (climb (is_marked t) (above S) 0 limit u)) (Some t)) o) ∙ e))
          (skip all u us t m o)

  -- where one cannot be marked it is the first stray
  pub stuck : (all : List NodeId) (u : NodeId) (us : List NodeId) (t : FinMap id_cmp Bool) → ((w : NodeId) → is_held S w ≡ true → IsIn w all) → IsMarking S all (u ∷ us) t
      → mark_own S (length all) u t ≡ None → first_such (is_stray S) all ≡ Some u
  stuck all u us t within m e = by_own (own S u) refl
    where
      by_climb : own S u ≡ true → (c : Option ℕ) → climb (is_marked t) (above S) 0 (length all) u ≡ c → option_map (λ n. mark_up S n u t) c ≡ None → first_such (is_stray S) all ≡ Some u
      by_climb o None q r = stop all u us t within m o q
      by_climb o (Some n) q r = never _ (sym r)

      by_own : (b : Bool) → own S u ≡ b → first_such (is_stray S) all ≡ Some u
      by_own true o = by_climb o (climb (is_marked t) (above S) 0 (length all) u) refl (sym (ap (λ b. cond b (option_map (λ n. mark_up S n u t) (climb (is_marked t) (above S) 0 (length all) u)) (Some t)) o) ∙ e)
      by_own false o = never t (sym e ∙ ap (λ b. cond b (option_map (λ n. mark_up S n u t) (climb (is_marked t) (above S) 0 (length all) u)) (Some t)) o)
