-- What joined versions and joined groups have of their members.
use Rattle.std.proofs.Common.{◌≡◌, ◌≢◌, ◌≤◌, ℕ, ◌⊎◌, inl, inr, List, [], ◌∷◌, Option, Some, None, map, max, refl, sym, ap, subst, ◌∙◌, arith}
use Rattle.std.proofs.lemmas.Option.{same_Some}
use Rattle.std.specs.declared.cmp.Ordering.{Ordering}
use Rattle.std.specs.declared.cmp.Ordering.TheVariants.{Less, Equal, Greater}
use Rattle.std.specs.FinMap.{get, keys}
use Rattle.vault_model.specs.declared.contents.Stats.{Stats}
use Rattle.vault_model.specs.declared.nodes.GroupState.{GroupState}
use Rattle.vault_model.specs.Db.{Mark, Versions, GroupMark, group_mark_cmp, mark_of, newest, state_time}
use Rattle.vault_model.specs.Join.{stats_join, state_join, IsIn}
use Rattle.vault_model.specs.Unite.{by_order, join_options, gather, unite}
use Rattle.merge_core.proofs.Joins.{stats_joins}
use Rattle.vault_model.proofs.Orders.{mark_order}
use Rattle.merge_core.proofs.Semilattice.{gather-absorbs}
use Rattle.vault_model.proofs.Tests.{some_of, some_is, from_map, in_map, greatest_above, greatest_below}
use Rattle.merge_core.proofs.Unite.{get-unite, in_keys, from_keys}

pub never : {A B : Type 0} (x : A) → None ≡ Some x → B
never x e = absurd (let no : None ≡ Some x → ⊥ = λ p. cc p in no e)

-- what is gathered comes from some member
pub some_from : {A : Type 0} (f : A → A → A) (xs : List (Option A)) (x : A) → gather f xs ≡ Some x → (y : A) × IsIn (Some y) xs
some_from f [] x e = never x e
some_from f (None ∷ os) x e = let g = some_from f os x e in (g.0, inr g.1)
some_from f (Some y ∷ os) x e = (y, inl refl)

-- how the version of a mark was used, where there is one
abbrev pub at_mark : Mark → Option Versions → Option Stats
at_mark k None = None
at_mark k (Some w) = get w k

at_merged : (k : Mark) (o r : Option Versions) → at_mark k (join_options (unite stats_join) o r) ≡ join_options stats_join (at_mark k o) (at_mark k r)
at_merged k None r = refl
at_merged k (Some x) None = none_after (get x k)
  where
    none_after : (s : Option Stats) → s ≡ join_options stats_join s None
    none_after None = refl
    none_after (Some s) = refl
at_merged k (Some x) (Some z) = get-unite mark_order.total mark_order.same stats_join x z k

-- a joined entry has at a mark what the members' versions there make
pub at_gathered : (k : Mark) (os : List (Option Versions)) → at_mark k (gather (unite stats_join) os) ≡ gather stats_join (map (at_mark k) os)
at_gathered k [] = refl
at_gathered k (o ∷ os) = at_merged k o (gather (unite stats_join) os) ∙ ap (join_options stats_join (at_mark k o)) (at_gathered k os)

marked : (k : Mark) (o : Option Versions) (s : Stats) → at_mark k o ≡ Some s → (w : Versions) × ((o ≡ Some w) × (get w k ≡ Some s))
marked k None s e = never s e
marked k (Some w) s e = (w, (refl, e))

-- each version of a joined entry is a member's
pub version_from : (os : List (Option Versions)) (v : Versions) (k : Mark) (s : Stats) → gather (unite stats_join) os ≡ Some v → get v k ≡ Some s
    → (w : Versions) × ((t : Stats) × (IsIn (Some w) os × (get w k ≡ Some t)))
version_from os v k s e g =
    let all : gather stats_join (map (at_mark k) os) ≡ Some s = sym (at_gathered k os) ∙ ap (at_mark k) e ∙ g in
    let one = some_from stats_join (map (at_mark k) os) s all in
    let back = from_map (at_mark k) os (Some one.0) one.1 in
    let w = marked k back.0 one.0 back.1.1 in
    (w.0, (one.0, (subst (λ (o : Option Versions). IsIn o os) w.1.0 back.1.0, w.1.1)))

-- and each version of a member is in the joined entry, used at least so late and so often
pub version_stays : (os : List (Option Versions)) (v w : Versions) (k : Mark) (s : Stats) → gather (unite stats_join) os ≡ Some v → IsIn (Some w) os → get w k ≡ Some s
    → (t : Stats) × ((get v k ≡ Some t) × ((s.accessed ≤ t.accessed) × (s.usage ≤ t.usage)))
version_stays os v w k s e h g =
    let member : IsIn (Some s) (map (at_mark k) os) = subst (λ (o : Option Stats). IsIn o (map (at_mark k) os)) g (in_map (at_mark k) os (Some w) h) in
    let all : get v k ≡ gather stats_join (map (at_mark k) os) = sym (ap (at_mark k) e) ∙ at_gathered k os in
    let absorbed = gather-absorbs stats_joins (map (at_mark k) os) (Some s) member in
    found (gather stats_join (map (at_mark k) os)) all absorbed
  where
    found : (o : Option Stats) → get v k ≡ o → join_options stats_join (Some s) o ≡ o
        → (t : Stats) × ((get v k ≡ Some t) × ((s.accessed ≤ t.accessed) × (s.usage ≤ t.usage)))
    found None a b = never s (sym b)
    found (Some t) a b =
        let j : stats_join s t ≡ t = same_Some _ _ b in
        let l : max s.accessed t.accessed ≡ t.accessed = ap (λ (x : Stats). x.accessed) j in
        let u : max s.usage t.usage ≡ t.usage = ap (λ (x : Stats). x.usage) j in
        (t, (a, (omega (arith, l), omega (arith, u))))

-- a mark of an entry is at most as late as its newest version
pub mark_newest : (w : Versions) (k : Mark) (s : Stats) → get w k ≡ Some s → k.modified ≤ newest (Some w)
mark_newest w k s e =
    greatest_above (map (λ (m : Mark). m.modified) (keys w)) k.modified
    (in_map (λ (m : Mark). m.modified) (keys w) k (in_keys mark_order.total mark_order.same w k (some_is (get w k) s e)))

-- a bound on the members' versions bounds the joined entry's
pub newest_below : (os : List (Option Versions)) (b : ℕ) → ((w : Versions) → IsIn (Some w) os → newest (Some w) ≤ b) → newest (gather (unite stats_join) os) ≤ b
newest_below os b below = bound (gather (unite stats_join) os) refl
  where
    bound : (o : Option Versions) → gather (unite stats_join) os ≡ o → newest o ≤ b
    bound None e = omega arith
    bound (Some v) e =
        greatest_below (map (λ (m : Mark). m.modified) (keys v)) b (λ n h.
        let f = from_map (λ (m : Mark). m.modified) (keys v) n h in
        let has = some_of (get v f.0) (from_keys mark_order.total mark_order.same v f.0 f.1.0) in
        let one = version_from os v f.0 has.0 e has.1 in
        let here = mark_newest one.0 f.0 one.1.0 one.1.1.1 in
        let member = below one.0 one.1.1.0 in
        let is = f.1.1 in
        omega (arith, here, member, is))

-- an entry with versions stays one
pub versions_some : (w : Versions) → keys w ≢ [] → (k : Mark) × ((s : Stats) × (get w k ≡ Some s))
versions_some w some = first (keys w) refl
  where
    first : (ks : List Mark) → keys w ≡ ks → (k : Mark) × ((s : Stats) × (get w k ≡ Some s))
    first [] e = absurd (some e)
    first (k ∷ ks) e =
        let has = some_of (get w k) (from_keys mark_order.total mark_order.same w k (subst (λ (xs : List Mark). IsIn k xs) (sym e) (inl refl))) in
        (k, (has.0, has.1))

pub some_versions : (w : Versions) (k : Mark) (s : Stats) → get w k ≡ Some s → keys w ≢ []
some_versions w k s e none = let h = in_keys mark_order.total mark_order.same w k (some_is (get w k) s e) in subst (λ (xs : List Mark). IsIn k xs) none h

-- ---- groups

-- the one with the greater mark has one of the two marks
joined_mark : (x y : GroupState) → (mark_of (state_join x y) ≡ mark_of x) ⊎ (mark_of (state_join x y) ≡ mark_of y)
joined_mark x y = one (group_mark_cmp (mark_of x) (mark_of y))
  where
    one : (r : Ordering) → (mark_of (by_order r y (record x { stats = stats_join x.stats y.stats }) x) ≡ mark_of x)
        ⊎ (mark_of (by_order r y (record x { stats = stats_join x.stats y.stats }) x) ≡ mark_of y)
    one Less = inr refl
    one Equal = inl refl
    one Greater = inl refl

-- the mark of a joined group is a member's
pub state_from : (os : List (Option GroupState)) (g : GroupState) → gather state_join os ≡ Some g
    → (h : GroupState) × (IsIn (Some h) os × (mark_of g ≡ mark_of h))
state_from [] g e = never g e
state_from (None ∷ os) g e = let f = state_from os g e in (f.0, (inr f.1.0, f.1.1))
state_from (Some x ∷ os) g e = pick (gather state_join os) refl e (λ y q. state_from os y q)
  where
    pick : (o : Option GroupState) → gather state_join os ≡ o → join_options state_join (Some x) o ≡ Some g
        → ((y : GroupState) → gather state_join os ≡ Some y → (h : GroupState) × (IsIn (Some h) os × (mark_of y ≡ mark_of h)))
        → (h : GroupState) × (IsIn (Some h) (Some x ∷ os) × (mark_of g ≡ mark_of h))
    pick None q p more = (x, (inl refl, ap mark_of (sym (same_Some _ _ p))))
    pick (Some y) q p more =
        elim (joined_mark x y) [
          | inl k ↦ (x, (inl refl, ap mark_of (sym (same_Some _ _ p)) ∙ k))
          | inr k ↦ let f = more y q in (f.0, (inr f.1.0, ap mark_of (sym (same_Some _ _ p)) ∙ k ∙ f.1.1))
        ]

pub state_below : (os : List (Option GroupState)) (b : ℕ) → ((h : GroupState) → IsIn (Some h) os → h.modified ≤ b) → state_time (gather state_join os) ≤ b
state_below os b below = bound (gather state_join os) refl
  where
    bound : (o : Option GroupState) → gather state_join os ≡ o → state_time o ≤ b
    bound None e = omega arith
    bound (Some g) e =
        let f = state_from os g e in
        let member = below f.0 f.1.0 in
        let is : g.modified ≡ f.0.modified = ap (λ (m : GroupMark). m.modified) f.1.1 in
        omega (arith, member, is)
