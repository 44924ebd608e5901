-- Versions, groups and places that are newer than others: what is current of both is what is current of the newer ones.
use Rattle.std.proofs.Common.{◌≡◌, ◌<◌, ◌≤◌, ◌==◌, ◌⊎◌, ℕ, true, false, not, cond, nat_lt, inl, inr, ◌∷◌, Some, None, is_some, map, sym, ap, subst, ◌∙◌, arith}
use Rattle.std.proofs.lemmas.Bool.{lt-ltb, ltb-false}
use Rattle.std.proofs.lemmas.Bool.Decides.{Decides-ltb}
use Rattle.std.specs.Cmp.{tied_itself}
use Rattle.std.specs.FinMap.{contains_key, get, same_map}
use Rattle.std.specs.Ordering.{nat_cmp, ordering_then}
use Rattle.std.specs.declared.cmp.Ordering.{Ordering}
use Rattle.std.specs.declared.cmp.Ordering.TheVariants.{Equal, Greater, Less}
use Rattle.history_laws.proofs.Newest.{Lt, current_stays, get_current, has_either, has_left, has_right, past_by, past_found}
use Rattle.history_laws.specs.Current.{current, is_past}
use Rattle.merge_core.proofs.Joins.{state_joins, versions_joins}
use Rattle.merge_core.proofs.SoundDoc.{as_map, version_marks}
use Rattle.merge_core.proofs.Tables.{get_single}
use Rattle.merge_core.proofs.Unite.{get-unite, ties}
use Rattle.vault_model.proofs.Orders.{mark_order, nat_order}
use Rattle.vault_model.proofs.Tests.{apart, decide, is_false, none_of, some_of}
use Rattle.vault_model.specs.Bare.{BareContent}
use Rattle.vault_model.specs.Db.{Mark, Versions, group_mark_cmp, mark_cmp, mark_of}
use Rattle.vault_model.specs.Join.{IsIn, state_join, stats_join}
use Rattle.vault_model.specs.Orders.{content_cmp, group_content_cmp}
use Rattle.vault_model.specs.Shape.{BareVersion, EntryRecord, versions_of}
use Rattle.vault_model.specs.Unite.{by_order, join_options, unite, unite_all}
use Rattle.vault_model.specs.declared.contents.GroupContent.{GroupContent}
use Rattle.vault_model.specs.declared.nodes.GroupState.{GroupState}

-- ---- versions

-- what is current of versions and of newer ones is what is current of the newer ones
module _ (v w : Versions) (top : Mark) (there : contains_key w top ≡ true) (below : (k : Mark) → contains_key v k ≡ true → Lt k top) where
  abbrev all : Versions
  all = unite stats_join v w

  past_both : (k : Mark) → is_past w k ≡ true → is_past all k ≡ true
  past_both k e = let f = past_found w k e in past_by all k f.0 (has_right v w f.0 f.1.0) f.1.1

  past_one : (k : Mark) → is_past all k ≡ true → is_past w k ≡ true
  past_one k e =
      let f = past_found all k e in
      elim (has_either v w f.0 f.1.0) [
        | inl old ↦ past_by w k top there (mark_order.total.trans k f.0 top f.1.1 (below f.0 old))
        | inr new ↦ past_by w k f.0 new f.1.1
      ]

  gone : (k : Mark) → is_past w k ≡ true → get (current all) k ≡ get (current w) k
  gone k e =
      get_current all k ∙ ap (λ b. cond (not b) (get all k) None) (past_both k e)
      ∙ sym (get_current w k ∙ ap (λ b. cond (not b) (get w k) None) e)

  stays : (k : Mark) → is_past w k ≡ false → get (current all) k ≡ get (current w) k
  stays k e =
      let here : is_past all k ≡ false = is_false (is_past all k) (λ h. apart (is_past w k) (past_one k h) e) in
      let older : get v k ≡ None = none_of (get v k) (is_false (contains_key v k) (λ h. apart (is_past w k) (past_by w k top there (below k h)) e)) in
      current_stays all k here
      ∙ get-unite mark_order.total mark_order.same stats_join v w k
      ∙ ap (λ o. join_options stats_join o (get w k)) older
      ∙ sym (current_stays w k e)

  pub newer_current : current all ≡ current w
  newer_current = same_map mark_order.total mark_order.same (current all) (current w) (λ k. elim (decide (is_past w k)) [ inl e ↦ gone k e | inr e ↦ stays k e ])

-- the current version is one of an entry's versions
has_current : (x : EntryRecord) → contains_key (versions_of x) x.current.mark ≡ true
has_current x =
    let mark = x.current.mark in
    has_left (as_map x.current) (unite_all stats_join (map as_map x.history)) mark
    (ap is_some (get_single mark_order.total mark_order.same (mark, x.current.stats) mark ∙ ap (λ b. cond b (Some x.current.stats) None) (ties mark_order.total mark_order.same mark)))

-- an entry whose versions are all before the current one of another
pub newer_entry : (x y : EntryRecord) → ((v : BareVersion) → IsIn v (x.current ∷ x.history) → Lt v.mark y.current.mark)
    → current (unite stats_join (versions_of x) (versions_of y)) ≡ current (versions_of y)
newer_entry x y before =
    newer_current (versions_of x) (versions_of y) y.current.mark (has_current y) (λ k h.
    let s = some_of (get (versions_of x) k) h in
    let m = version_marks x k s.0 s.1 in
    subst (λ (j : Mark). Lt j y.current.mark) (sym m.1.1) (before m.0 m.1.0))

-- an entry beside itself
pub same_entry : (x : EntryRecord) → current (unite stats_join (versions_of x) (versions_of x)) ≡ current (versions_of x)
same_entry x = ap current (versions_joins.idem (versions_of x))

-- ---- orders

pub less : (a b : ℕ) → a < b → nat_cmp a b ≡ Less
less a b l = ap (λ t. cond t Less (cond (a == b) Equal Greater)) (lt-ltb a b l)

tied : (a b : ℕ) → a ≡ b → nat_cmp a b ≡ Equal
tied a b same = ap (nat_cmp a) (sym same) ∙ tied_itself nat_order.total a

-- the first that differs decides
pub earlier_or_same : (a b : ℕ) → a ≤ b → (a < b) ⊎ (a ≡ b)
earlier_or_same a b le = elim (decide (nat_lt a b)) [
  | inl p ↦ inl ((Decides-ltb a b).0 p)
  | inr p ↦ inr (let more = ltb-false a b p in omega (arith, le, more))
]

first_less : (a b : ℕ) (rest : Ordering) → a < b → ordering_then (nat_cmp a b) rest ≡ Less
first_less a b rest l = ap (λ o. ordering_then o rest) (less a b l)

then_less : (a b : ℕ) (rest : Ordering) → a ≤ b → rest ≡ Less → ordering_then (nat_cmp a b) rest ≡ Less
then_less a b rest le is = elim (earlier_or_same a b le) [
  | inl l ↦ first_less a b rest l
  | inr e ↦ ap (λ o. ordering_then o rest) (tied a b e) ∙ is
]

content_less : (x y : BareContent) → x.created ≤ y.created → x.expiry < y.expiry → content_cmp x y ≡ Less
unfolding content_cmp
content_less x y created expiry = then_less x.created y.created _ created (first_less x.expiry y.expiry _ expiry)

-- a version is before another that is not changed earlier, not made earlier, and expires later
pub newer_mark : (j k : Mark) → j.modified ≤ k.modified → j.content.created ≤ k.content.created → j.content.expiry < k.content.expiry → Lt j k
unfolding mark_cmp
newer_mark j k modified created expiry = then_less j.modified k.modified (content_cmp j.content k.content) modified (content_less j.content k.content created expiry)

-- ---- groups

newer_state : (g h : GroupState) → group_mark_cmp (mark_of g) (mark_of h) ≡ Less → state_join g h ≡ h
newer_state g h before = ap (λ o. by_order o h (record g { stats = stats_join g.stats h.stats }) g) before

group_less : (x y : GroupContent) → x.created < y.created → group_content_cmp x y ≡ Less
unfolding group_content_cmp
group_less x y created = first_less x.created y.created _ created

group_mark_less : (g h : GroupState) → g.modified ≤ h.modified → g.content.created < h.content.created → group_mark_cmp (mark_of g) (mark_of h) ≡ Less
unfolding group_mark_cmp
group_mark_less g h modified created = then_less g.modified h.modified (group_content_cmp g.content h.content) modified (group_less g.content h.content created)

-- a group that is not changed earlier and is made later
pub newer_group : (g h : GroupState) → g.modified ≤ h.modified → g.content.created < h.content.created → state_join g h ≡ h
newer_group g h modified created = newer_state g h (group_mark_less g h modified created)

pub same_group : (g : GroupState) → state_join g g ≡ g
same_group g = state_joins.idem g
