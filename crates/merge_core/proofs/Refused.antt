-- Where there is nothing to refuse, documents can be joined, and what is laid is a document.
use Rattle.std.proofs.Common.{◌≡◌, ◌≢◌, ◌≤◌, ◌<◌, ◌-◌, ℕ, zero, suc, Bool, true, false, not, cond, ◌&&◌, ◌||◌, ◌⊎◌, inl, inr, List, [], ◌∷◌, Option, Some, None, map, length, is_some, refl, sym, ap, subst, ◌∙◌, arith, true≢false}
use Rattle.std.proofs.lemmas.Cmp.{back_total}
use Rattle.std.proofs.lemmas.Option.{same_Some}
use Rattle.std.specs.FinMap.{get, contains_key}
use Rattle.std.specs.List.{list_all, list_any, filter, flat_map}
use Rattle.std.specs.Ordering.{is_lt, ordering_reverse}
use Rattle.std.specs.declared.cmp.Ordering.{Ordering}
use Rattle.std.specs.declared.cmp.Ordering.TheVariants.{Less, Equal, Greater}
use Rattle.vault_model.specs.declared.nodes.GroupState.{GroupState}
use Rattle.vault_model.specs.Db.{NodeId, id_cmp, nil_id, Place, Db, parent_or, steps, Sound}
use Rattle.vault_model.specs.Join.{is_id, root_of, latest, above, ids, trail, path, kept, join, IsIn, IsNotEmpty, HaveOneRoot, HaveOneKind, IsAcyclic, Allowed, state_join}
use Rattle.vault_model.specs.Tree.{Tree, node, BareDoc, LEVELS, IsDoc, id_of, is_elsewhere, db_in, rooted, with_id, with_previous, IsDeep, FitsLevels}
use Rattle.vault_model.specs.Proper.{rises}
use Rattle.vault_model.specs.Unite.{by_order, gather, join_options}
use Rattle.vault_model.proofs.Ids.{is_same_id, id_itself}
use Rattle.merge_core.proofs.Facts.{held_id, held_by, join_places, join_groups, join_root}
use Rattle.merge_core.proofs.Laid.{list_in, in_list}
use Rattle.vault_model.proofs.Orders.{id_order}
use Rattle.merge_core.proofs.Semilattice.{IsJoin, greater_join, greater_one, gather-same, gather-selects}
use Rattle.merge_core.proofs.SoundDoc.{all_in, document_sound, db_root}
use Rattle.merge_core.proofs.SoundJoin.{join_sound}
use Rattle.vault_model.proofs.Tests.{or_left, or_right, or_false, and_true, and_both, not_true, is_false, apart, decide, some_of, any_true, any_found, in_map, from_map, in_flat, in_filter, from_filter}
use Rattle.merge_core.proofs.Versions.{never, some_from}
use Rattle.merge_core.specs.NodesBelow.{below_ids}
use Rattle.merge_core.specs.Marking.{first_such, is_stray, strays}
use Rattle.merge_core.specs.Refusals.{lesser, least, members, root_clashes, is_entry, is_group, kind_clashes, allowed_steps, is_too_deep, too_deep, CanMerge}
use Rattle.merge_core.proofs.LaidDocs.{laid_is_doc}
use Rattle.merge_core.proofs.Allowed.{own_held, trail_step}
use Rattle.merge_core.proofs.Rooted.{rooted_is_doc}

-- ---- the least of some ids

-- where there is no least there is none
no_least : (us : List NodeId) → least us ≡ None → (u : NodeId) → IsIn u us → ⊥
no_least [] e u h = h
no_least (v ∷ vs) e u h = some (gather lesser (map Some vs)) e
  where
    some : (o : Option NodeId) → join_options lesser (Some v) o ≡ None → ⊥
    some None q = never v (sym q)
    some (Some w) q = never (lesser v w) (sym q)

-- and so none of those that are gone over passes the test
none_such : (test : NodeId → Bool) (us : List NodeId) → least (filter test us) ≡ None → (u : NodeId) → IsIn u us → test u ≡ false
none_such test us e u h = is_false (test u) (λ t. no_least (filter test us) e u (in_filter test us u h t))

-- ---- kinds

pub one_kind : (S : List Db) → least (kind_clashes S) ≡ None → HaveOneKind S
one_kind S none m n u h k e =
    is_false (contains_key n.groups u) (λ g.
    let held_u = held_by S m u h (or_left (contains_key m.entries u) (contains_key m.groups u) e) in
    let entry : is_entry S u ≡ true = any_true (λ (x : Db). contains_key x.entries u) S m h e in
    let group : is_group S u ≡ true = any_true (λ (x : Db). contains_key x.groups u) S n k g in
    apart (is_entry S u && is_group S u) (and_both (is_entry S u) (is_group S u) entry group)
    (none_such (λ v. is_entry S v && is_group S v) (ids S) none u (held_id S u held_u)))

-- ---- strays

module _ (S : List Db) (some : IsNotEmpty S) (one : HaveOneRoot S) (sound : (m : Db) → IsIn m S → Sound m) where
  pub acyclic : least (strays S) ≡ None → IsAcyclic S
  acyclic none u o =
      let passed = none_such (is_stray S) (ids S) none u (held_id S u (own_held S some one sound u o)) in
      elim (decide (list_any (is_id (root_of S)) (path S u))) [
        | inl t ↦ let r = trail_step S (length (ids S)) u (root_of S) t in (r.0, r.1.1)
        | inr t ↦ apart (is_stray S u) (λ i. o i && not (t i)) passed
      ]

-- ---- levels

module _ (S : List Db) (al : Allowed S) (sound : (m : Db) → IsIn m S → Sound m) where
  joined : Sound (join S)
  joined = join_sound S al sound

  kept_place : (u : NodeId) (p : Place) (b : Bool) → kept S u ≡ b → cond b (latest S u) None ≡ Some p → latest S u ≡ Some p
  kept_place u p true k e = e
  kept_place u p false k e = never p e

  -- who stands d levels below the root takes no fewer steps to it
  no_nearer : (d i : ℕ) (u : NodeId) → IsDeep (join S) d u → steps (above S) i u ≡ root_of S → d ≤ i
  no_nearer zero i u deep e = omega arith
  no_nearer (suc d) zero u deep e =
      never deep.0 (sym (ap (get (join S).places) (e ∙ sym (join_root S)) ∙ joined.top) ∙ deep.1)
  no_nearer (suc d) (suc i) u deep e =
      let l = kept_place u deep.0 (kept S u) refl (sym (join_places S u) ∙ deep.1) in
      let up : above S u ≡ deep.0.parent = ap (parent_or u) l in
      let rest = no_nearer d i deep.0.parent deep.2 (ap (steps (above S) i) (sym up) ∙ e) in
      omega (arith, rest)

  -- what the join has for a group is kept, and some member has it for a group
  joined_group : (u : NodeId) → contains_key (join S).groups u ≡ true → (kept S u ≡ true) × ((m : Db) × (IsIn m S × (contains_key m.groups u ≡ true)))
  joined_group u e =
      let g = some_of (get (join S).groups u) e in
      at (kept S u) refl g.0 (sym (join_groups S u) ∙ g.1)
    where
      at : (b : Bool) → kept S u ≡ b → (x : GroupState) → cond b (gather state_join (map (λ (m : Db). get m.groups u) S)) None ≡ Some x
          → (kept S u ≡ true) × ((m : Db) × (IsIn m S × (contains_key m.groups u ≡ true)))
      at true k x q =
          let one = some_from state_join (map (λ (m : Db). get m.groups u) S) x q in
          let f = from_map (λ (m : Db). get m.groups u) S (Some one.0) one.1 in
          (k, (f.0, (f.1.0, ap is_some f.1.1)))
      at false k x q = never x q

  fits : (n : ℕ) → 0 < n → least (too_deep n S) ≡ None → FitsLevels n (join S)
  unfolding too_deep
  fits n more none d u e deep =
      let g = joined_group u e in
      let no_entry : is_entry S u ≡ false = is_false (is_entry S u) (λ t.
      let f = any_found (λ (m : Db). contains_key m.entries u) S t in
      apart (contains_key g.1.0.groups u) g.1.1.1 (al.kinds f.0 g.1.0 u f.1.0 g.1.1.0 f.1.1)) in
      let here = held_id S u (held_by S g.1.0 u g.1.1.0 (or_right (contains_key g.1.0.entries u) (contains_key g.1.0.groups u) g.1.1.1)) in
      let passed = none_such (is_too_deep n S) (ids S) none u here in
      elim (decide (list_any (is_id (root_of S)) (trail S (allowed_steps n S u) u))) [
        | inl t ↦
            let r = trail_step S (n - 1) u (root_of S) (ap (λ b. list_any (is_id (root_of S)) (trail S (cond b n (n - 1)) u)) (sym no_entry) ∙ t) in
            let far = no_nearer d r.0 u deep r.1.1 in
            let within = r.1.0 in
            omega (arith, far, within, more)
        | inr t ↦ apart (kept S u && not (list_any (is_id (root_of S)) (trail S (allowed_steps n S u) u))) (λ i. g.0 i && not (t i)) passed
      ]

-- ---- documents

root_some : (t : Tree) → is_elsewhere t nil_id ≡ true → id_of t ≢ nil_id
root_some (node u r es ts) e p =
    let rest = list_any (is_id nil_id) (below_ids (node u r es ts)) in
    apart (is_id nil_id u) (is_same_id nil_id u (sym p)) (or_false (is_id nil_id u) rest (not_true (is_id nil_id u || rest) e)).0

rooted_root : (d : BareDoc) (r : NodeId) → id_of (rooted d r).tree ≡ r
rooted_root d r = at d.tree
  where
    at : (t : Tree) → id_of (with_id r (with_previous (id_of d.tree) r t)) ≡ r
    at (node u g es ts) = refl

module _ (t : BareDoc) (ss : List BareDoc) (is : IsDoc t) (all : (s : BareDoc) → IsIn s ss → IsDoc s) (clear : least (root_clashes (t ∷ ss)) ≡ None) where
  abbrev pub root : NodeId
  root = id_of t.tree

  -- a source's nodes but its root have other ids than the target's root
  off : (s : BareDoc) → IsIn s ss → list_any (is_id root) (below_ids s.tree) ≡ false
  off s h =
      is_false (list_any (is_id root) (below_ids s.tree)) (λ e.
      let there = in_flat (λ (d : BareDoc). below_ids d.tree) (t ∷ ss) s root (inr h) (in_list root (below_ids s.tree) e) in
      let clash : list_any (λ (d : BareDoc). is_id root (id_of d.tree)) (t ∷ ss) ≡ true =
      or_left (is_id root root) (list_any (λ (d : BareDoc). is_id root (id_of d.tree)) ss) (id_itself root) in
      apart (list_any (λ (d : BareDoc). is_id root (id_of d.tree)) (t ∷ ss)) clash
      (none_such (λ u. list_any (λ (d : BareDoc). is_id u (id_of d.tree)) (t ∷ ss)) (flat_map (λ (d : BareDoc). below_ids d.tree) (t ∷ ss)) clear root there))

  pub source_is : (s : BareDoc) → IsIn s ss → IsDoc (rooted s root)
  source_is s h = rooted_is_doc s root (all s h) (root_some t.tree is.no_nil) (off s h)

  pub sound : (m : Db) → IsIn m (members t ss) → Sound m
  sound m (inl p) = subst Sound p (document_sound t is)
  sound m (inr h) =
      let f = from_map (λ (s : BareDoc). db_in (rooted s root)) ss m h in
      subst Sound f.1.1 (document_sound (rooted f.0 root) (source_is f.0 f.1.0))

  pub one_root : HaveOneRoot (members t ss)
  one_root m (inl p) = ap (λ (x : Db). x.root) (sym p)
  one_root m (inr h) =
      let f = from_map (λ (s : BareDoc). db_in (rooted s root)) ss m h in
      ap (λ (x : Db). x.root) (sym f.1.1) ∙ db_root (rooted f.0 root) (source_is f.0 f.1.0) ∙ rooted_root f.0 root ∙ sym (db_root t is)

  pub merged_is : least (kind_clashes (members t ss)) ≡ None → least (strays (members t ss)) ≡ None → least (too_deep LEVELS (members t ss)) ≡ None → CanMerge t ss
  merged_is kinds no_strays levels =
      let al : Allowed (members t ss) = record {
        some = tt;
        root = one_root;
        kinds = one_kind (members t ss) kinds;
        acyclic = acyclic (members t ss) tt one_root sound no_strays;
      } in
      let good = join_sound (members t ss) al sound in
      let some_level : 0 < LEVELS = omega arith in
      record {
        sound = sound;
        allowed = al;
        joined = good;
        laid = laid_is_doc (join (members t ss)) t good (fits (members t ss) al sound LEVELS some_level levels) is;
      }

-- ---- the least of ids in another order

pub lesser_joins : IsJoin lesser
lesser_joins = greater_join (back_total id_order.total) (λ x y e. sym (id_order.same y x e))

lesser_one : (u v : NodeId) → (lesser u v ≡ u) ⊎ (lesser u v ≡ v)
lesser_one = greater_one (back_total id_order.total) (λ x y e. sym (id_order.same y x e))

pub same_least : (us vs : List NodeId) → ((u : NodeId) → list_any (is_id u) us ≡ list_any (is_id u) vs) → least us ≡ least vs
same_least us vs same =
    gather-same lesser_joins (map Some us) (map Some vs)
    (λ o h. let f = from_map Some us o h in subst (λ (x : Option NodeId). IsIn x (map Some vs)) f.1.1
    (in_map Some vs f.0 (in_list f.0 vs (sym (same f.0) ∙ list_in f.0 us f.1.0))))
    (λ o h. let f = from_map Some vs o h in subst (λ (x : Option NodeId). IsIn x (map Some us)) f.1.1
    (in_map Some us f.0 (in_list f.0 us (same f.0 ∙ list_in f.0 vs f.1.0))))

-- ---- the first of rising ids

first_before : (u : NodeId) (o : Option NodeId) → ((w : NodeId) → o ≡ Some w → id_cmp u w ≡ Less) → Some u ≡ join_options lesser (Some u) o
first_before u None less = refl
first_before u (Some w) less =
    let back : id_cmp w u ≡ Greater = id_order.total.antisymm w u ∙ ap ordering_reverse (less w refl) in
    ap (λ (o : Ordering). Some (by_order o w u u)) (sym back)

is_less : (r : Ordering) → is_lt r ≡ true → r ≡ Less
is_less Less e = refl
is_less Equal e = absurd (true≢false (sym e))
is_less Greater e = absurd (true≢false (sym e))

pub first_least : (test : NodeId → Bool) (us : List NodeId) → rises (λ u. u) us ≡ true → first_such test us ≡ least (filter test us)
first_least test [] up = refl
first_least test (u ∷ us) up =
    let parts = and_true (list_all (λ y. is_lt (id_cmp u y)) us) (rises (λ v. v) us) up in
    at (test u) parts.0 (first_least test us parts.1)
  where
    at : (b : Bool) → list_all (λ (y : NodeId). is_lt (id_cmp u y)) us ≡ true → first_such test us ≡ least (filter test us)
        → cond b (Some u) (first_such test us) ≡ least (cond b (u ∷ filter test us) (filter test us))
    at false under rest = rest
    at true under rest =
        first_before u (least (filter test us)) (λ w e.
        let s = gather-selects lesser lesser_one (map Some (filter test us)) w e in
        let f = from_map Some (filter test us) (Some w) s in
        let in_us = (from_filter test us f.0 f.1.0).0 in
        is_less (id_cmp u w) (all_in (λ (y : NodeId). is_lt (id_cmp u y)) us w under (subst (λ (v : NodeId). IsIn v us) (same_Some f.0 w f.1.1) in_us)))
