-- The join of sound databases that can be joined is sound.
use Rattle.std.proofs.Common.{◌≡◌, ◌≢◌, Bool, true, false, not, cond, ◌⊎◌, inl, inr, List, [], ◌∷◌, Option, Some, None, map, max, refl, sym, ap, subst, ◌∙◌}
use Rattle.std.specs.Cmp.{both_ways}
use Rattle.std.specs.declared.cmp.Ordering.{Ordering}
use Rattle.std.specs.FinMap.{FinMap, get, contains_key, keys, get-empty}
use Rattle.std.specs.Option.{unwrap_or}
use Rattle.std.specs.Str.{chars, is_utf8}
use Rattle.vault_model.specs.declared.contents.Stats.{Stats}
use Rattle.vault_model.specs.declared.metas.MetaSettings.{MetaSettings}
use Rattle.vault_model.specs.declared.metas.Timed.{Timed}
use Rattle.vault_model.specs.declared.nodes.GroupState.{GroupState}
use Rattle.vault_model.specs.Db.{NodeId, id_cmp, nil_id, Mark, Versions, GroupMark, Place, place_cmp, SharedMeta, Db, holds, parent_or, parent_in, Reaches, IsProperMeta, Sound}
use Rattle.vault_model.specs.Join.{stats_join, state_join, timed_join, meta_join, no_meta, root_of, latest, above, kept, join, IsIn, IsNotEmpty, Allowed}
use Rattle.vault_model.specs.Orders.{bytes_cmp, icon_cmp, later_item_cmp}
use Rattle.vault_model.specs.Proper.{is_proper_content, is_proper_group_content}
use Rattle.vault_model.specs.Unite.{greater, join_options, gather, unite}
use Rattle.merge_core.proofs.Allowed.{root_latest, kept_held, kept_root, kept_above, kept_reaches}
use Rattle.merge_core.proofs.Facts.{join_entries, join_groups, join_places, join_tombs, join_root, latest_found}
use Rattle.vault_model.proofs.Orders.{IsOrder, bytes_order, id_order, icon_order, later_item_order, settings_order, timed_order}
use Rattle.merge_core.proofs.Paths.{steps_same}
use Rattle.merge_core.proofs.Semilattice.{some-gather, greater_one}
use Rattle.vault_model.proofs.Tests.{or_cases, or_left, or_right, apart, is_false, some_of, some_is, any_found, in_map, from_map}
use Rattle.merge_core.proofs.Unite.{get-unite}
use Rattle.merge_core.proofs.Versions.{never, some_from, version_from, versions_some, version_stays, some_versions, state_from}

pub cond_some : {A : Type 0} (b : Bool) (o : Option A) (x : A) → cond b o None ≡ Some x → (b ≡ true) × (o ≡ Some x)
cond_some true o x e = (refl, e)
cond_some false o x e = never x e

-- ---- a column: what the members have at an id

module _ {A : Type 0} (f : A → A → A) (field : Db → FinMap id_cmp A) (S : List Db) (u : NodeId) where
  pub column_some : (x : A) → gather f (map (λ (m : Db). get (field m) u) S) ≡ Some x → (m : Db) × (IsIn m S × (contains_key (field m) u ≡ true))
  column_some x e =
      let one = some_from f (map (λ (m : Db). get (field m) u) S) x e in
      let m = from_map (λ (m : Db). get (field m) u) S (Some one.0) one.1 in
      (m.0, (m.1.0, some_is (get (field m.0) u) one.0 m.1.1))

  pub some_column : (m : Db) → IsIn m S → contains_key (field m) u ≡ true → (x : A) × (gather f (map (λ (n : Db). get (field n) u) S) ≡ Some x)
  some_column m h e =
      let here = some_of (get (field m) u) e in
      some-gather f (map (λ (n : Db). get (field n) u) S) here.0
      (subst (λ (o : Option A). IsIn o (map (λ (n : Db). get (field n) u) S)) here.1 (in_map (λ (n : Db). get (field n) u) S m h))

  -- what stands in a column that is kept
  pub kept_column : (J : FinMap id_cmp A) (b : Bool) → get J u ≡ cond b (gather f (map (λ (m : Db). get (field m) u) S)) None → contains_key J u ≡ true
      → (b ≡ true) × ((m : Db) × (IsIn m S × (contains_key (field m) u ≡ true)))
  kept_column J b is e =
      let x = some_of (get J u) e in
      let c = cond_some b (gather f (map (λ (m : Db). get (field m) u) S)) x.0 (sym is ∙ x.1) in
      (c.0, column_some x.0 c.1)

  pub column_kept : (J : FinMap id_cmp A) (b : Bool) → get J u ≡ cond b (gather f (map (λ (m : Db). get (field m) u) S)) None → b ≡ true
      → (m : Db) → IsIn m S → contains_key (field m) u ≡ true → contains_key J u ≡ true
  column_kept J b is e m h k =
      let x = some_column m h k in
      some_is (get J u) x.0 (is ∙ ap (λ t. cond t (gather f (map (λ (n : Db). get (field n) u) S)) None) e ∙ x.1)

-- ---- shared values

merged_from : {A : Type 0} (f : A → A → A) → ((x y : A) → (f x y ≡ x) ⊎ (f x y ≡ y)) → (a b : Option A) (x : A) → join_options f a b ≡ Some x → (a ≡ Some x) ⊎ (b ≡ Some x)
merged_from f one None b x e = inr e
merged_from f one (Some y) None x e = inl e
merged_from f one (Some y) (Some z) x e = elim (one y z) [ inl p ↦ inl (ap Some (sym p) ∙ e) | inr p ↦ inr (ap Some (sym p) ∙ e) ]

-- the later of two values is as each of them is
timed_keeps : {A : Type 0} {R : A → A → Ordering} → IsOrder R → (test : A → Bool) (x y : Timed A) → test x.value ≡ true → test y.value ≡ true → test (timed_join R x y).value ≡ true
timed_keeps r test x y p q =
    elim (greater_one (timed_order r).total (timed_order r).same x y) [
      | inl e ↦ ap (λ (t : Timed _). test t.value) e ∙ p
      | inr e ↦ ap (λ (t : Timed _). test t.value) e ∙ q
    ]

pub meta_proper : (m n : SharedMeta) → IsProperMeta m → IsProperMeta n → IsProperMeta (meta_join m n)
meta_proper m n p q = record {
  name = timed_keeps bytes_order is_utf8 m.name n.name p.name q.name;
  description = timed_keeps bytes_order is_utf8 m.description n.description p.description q.description;
  user = timed_keeps bytes_order is_utf8 m.user n.user p.user q.user;
  color = timed_keeps settings_order (λ (s : MetaSettings). is_utf8 s.color) m.settings n.settings p.color q.color;
  icons = λ u icon e.
      elim (merged_from (greater icon_cmp) (greater_one icon_order.total icon_order.same) (get m.icons u) (get n.icons u) icon
      (sym (get-unite id_order.total id_order.same (greater icon_cmp) m.icons n.icons u) ∙ e)) [
        | inl h ↦ p.icons u icon h
        | inr h ↦ q.icons u icon h
      ];
  items = λ k item e.
      elim (merged_from (greater later_item_cmp) (greater_one later_item_order.total later_item_order.same) (get m.items k) (get n.items k) item
      (sym (get-unite bytes_order.total bytes_order.same (greater later_item_cmp) m.items n.items k) ∙ e)) [
        | inl h ↦ p.items k item h
        | inr h ↦ q.items k item h
      ];
}

abbrev IsProperOr : Option SharedMeta → Type 0
IsProperOr None = Unit {0}
IsProperOr (Some m) = IsProperMeta m

merged_proper : (a b : Option SharedMeta) → IsProperOr a → IsProperOr b → IsProperOr (join_options meta_join a b)
merged_proper None b p q = q
merged_proper (Some m) None p q = p
merged_proper (Some m) (Some n) p q = meta_proper m n p q

gathered_proper : (S : List Db) → ((m : Db) → IsIn m S → IsProperMeta m.meta) → IsProperOr (gather meta_join (map (λ (m : Db). Some m.meta) S))
gathered_proper [] each = tt
gathered_proper (m ∷ ms) each =
    merged_proper (Some m.meta) (gather meta_join (map (λ (n : Db). Some n.meta) ms)) (each m (inl refl)) (gathered_proper ms (λ n h. each n (inr h)))

proper_or : (o : Option SharedMeta) → IsProperOr o → IsProperMeta (unwrap_or o no_meta)
unfolding is_utf8 chars
proper_or None p = record {
  name = refl;
  description = refl;
  user = refl;
  color = refl;
  icons = λ u icon e. never icon (sym (get-empty id_cmp u) ∙ e);
  items = λ k item e. never item (sym (get-empty bytes_cmp k) ∙ e);
}
proper_or (Some m) p = p

pub join_meta : (S : List Db) → (join S).meta ≡ unwrap_or (gather meta_join (map (λ (m : Db). Some m.meta) S)) no_meta
unfolding join
join_meta S = refl

both_none : {A : Type 0} (b : Bool) (o : Option A) → o ≡ None → cond b o None ≡ None
both_none true o e = e
both_none false o e = refl

pub first_member : (S : List Db) → IsNotEmpty S → (m : Db) × IsIn m S
first_member [] some = absurd some
first_member (m ∷ ms) some = (m, inl refl)

-- ---- the join

module _ (S : List Db) (al : Allowed S) (sound : (m : Db) → IsIn m S → Sound m) where
  pub entry_kept : (u : NodeId) → contains_key (join S).entries u ≡ true → (kept S u ≡ true) × ((m : Db) × (IsIn m S × (contains_key m.entries u ≡ true)))
  entry_kept u e = kept_column (unite stats_join) (λ m. m.entries) S u (join S).entries (kept S u) (join_entries S u) e

  pub group_kept : (u : NodeId) → contains_key (join S).groups u ≡ true → (kept S u ≡ true) × ((m : Db) × (IsIn m S × (contains_key m.groups u ≡ true)))
  group_kept u e = kept_column state_join (λ m. m.groups) S u (join S).groups (kept S u) (join_groups S u) e

  kept_group : (u : NodeId) (m : Db) → kept S u ≡ true → IsIn m S → contains_key m.groups u ≡ true → contains_key (join S).groups u ≡ true
  kept_group u m e h k = column_kept state_join (λ m. m.groups) S u (join S).groups (kept S u) (join_groups S u) e m h k

  kept_entry : (u : NodeId) (m : Db) → kept S u ≡ true → IsIn m S → contains_key m.entries u ≡ true → contains_key (join S).entries u ≡ true
  kept_entry u m e h k = column_kept (unite stats_join) (λ m. m.entries) S u (join S).entries (kept S u) (join_entries S u) e m h k

  holds_kept : (u : NodeId) → holds (join S) u ≡ true → kept S u ≡ true
  holds_kept u e =
      elim (or_cases (contains_key (join S).entries u) (contains_key (join S).groups u) e) [
        | inl k ↦ (entry_kept u k).0
        | inr k ↦ (group_kept u k).0
      ]

  kept_holds : (u : NodeId) → kept S u ≡ true → holds (join S) u ≡ true
  kept_holds u e =
      let f = any_found (λ (m : Db). holds m u) S (kept_held S al sound u e) in
      elim (or_cases (contains_key f.0.entries u) (contains_key f.0.groups u) f.1.1) [
        | inl k ↦ or_left (contains_key (join S).entries u) (contains_key (join S).groups u) (kept_entry u f.0 e f.1.0 k)
        | inr k ↦ or_right (contains_key (join S).entries u) (contains_key (join S).groups u) (kept_group u f.0 e f.1.0 k)
      ]

  -- the join holds exactly the kept nodes
  pub join_holds : (u : NodeId) → holds (join S) u ≡ kept S u
  join_holds u = both_ways (holds (join S) u) (kept S u) (holds_kept u) (kept_holds u)

  place_kept : (u : NodeId) (p : Place) → get (join S).places u ≡ Some p → (kept S u ≡ true) × (latest S u ≡ Some p)
  place_kept u p e = cond_some (kept S u) (latest S u) p (sym (join_places S u) ∙ e)

  above_kept : (u : NodeId) → kept S u ≡ true → (parent_in (join S) u ≡ above S u) × (kept S (parent_in (join S) u) ≡ true)
  above_kept u e =
      let same : parent_in (join S) u ≡ above S u = ap (parent_or u) (join_places S u ∙ ap (λ b. cond b (latest S u) None) e) in
      (same, ap (kept S) same ∙ kept_above S al sound u e)

  root_group : contains_key (join S).groups (root_of S) ≡ true
  root_group =
      let f = first_member S al.some in
      kept_group (root_of S) f.0 (kept_root S al sound) f.1 (ap (contains_key f.0.groups) (sym (al.root f.0 f.1)) ∙ (sound f.0 f.1).root)

  joined_placed : (u : NodeId) → (u ≢ (join S).root) → contains_key (join S).places u ≡ holds (join S) u
  joined_placed u ne = both_ways (contains_key (join S).places u) (holds (join S) u)
      (λ e. let x = some_of (get (join S).places u) e in kept_holds u (place_kept u x.0 x.1).0)
      (λ e.
      let k = holds_kept u e in
      let f = any_found (λ (m : Db). holds m u) S (kept_held S al sound u k) in
      let off : u ≢ f.0.root = λ q. ne (q ∙ al.root f.0 f.1.0 ∙ sym (join_root S)) in
      column_kept (greater place_cmp) (λ m. m.places) S u (join S).places (kept S u) (join_places S u) k f.0 f.1.0
      ((sound f.0 f.1.0).placed u off ∙ f.1.1))

  joined_parents : (u : NodeId) (p : Place) → get (join S).places u ≡ Some p → contains_key (join S).groups p.parent ≡ true
  joined_parents u p e =
      let k = place_kept u p e in
      let f = latest_found S u p k.1 in
      let parent : above S u ≡ p.parent = ap (parent_or u) k.1 in
      kept_group p.parent f.0 (ap (kept S) (sym parent) ∙ kept_above S al sound u k.0) f.1.0 ((sound f.0 f.1.0).parents u p f.1.1)

  joined_rooted : (u : NodeId) → holds (join S) u ≡ true → Reaches (parent_in (join S)) u (join S).root
  joined_rooted u e =
      let k = holds_kept u e in
      let r = kept_reaches S al sound u k in
      (r.0, steps_same (parent_in (join S)) (above S) (kept S) above_kept r.0 u k ∙ r.1 ∙ sym (join_root S))

  joined_versions : (u : NodeId) (v : Versions) → get (join S).entries u ≡ Some v → keys v ≢ []
  joined_versions u v e =
      let c = cond_some (kept S u) (gather (unite stats_join) (map (λ (m : Db). get m.entries u) S)) v (sym (join_entries S u) ∙ e) in
      let one = some_from (unite stats_join) (map (λ (m : Db). get m.entries u) S) v c.1 in
      let m = from_map (λ (m : Db). get m.entries u) S (Some one.0) one.1 in
      let has = versions_some one.0 ((sound m.0 m.1.0).versions u one.0 m.1.1) in
      let stays = version_stays (map (λ (m : Db). get m.entries u) S) v one.0 has.0 has.1.0 c.1 one.1 has.1.1 in
      some_versions v has.0 stays.0 stays.1.0

  joined_contents : (u : NodeId) (v : Versions) (k : Mark) (s : Stats) → get (join S).entries u ≡ Some v → get v k ≡ Some s → is_proper_content k.content ≡ true
  joined_contents u v k s e g =
      let c = cond_some (kept S u) (gather (unite stats_join) (map (λ (m : Db). get m.entries u) S)) v (sym (join_entries S u) ∙ e) in
      let one = version_from (map (λ (m : Db). get m.entries u) S) v k s c.1 g in
      let m = from_map (λ (m : Db). get m.entries u) S (Some one.0) one.1.1.0 in
      (sound m.0 m.1.0).contents u one.0 k one.1.0 m.1.1 one.1.1.1

  joined_group_contents : (u : NodeId) (g : GroupState) → get (join S).groups u ≡ Some g → is_proper_group_content g.content ≡ true
  joined_group_contents u g e =
      let c = cond_some (kept S u) (gather state_join (map (λ (m : Db). get m.groups u) S)) g (sym (join_groups S u) ∙ e) in
      let one = state_from (map (λ (m : Db). get m.groups u) S) g c.1 in
      let m = from_map (λ (m : Db). get m.groups u) S (Some one.0) one.1.0 in
      let same = ap (λ (k : GroupMark). k.content) one.1.1 in
      ap is_proper_group_content same ∙ ((sound m.0 m.1.0).group_contents u one.0 m.1.1)

  pub join_sound : Sound (join S)
  join_sound = record {
    root = ap (contains_key (join S).groups) (join_root S) ∙ root_group;
    top = ap (get (join S).places) (join_root S) ∙ join_places S (root_of S) ∙ both_none (kept S (root_of S)) (latest S (root_of S)) (root_latest S al.some al.root sound);
    kinds = λ u e. let k = entry_kept u e in is_false (contains_key (join S).groups u) (λ g.
        let l = group_kept u g in
        apart (contains_key l.1.0.groups u) l.1.1.1 (al.kinds k.1.0 l.1.0 u k.1.1.0 l.1.1.0 k.1.1.1));
    no_nil = is_false (holds (join S) nil_id) (λ e.
        let f = any_found (λ (m : Db). holds m nil_id) S (kept_held S al sound nil_id (holds_kept nil_id e)) in
        apart (holds f.0 nil_id) f.1.1 (sound f.0 f.1.0).no_nil);
    placed = joined_placed;
    parents = joined_parents;
    rooted = joined_rooted;
    alive = λ u e. join_tombs S u ∙ ap (λ b. cond (not b) (gather max (map (λ (m : Db). get m.tombs u) S)) None) (holds_kept u e);
    versions = joined_versions;
    contents = joined_contents;
    group_contents = joined_group_contents;
    meta = subst IsProperMeta (sym (join_meta S)) (proper_or (gather meta_join (map (λ (m : Db). Some m.meta) S)) (gathered_proper S (λ m h. (sound m h).meta)));
  }
