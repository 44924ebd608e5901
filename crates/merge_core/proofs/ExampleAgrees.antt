-- The three copies of the example agree.
use Rattle.std.proofs.Common.{◌≡◌, ◌≤◌, ◌<◌, ℕ, Bool, true, false, not, cond, inl, inr, [], ◌∷◌, ◌++◌, Option, Some, None, map, nat_le, nat_lt, refl, sym, ap, subst, ◌∙◌, arith}
use Rattle.std.proofs.lemmas.Bool.{leb-true, ltb-true}
use Rattle.std.specs.FinMap.{get, contains_key}
use Rattle.std.specs.List.{list_all, list_any}
use Rattle.std.specs.Str.{chars, is_utf8}
use Rattle.vault_model.specs.declared.nodes.GroupState.{GroupState}
use Rattle.vault_model.specs.declared.nodes.Tombstone.{Tombstone}
use Rattle.vault_model.specs.Db.{NodeId, Mark, Versions, Place, Db, newest, state_time, stamp_in, Sound}
use Rattle.vault_model.specs.Join.{is_id, IsIn, Compatible, Agreed}
use Rattle.vault_model.specs.Proper.{is_proper_content, is_proper_group_content}
use Rattle.vault_model.specs.Shape.{BareVersion, EntryRecord, GroupRecord, Children}
use Rattle.vault_model.specs.Tree.{BareDoc, id_of, entry_rows, group_rows, child_rows, IsDoc, db_in}
use Rattle.vault_model.proofs.Ids.{same_id}
use Rattle.merge_core.proofs.SoundDoc.{all_in, version_marks, entry_at, group_at, place_kid, db_tomb, db_root, document_sound}
use Rattle.vault_model.proofs.Tests.{not_true, apart, is_false, some_of, from_map, greatest_below}
use Rattle.merge_core.proofs.Tables.{find_in}
use Rattle.vault_model.proofs.Orders.{id_order, mark_order}
use Rattle.merge_core.proofs.Unite.{from_keys}
use Rattle.merge_core.specs.Example.{root, bank, mail, as_it_was, edited, moved, copies}
use Rattle.merge_core.proofs.Ranked.{ranked_agreed}

-- entries are told apart from groups by their ids, and stand below them
abbrev is_entry : NodeId → Bool
is_entry u = list_any (is_id u) (bank ∷ mail ∷ [])

abbrev rank : NodeId → ℕ
rank u = cond (is_id u root) 0 (cond (is_entry u) 2 1)

-- What is asked of each copy, as tests that compute.
record IsFine (d : BareDoc) : Type 0 where
  doc : IsDoc d
  entries : list_all (λ (r : NodeId × EntryRecord). is_entry r.0) (entry_rows d.tree) ≡ true
  groups : list_all (λ (r : NodeId × GroupRecord). not (is_entry r.0)) (group_rows d.tree) ≡ true
  ranked : list_all (λ (r : NodeId × Children). list_all (λ u. nat_lt (rank r.0) (rank u)) (r.1.entries ++ r.1.groups)) (child_rows d.tree) ≡ true
  rows : list_all (λ (r : NodeId × Children). not (is_entry r.0)) (child_rows d.tree) ≡ true
  early : list_all (λ (r : NodeId × EntryRecord). list_all (λ (v : BareVersion). nat_le v.mark.modified 40) (r.1.current ∷ r.1.history)) (entry_rows d.tree) ≡ true
  early_groups : list_all (λ (r : NodeId × GroupRecord). nat_le r.1.state.modified 40) (group_rows d.tree) ≡ true
  tombs : list_all (λ (t : Tombstone). is_id t.id mail) d.tombs ≡ true
  late : list_all (λ (t : Tombstone). nat_le 40 t.deleted) d.tombs ≡ true
  same_root : id_of d.tree ≡ root

fine_first : IsFine as_it_was
unfolding is_proper_content is_proper_group_content is_utf8 chars lib.Utf8.encode
fine_first = record {
  doc = record {
    distinct = refl;
    no_nil = refl;
    levels = omega arith;
    tombs_rise = refl;
    tombs_apart = refl;
    entries_proper = refl;
    groups_proper = refl;
    icons_rise = refl;
    items_rise = refl;
    meta_texts = refl;
  };
  entries = refl;
  groups = refl;
  ranked = refl;
  rows = refl;
  early = refl;
  early_groups = refl;
  tombs = refl;
  late = refl;
  same_root = refl;
}

fine_second : IsFine edited
unfolding is_proper_content is_proper_group_content is_utf8 chars lib.Utf8.encode
fine_second = record {
  doc = record {
    distinct = refl;
    no_nil = refl;
    levels = omega arith;
    tombs_rise = refl;
    tombs_apart = refl;
    entries_proper = refl;
    groups_proper = refl;
    icons_rise = refl;
    items_rise = refl;
    meta_texts = refl;
  };
  entries = refl;
  groups = refl;
  ranked = refl;
  rows = refl;
  early = refl;
  early_groups = refl;
  tombs = refl;
  late = refl;
  same_root = refl;
}

fine_third : IsFine moved
unfolding is_proper_content is_proper_group_content is_utf8 chars lib.Utf8.encode
fine_third = record {
  doc = record {
    distinct = refl;
    no_nil = refl;
    levels = omega arith;
    tombs_rise = refl;
    tombs_apart = refl;
    entries_proper = refl;
    groups_proper = refl;
    icons_rise = refl;
    items_rise = refl;
    meta_texts = refl;
  };
  entries = refl;
  groups = refl;
  ranked = refl;
  rows = refl;
  early = refl;
  early_groups = refl;
  tombs = refl;
  late = refl;
  same_root = refl;
}

-- each member is the database of a fine copy
fine_of : (m : Db) → IsIn m copies → (d : BareDoc) × (IsFine d × (db_in d ≡ m))
fine_of m (inl p) = (as_it_was, (fine_first, p))
fine_of m (inr (inl p)) = (edited, (fine_second, p))
fine_of m (inr (inr (inl p))) = (moved, (fine_third, p))
fine_of m (inr (inr (inr h))) = absurd h

module _ (d : BareDoc) (f : IsFine d) where
  entry_id : (u : NodeId) → contains_key (db_in d).entries u ≡ true → is_entry u ≡ true
  entry_id u e =
      let v = some_of (get (db_in d).entries u) e in
      let r = entry_at d f.doc u v.0 v.1 in
      all_in (λ (r : NodeId × EntryRecord). is_entry r.0) (entry_rows d.tree) (u, r.0) f.entries r.1.0

  group_id : (u : NodeId) → contains_key (db_in d).groups u ≡ true → is_entry u ≡ false
  group_id u e =
      let g = some_of (get (db_in d).groups u) e in
      let r = group_at d f.doc u g.0 g.1 in
      not_true (is_entry u) (all_in (λ (r : NodeId × GroupRecord). not (is_entry r.0)) (group_rows d.tree) (u, r.0) f.groups r.1.0)

  falls : (u : NodeId) (p : Place) → get (db_in d).places u ≡ Some p → rank p.parent < rank u
  falls u p e =
      let k = place_kid d f.doc u p e in
      let row = all_in (λ (r : NodeId × Children). list_all (λ v. nat_lt (rank r.0) (rank v)) (r.1.entries ++ r.1.groups)) (child_rows d.tree) (p.parent, k.0) f.ranked k.1.0 in
      ltb-true (rank p.parent) (rank u) (all_in (λ v. nat_lt (rank p.parent) (rank v)) (k.0.entries ++ k.0.groups) u row k.1.1)

  parent_id : (u : NodeId) (p : Place) → get (db_in d).places u ≡ Some p → is_entry p.parent ≡ false
  parent_id u p e =
      let k = place_kid d f.doc u p e in
      not_true (is_entry p.parent) (all_in (λ (r : NodeId × Children). not (is_entry r.0)) (child_rows d.tree) (p.parent, k.0) f.rows k.1.0)

  tomb_id : (u : NodeId) (n : ℕ) → get (db_in d).tombs u ≡ Some n → (u ≡ mail) × (40 ≤ n)
  tomb_id u n e =
      let row = find_in id_order.total id_order.same (map (λ (t : Tombstone). (t.id, t.deleted)) d.tombs) u n (sym (db_tomb d f.doc u) ∙ e) in
      let t = from_map (λ (t : Tombstone). (t.id, t.deleted)) d.tombs (u, n) row in
      let named = same_id t.0.id mail (all_in (λ (t : Tombstone). is_id t.id mail) d.tombs t.0 f.tombs t.1.0) in
      let time = leb-true 40 t.0.deleted (all_in (λ (t : Tombstone). nat_le 40 t.deleted) d.tombs t.0 f.late t.1.0) in
      (ap (λ (r : NodeId × ℕ). r.0) (sym t.1.1) ∙ named, subst (λ (k : ℕ). 40 ≤ k) (ap (λ (r : NodeId × ℕ). r.1) t.1.1) time)

  newest_early : (u : NodeId) (o : Option Versions) → get (db_in d).entries u ≡ o → newest o ≤ 40
  newest_early u None e = omega arith
  newest_early u (Some v) e =
      greatest_below _ 40 (λ n h.
      let k = from_map (λ (m : Mark). m.modified) _ n h in
      let s = some_of (get v k.0) (from_keys mark_order.total mark_order.same v k.0 k.1.0) in
      let r = entry_at d f.doc u v e in
      let all = all_in (λ (r : NodeId × EntryRecord). list_all (λ (w : BareVersion). nat_le w.mark.modified 40) (r.1.current ∷ r.1.history)) (entry_rows d.tree) (u, r.0) f.early r.1.0 in
      let w = version_marks r.0 k.0 s.0 (ap (λ (x : Versions). get x k.0) r.1.1 ∙ s.1) in
      let low = leb-true w.0.mark.modified 40 (all_in (λ (x : BareVersion). nat_le x.mark.modified 40) (r.0.current ∷ r.0.history) w.0 all w.1.0) in
      let same : k.0.modified ≡ w.0.mark.modified = ap (λ (m : Mark). m.modified) w.1.1 in
      let is = k.1.1 in
      omega (arith, low, same, is))

  state_early : (u : NodeId) (o : Option GroupState) → get (db_in d).groups u ≡ o → state_time o ≤ 40
  state_early u None e = omega arith
  state_early u (Some g) e =
      let r = group_at d f.doc u g e in
      let low = leb-true r.0.state.modified 40 (all_in (λ (r : NodeId × GroupRecord). nat_le r.1.state.modified 40) (group_rows d.tree) (u, r.0) f.early_groups r.1.0) in
      let same : r.0.state.modified ≡ g.modified = ap (λ (x : GroupState). x.modified) r.1.1 in
      omega (arith, low, same)

  stamp_early : (u : NodeId) → stamp_in (db_in d) u ≤ 40
  unfolding stamp_in
  stamp_early u =
      let a = newest_early u (get (db_in d).entries u) refl in
      let b = state_early u (get (db_in d).groups u) refl in
      omega (arith, a, b)

example_compatible : Compatible copies
example_compatible = record {
  sound = λ m h. let f = fine_of m h in subst Sound f.1.1 (document_sound f.0 f.1.0.doc);
  root = λ m h.
      let f = fine_of m h in
      ap (λ (x : Db). x.root) (sym f.1.1) ∙ db_root f.0 f.1.0.doc ∙ f.1.0.same_root ∙ sym (db_root as_it_was fine_first.doc ∙ fine_first.same_root);
  kinds = λ m n u h i e.
      let f = fine_of m h in
      let g = fine_of n i in
      let entry = entry_id f.0 f.1.0 u (ap (λ (x : Db). contains_key x.entries u) f.1.1 ∙ e) in
      ap (λ (x : Db). contains_key x.groups u) (sym g.1.1)
      ∙ is_false (contains_key (db_in g.0).groups u) (λ t. apart (is_entry u) entry (group_id g.0 g.1.0 u t));
  tombs = λ m n u d h i e.
      let f = fine_of m h in
      let g = fine_of n i in
      let t = tomb_id f.0 f.1.0 u d (ap (λ (x : Db). get x.tombs u) f.1.1 ∙ e) in
      let late = t.1 in
      let low = subst (λ (x : Db). stamp_in x u ≤ 40) g.1.1 (stamp_early g.0 g.1.0 u) in
      omega (arith, late, low);
}

-- the three copies agree
pub example_agreed : Agreed copies
example_agreed =
    ranked_agreed copies example_compatible
    (λ m n u p d h i e t.
    let f = fine_of m h in
    let g = fine_of n i in
    let named = (tomb_id g.0 g.1.0 p.parent d (ap (λ (x : Db). get x.tombs p.parent) g.1.1 ∙ t)).0 in
    let group = parent_id f.0 f.1.0 u p (ap (λ (x : Db). get x.places u) f.1.1 ∙ e) in
    apart (is_entry p.parent) (ap is_entry named ∙ refl) group)
    rank
    (λ m u p h e. let f = fine_of m h in falls f.0 f.1.0 u p (ap (λ (x : Db). get x.places u) f.1.1 ∙ e))
