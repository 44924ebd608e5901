-- Deletions count: whether a version stays depends on the grouping of merges.
use Rattle.std.proofs.Common.{◌≡◌, ◌≢◌, ◌≤◌, ◌<◌, ℕ, zero, suc, Bool, true, false, not, cond, inl, inr, List, [], ◌∷◌, ◌++◌, ◌&&◌, ◌||◌, Option, Some, None, map, nat_le, nat_lt, refl, sym, ap, subst, ◌∙◌, arith}
use Rattle.std.proofs.lemmas.Bool.{leb-true, ltb-true}
use Rattle.std.proofs.lemmas.Option.{same_Some}
use Rattle.std.specs.FinMap.{contains_key, get}
use Rattle.std.specs.List.{list_all, list_any}
use Rattle.std.specs.Option.{option_map}
use Rattle.std.specs.Str.{chars, is_utf8}
use Rattle.vault_model.specs.declared.contents.Stats.{Stats}
use Rattle.vault_model.specs.Db.{Db, Mark, NodeId, Place, Reaches, Sound, Versions, holds, newest, parent_or, place_cmp, stamp_in}
use Rattle.vault_model.specs.Join.{HaveOneRoot, IsAcyclic, IsIn, IsPart, above, buried, is_from, is_held, is_id, join, kept, latest, own, root_of, stamp, stats_join}
use Rattle.vault_model.specs.Proper.{is_proper_content, is_proper_group_content}
use Rattle.vault_model.specs.Shape.{BareVersion, Children, EntryRecord, GroupRecord, versions_of}
use Rattle.vault_model.specs.Tree.{BareDoc, IsDoc, child_rows, db_in, entry_rows, group_rows, id_of, shape_of}
use Rattle.vault_model.specs.Unite.{gather, greater, unite}
use Rattle.vault_model.proofs.Ids.{is_same_id, same_id}
use Rattle.vault_model.proofs.Tests.{and_both, and_true, any_found, apart, decide, greatest_above, is_false, not_false, not_true, or_cases, or_left, or_right, some_is, some_of}
use Rattle.merge_core.specs.Example.{as_it_was, bank, copies, mail, moved, root}
use Rattle.merge_core.proofs.Allowed.{keeps}
use Rattle.merge_core.proofs.ExampleAgrees.{example_agreed}
use Rattle.merge_core.proofs.Facts.{alive_from_own, held_by, join_entries, latest_found, part_root, trail_head}
use Rattle.merge_core.proofs.Laid.{db_entries}
use Rattle.merge_core.proofs.MoreLaws.{kept_version}
use Rattle.merge_core.proofs.Regroup.{part_kept}
use Rattle.merge_core.proofs.SoundDoc.{all_in, db_root, db_tomb, document_sound, entry_at, group_at, place_kid, shape_entry, version_marks}
use Rattle.merge_core.proofs.SoundJoin.{some_column}
use Rattle.merge_core.proofs.Versions.{mark_newest, never, versions_some}
use Rattle.merge_examples.specs.Deletions.{AgreedButDeletions, DeletionsNeverCount, at_once, changed_later, one_by_one, three}
use Rattle.merge_examples.proofs.Merged.{doc_first, doc_third}

doc_changed : IsDoc changed_later
unfolding is_proper_content is_proper_group_content is_utf8 chars lib.Utf8.encode
doc_changed = record {
  distinct = refl;
  no_nil = refl;
  levels = omega arith;
  tombs_rise = refl;
  tombs_apart = refl;
  entries_proper = refl;
  groups_proper = refl;
  icons_rise = refl;
  items_rise = refl;
  meta_texts = refl;
}

-- ---- the members, but for deletions

abbrev is_entry : NodeId → Bool
is_entry u = list_any (is_id u) (bank ∷ mail ∷ [])

abbrev rank : NodeId → ℕ
rank u = cond (is_id u root) 0 (cond (is_entry u) 2 1)

-- What is asked of each copy, as tests that compute.
record IsFine (d : BareDoc) : Type 0 where
  doc : IsDoc d
  entries : list_all (λ (r : NodeId × EntryRecord). is_entry r.0) (entry_rows d.tree) ≡ true
  groups : list_all (λ (r : NodeId × GroupRecord). not (is_entry r.0)) (group_rows d.tree) ≡ true
  ranked : list_all (λ (r : NodeId × Children). list_all (λ u. nat_lt (rank r.0) (rank u)) (r.1.entries ++ r.1.groups)) (child_rows d.tree) ≡ true
  same_root : id_of d.tree ≡ root

fine_of : (m : Db) → IsIn m three → (d : BareDoc) × (IsFine d × (db_in d ≡ m))
fine_of m (inl p) = (moved, (record { doc = doc_third; entries = refl; groups = refl; ranked = refl; same_root = refl }, p))
fine_of m (inr (inl p)) = (as_it_was, (record { doc = doc_first; entries = refl; groups = refl; ranked = refl; same_root = refl }, p))
fine_of m (inr (inr (inl p))) = (changed_later, (record { doc = doc_changed; entries = refl; groups = refl; ranked = refl; same_root = refl }, p))
fine_of m (inr (inr (inr z))) = absurd z

module _ (d : BareDoc) (f : IsFine d) where
  entry_id : (u : NodeId) → contains_key (db_in d).entries u ≡ true → is_entry u ≡ true
  entry_id u e =
      let v = some_of (get (db_in d).entries u) e in
      let r = entry_at d f.doc u v.0 v.1 in
      all_in (λ (r : NodeId × EntryRecord). is_entry r.0) (entry_rows d.tree) (u, r.0) f.entries r.1.0

  group_id : (u : NodeId) → contains_key (db_in d).groups u ≡ true → is_entry u ≡ false
  group_id u e =
      let g = some_of (get (db_in d).groups u) e in
      let r = group_at d f.doc u g.0 g.1 in
      not_true (is_entry u) (all_in (λ (r : NodeId × GroupRecord). not (is_entry r.0)) (group_rows d.tree) (u, r.0) f.groups r.1.0)

  falls : (u : NodeId) (p : Place) → get (db_in d).places u ≡ Some p → rank p.parent < rank u
  falls u p e =
      let k = place_kid d f.doc u p e in
      let row = all_in (λ (r : NodeId × Children). list_all (λ v. nat_lt (rank r.0) (rank v)) (r.1.entries ++ r.1.groups)) (child_rows d.tree) (p.parent, k.0) f.ranked k.1.0 in
      ltb-true (rank p.parent) (rank u) (all_in (λ v. nat_lt (rank p.parent) (rank v)) (k.0.entries ++ k.0.groups) u row k.1.1)

sound : (m : Db) → IsIn m three → Sound m
sound m h = let f = fine_of m h in subst Sound f.1.1 (document_sound f.0 f.1.0.doc)

root_is : (m : Db) → IsIn m three → m.root ≡ root
root_is m h = let f = fine_of m h in ap (λ (x : Db). x.root) (sym f.1.1) ∙ db_root f.0 f.1.0.doc ∙ f.1.0.same_root

one_root : HaveOneRoot three
one_root m h = root_is m h ∙ sym (root_is (db_in moved) (inl refl))

member_falls : (m : Db) → IsIn m three → (u : NodeId) (p : Place) → get m.places u ≡ Some p → rank p.parent < rank u
member_falls m h u p e = let f = fine_of m h in falls f.0 f.1.0 u p (ap (λ (x : Db). get x.places u) f.1.1 ∙ e)

module _ (R : List Db) (part : IsPart R three) where
  roots : (m : Db) → IsIn m R → m.root ≡ root_of R
  roots m h = one_root m (part.1 m h) ∙ sym (part_root R three one_root part)

  -- a held node without a place is the root
  no_place : (u : NodeId) → is_held R u ≡ true → latest R u ≡ None → u ≡ root_of R
  no_place u e l =
      elim (decide (is_id u (root_of R))) [
        | inl r ↦ same_id u (root_of R) r
        | inr r ↦
            let m = any_found (λ (n : Db). holds n u) R e in
            let off : u ≢ m.0.root = λ x. apart (is_id u (root_of R)) (is_same_id u (root_of R) (x ∙ roots m.0 m.1.0)) r in
            let placed = (sound m.0 (part.1 m.0 m.1.0)).placed u off ∙ m.1.1 in
            let there = some_column (greater place_cmp) (λ n. n.places) R u m.0 m.1.0 placed in
            never there.0 (sym l ∙ there.1)
      ]

  climb : (b : ℕ) (u : NodeId) (o : Option Place) → rank u ≤ b → is_held R u ≡ true → latest R u ≡ o → Reaches (above R) u (root_of R)
  climb b u None low e l = (zero, no_place u e l)
  climb zero u (Some p) low e l =
      let f = latest_found R u p l in
      let less = member_falls f.0 (part.1 f.0 f.1.0) u p f.1.1 in
      absurd (omega (arith, less, low))
  climb (suc b) u (Some p) low e l =
      let f = latest_found R u p l in
      let less = member_falls f.0 (part.1 f.0 f.1.0) u p f.1.1 in
      let up : above R u ≡ p.parent = ap (parent_or u) l in
      let same : rank (above R u) ≡ rank p.parent = ap rank up in
      let low' : rank (above R u) ≤ b = omega (arith, less, low, same) in
      let held : is_held R p.parent ≡ true = held_by R f.0 p.parent f.1.0
      (or_right (contains_key f.0.entries p.parent) (contains_key f.0.groups p.parent) ((sound f.0 (part.1 f.0 f.1.0)).parents u p f.1.1)) in
      let r = climb b (above R u) (latest R (above R u)) low' (ap (is_held R) up ∙ held) refl in
      (suc r.0, r.1)

  acyclic : IsAcyclic R
  unfolding own
  acyclic u e =
      elim (or_cases (is_id u (root_of R)) (is_held R u && not (buried R u)) e) [
        | inl r ↦ (zero, same_id u (root_of R) r)
        | inr k ↦ climb (rank u) u (latest R u) (omega arith) (and_true (is_held R u) (not (buried R u)) k).0 refl
      ]

but_deletions : AgreedButDeletions three
but_deletions = record {
  sound = sound;
  root = one_root;
  kinds = λ m n u h i e.
      let f = fine_of m h in
      let g = fine_of n i in
      let entry = entry_id f.0 f.1.0 u (ap (λ (x : Db). contains_key x.entries u) f.1.1 ∙ e) in
      ap (λ (x : Db). contains_key x.groups u) (sym g.1.1)
      ∙ is_false (contains_key (db_in g.0).groups u) (λ t. apart (is_entry u) entry (group_id g.0 g.1.0 u t));
  acyclic = acyclic;
}

-- ---- an entry of one version

-- What a document says of the entry, which has one version of this time.
record IsOnly (d : BareDoc) (time : ℕ) : Type 0 where
  versions : Versions
  mark : Mark
  stats : Stats
  entry : get (db_in d).entries mail ≡ Some versions
  version : get versions mark ≡ Some stats
  only : (k : Mark) (s : Stats) → get versions k ≡ Some s → k.modified ≡ time

only_version : (d : BareDoc) (isd : IsDoc d) (e : EntryRecord) → get (shape_of d).entries mail ≡ Some e → e.history ≡ [] → IsOnly d e.current.mark.modified
only_version d isd e there one =
    let is : get (db_in d).entries mail ≡ Some (versions_of e) = db_entries (shape_of d) mail ∙ ap (option_map versions_of) there in
    let some = versions_some (versions_of e) ((document_sound d isd).versions mail (versions_of e) is) in
    record {
      versions = versions_of e;
      mark = some.0;
      stats = some.1.0;
      entry = is;
      version = some.1.1;
      only = λ k s h.
          let v = version_marks e k s h in
          let here : IsIn v.0 (e.current ∷ []) = subst (λ (vs : List BareVersion). IsIn v.0 (e.current ∷ vs)) one v.1.0 in
          elim here [
            | inl p ↦ ap (λ (m : Mark). m.modified) v.1.1 ∙ ap (λ (x : BareVersion). x.mark.modified) (sym p)
            | inr z ↦ absurd z
          ];
    }

first : IsOnly as_it_was 10
first = only_version as_it_was doc_first _ (shape_entry as_it_was doc_first mail) refl

last : IsOnly changed_later 50
last = only_version changed_later doc_changed _ (shape_entry changed_later doc_changed mail) refl

-- ---- it stays in the one plan

later : 50 ≤ stamp three mail
unfolding stamp_in
later =
    let new = mark_newest last.versions last.mark last.stats last.version in
    let time = last.only last.mark last.stats last.version in
    let same : newest (get (db_in changed_later).entries mail) ≡ newest (Some last.versions) = ap newest last.entry in
    let top = greatest_above (map (λ (m : Db). stamp_in m mail) three) (stamp_in (db_in changed_later) mail) (inr (inr (inl refl))) in
    omega (arith, new, time, same, top)

not_buried : buried three mail ≡ false
not_buried =
    ap (λ o. is_from (stamp three mail) o || rest) (db_tomb moved doc_third mail)
    ∙ ap (λ b. b || rest) (is_false (nat_le (stamp three mail) 40) (λ t. let low = leb-true (stamp three mail) 40 t in let high = later in omega (arith, low, high)))
    ∙ ap (λ o. is_from (stamp three mail) o || (is_from (stamp three mail) (get (db_in changed_later).tombs mail) || false)) (db_tomb as_it_was doc_first mail)
    ∙ ap (λ o. is_from (stamp three mail) o || false) (db_tomb changed_later doc_changed mail)
  where
    rest : Bool
    rest = is_from (stamp three mail) (get (db_in as_it_was).tombs mail) || (is_from (stamp three mail) (get (db_in changed_later).tombs mail) || false)

mail_held : is_held three mail ≡ true
mail_held = held_by three (db_in as_it_was) mail (inr (inl refl))
    (or_left (contains_key (db_in as_it_was).entries mail) (contains_key (db_in as_it_was).groups mail) (some_is (get (db_in as_it_was).entries mail) first.versions first.entry))

mail_own : own three mail ≡ true
unfolding own
mail_own = or_right (is_id mail (root_of three)) (is_held three mail && not (buried three mail)) (and_both (is_held three mail) (not (buried three mail)) mail_held (not_false (buried three mail) not_buried))

-- ---- and is gone in the other

abbrev two : List Db
two = db_in moved ∷ db_in as_it_was ∷ []

two_part : IsPart two copies
two_part = (
  tt,
  λ m h. elim h [
    | inl p ↦ inr (inr (inl p))
    | inr i ↦ elim i [ inl p ↦ inl p | inr z ↦ absurd z ]
  ],
)

not_own : own two mail ≡ true → ⊥
not_own e = never 40 (sym ((alive_from_own example_agreed.compatible two two_part mail e).1 (db_in moved) (inl refl)) ∙ db_tomb moved doc_third mail)

not_kept : kept two mail ≡ false
not_kept = part_kept copies two example_agreed two_part mail ∙ is_false (own two mail) not_own

gone : get (join two).entries mail ≡ None
gone = join_entries two mail ∙ ap (λ b. cond b (gather (unite stats_join) (map (λ (m : Db). get m.entries mail) two)) None) not_kept

apart_databases : join three ≡ join (join two ∷ db_in changed_later ∷ []) → ⊥
apart_databases same =
    let is_kept = keeps three tt one_root sound mail mail mail_own (trail_head three _ mail) in
    let there = kept_version three (db_in as_it_was) mail first.versions first.mark first.stats (inr (inl refl)) is_kept first.entry first.version in
    let entry = ap (λ (m : Db). get m.entries mail) (sym same) ∙ there.entry in
    let T : List Db = join two ∷ db_in changed_later ∷ [] in
    found (kept T mail) there.versions there.stats there.version (sym (join_entries T mail) ∙ entry)
  where
    gathered : gather (unite stats_join) (get (join two).entries mail ∷ get (db_in changed_later).entries mail ∷ []) ≡ Some last.versions
    gathered =
        ap (λ o. gather (unite stats_join) (o ∷ get (db_in changed_later).entries mail ∷ [])) gone
        ∙ ap (λ o. gather (unite stats_join) (None ∷ o ∷ [])) last.entry

    found : (b : Bool) (v : Versions) (s : Stats) → get v first.mark ≡ Some s
        → cond b (gather (unite stats_join) (get (join two).entries mail ∷ get (db_in changed_later).entries mail ∷ [])) None ≡ Some v → ⊥
    found true v s h e =
        let is : v ≡ last.versions = same_Some v last.versions (sym e ∙ gathered) in
        let new = last.only first.mark s (ap (λ (w : Versions). get w first.mark) (sym is) ∙ h) in
        let old = first.only first.mark first.stats first.version in
        omega (arith, new, old)
    found false v s h e = never v e

pub deletions_count : ¬ DeletionsNeverCount
deletions_count law = apart_databases (law three but_deletions at_once one_by_one ((λ m h. h), (λ m h. h)) ((λ m h. h), (λ m h. h)))
