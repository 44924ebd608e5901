-- The two copies agree.
use Rattle.std.proofs.Common.{◌≡◌, ◌≤◌, ◌<◌, ◌+◌, ◌/◌, ◌⊎◌, get_or, nat_lt, inl, inr, ℕ, zero, suc, Bool, true, false, cond, if◌then◌else◌, List, [], ◌∷◌, ◌++◌, Option, Some, None, map, refl, sym, ap, subst, ◌∙◌, arith}
use Rattle.std.proofs.lemmas.Bool.Decides.{nat_tests}
use Rattle.std.specs.Prelude.{codes, not}
use Rattle.std.specs.FinMap.{get, contains_key}
use Rattle.std.specs.List.{filter}
use Rattle.vault_model.specs.declared.nodes.GroupState.{GroupState}
use Rattle.vault_model.specs.declared.nodes.Tombstone.{Tombstone}
use Rattle.vault_model.specs.Db.{NodeId, Mark, Versions, Place, Db, newest, state_time, stamp_in, Sound}
use Rattle.vault_model.specs.Join.{is_id, join, kept, latest, IsIn, Compatible, Agreed}
use Rattle.vault_model.specs.Shape.{BareVersion, EntryRecord, GroupRecord, Children}
use Rattle.vault_model.specs.Tree.{Tree, all_trees, child_rows, child_rows_all, id_of, ids_of, group_rows, IsDeep, IsDoc, FitsLevels, LEVELS, db_in}
use Rattle.vault_model.proofs.Ids.{same_id, is_same_id}
use Rattle.vault_model.proofs.Orders.{id_order, mark_order}
use Rattle.vault_model.proofs.Tests.{from_filter, from_map, greatest_below, in_either, is_false, some_of}
use Rattle.merge_core.proofs.Facts.{join_places, latest_found}
use Rattle.merge_core.proofs.Ranked.{ranked_agreed}
use Rattle.merge_core.proofs.SoundJoin.{cond_some}
use Rattle.merge_core.proofs.SoundDoc.{IsKid, version_marks, entry_at, group_at, place_kid, db_tomb, db_root, document_sound}
use Rattle.merge_core.proofs.Tables.{find_in}
use Rattle.merge_core.proofs.Unite.{from_keys}
use Rattle.merge_twins.specs.Twins.{Rules, entry_id, entry_with, first_rules, first_twin, group_id, group_tree, noted_version, number_id, numbers, root_id, row_of, second_rules, second_twin, tomb_of, twin, twin_tombs, twin_tree}
use Rattle.merge_twins.proofs.Documents.{entry_of, entry_row, first_document, group_row, groups_from, ids_in, second_document}
use Rattle.merge_twins.proofs.Numbers.{in_range, is_short, not_root, same_number}

-- ---- ids and their kinds

-- an id is a group's
abbrev IsGroupId : NodeId → Type 0
IsGroupId u = (g : ℕ) × ((g < 16) × (group_id g ≡ u))

-- an id is an entry's
abbrev IsEntryId : NodeId → Type 0
IsEntryId u = (i : ℕ) × ((i < 50000) × (entry_id i ≡ u))

abbrev group_ids : List NodeId
group_ids = map group_id (numbers 16)

entry_group : (u : NodeId) → IsEntryId u → IsGroupId u → ⊥
entry_group u e g =
    let few = e.1.0 in
    let low = g.1.0 in
    let same = same_number (1000 + e.0) (g.0 + 1) (omega arith) (omega arith) (e.1.1 ∙ sym g.1.1) in
    omega arith

entry_root : (u : NodeId) → IsEntryId u → u ≡ root_id → ⊥
entry_root u e p = let few = e.1.0 in not_root (1000 + e.0) (omega arith) (sym p ∙ sym e.1.1)

group_root : (u : NodeId) → IsGroupId u → u ≡ root_id → ⊥
group_root u g p = let low = g.1.0 in not_root (g.0 + 1) (omega arith) (sym p ∙ sym g.1.1)

-- the root is above the groups, and those are above the entries, whose numbers are larger
abbrev rank : NodeId → ℕ
rank u = cond (is_id u root_id) 0 (cond (nat_lt (get_or u 14 0) 3) 1 2)

not_root_id : (u : NodeId) → (u ≡ root_id → ⊥) → is_id u root_id ≡ false
not_root_id u off = is_false (is_id u root_id) (λ e. off (same_id u root_id e))

high_byte : (n : ℕ) (u : NodeId) → n < 65536 → number_id n ≡ u → get_or u 14 0 ≡ n / 256
high_byte n u few p = ap (λ (v : NodeId). get_or v 14 0) (sym p ∙ is_short n few)

rank_root : (u : NodeId) → u ≡ root_id → rank u ≡ 0
rank_root u p = ap (λ b. cond b 0 (cond (nat_lt (get_or u 14 0) 3) 1 2)) (is_same_id u root_id p)

rank_group : (u : NodeId) → IsGroupId u → rank u ≡ 1
rank_group u g =
    let low = g.1.0 in
    let off = not_root_id u (group_root u g) in
    let high = high_byte (g.0 + 1) u (omega arith) g.1.1 in
    grind (arith, nat_tests)

rank_entry : (u : NodeId) → IsEntryId u → rank u ≡ 2
rank_entry u e =
    let few = e.1.0 in
    let off = not_root_id u (entry_root u e) in
    let high = high_byte (1000 + e.0) u (omega arith) e.1.1 in
    grind (arith, nat_tests)

-- ---- one copy

-- no version is later than a tombstone
abbrev IsEarly : EntryRecord → Type 0
IsEarly e = (v : BareVersion) → IsIn v (e.current ∷ e.history) → v.mark.modified ≤ 900000

early : (b : Bool) (i placed time : ℕ) (notes : List ℕ) → time ≤ 900000 → IsEarly (entry_with i placed (if b then Some (noted_version i time notes) else None))
early true i placed time notes low v (inl p) = let same : time ≡ v.mark.modified = ap (λ (w : BareVersion). w.mark.modified) p in omega arith
early true i placed time notes low v (inr (inl p)) = let same : 1000 ≡ v.mark.modified = ap (λ (w : BareVersion). w.mark.modified) p in omega arith
early true i placed time notes low v (inr (inr h)) = absurd h
early false i placed time notes low v (inl p) = let same : 1000 ≡ v.mark.modified = ap (λ (w : BareVersion). w.mark.modified) p in omega arith
early false i placed time notes low v (inr h) = absurd h

-- What is asked of the rules of a copy.
record AreFine (rules : Rules) (count : ℕ) : Type 0 where
  doc : IsDoc (twin rules count)
  early : (i : ℕ) → i < 50000 → IsEarly (row_of rules i).1

-- the children of groups side by side
children_among : (ts : List Tree) (e : NodeId × Children) → IsIn e (child_rows_all (all_trees ts)) → (t : Tree) × (IsIn t ts × IsIn e (child_rows t))
children_among [] e h = absurd h
children_among (t ∷ ts) e h =
    elim (in_either (child_rows t) (child_rows_all (all_trees ts)) e h) [
      | inl k ↦ (t, (inl refl, k))
      | inr k ↦ let f = children_among ts e k in (f.0, (inr f.1.0, f.1.1))
    ]

ids_among : (ts : List Tree) (u : NodeId) → IsIn u (ids_of (all_trees ts)) → (t : Tree) × (IsIn t ts × (id_of t ≡ u))
ids_among [] u h = absurd h
ids_among (t ∷ ts) u (inl p) = (t, (inl refl, p))
ids_among (t ∷ ts) u (inr h) = let f = ids_among ts u h in (f.0, (inr f.1.0, f.1.1))

module _ (rules : Rules) (count : ℕ) (few : count ≤ 50000) where
  -- a group below the root
  group_number : (t : Tree) → IsIn t (map (group_tree rules count) (numbers 16)) → (g : ℕ) × ((g < 16) × (group_tree rules count g ≡ t))
  group_number t h =
      let f = from_map (group_tree rules count) (numbers 16) t h in
      let r = in_range 0 16 f.0 f.1.0 in
      let high = r.1 in
      (f.0, (omega arith, f.1.1))

  -- a node that is placed is a group in the root, or an entry in a group
  abbrev IsPlaced : NodeId → NodeId → Type 0
  IsPlaced parent u = ((parent ≡ root_id) × IsGroupId u) ⊎ (IsGroupId parent × IsEntryId u)

  abbrev root_row : NodeId × Children
  root_row = (root_id, record { entries = []; groups = ids_of (groups_from rules count 0 16) })

  abbrev row_in : ℕ → NodeId × Children
  row_in n = (group_id n, record { entries = ids_in rules count n; groups = [] })

  in_root : (g u : NodeId) (c : Children) → root_row ≡ (g, c)
      → IsIn u (c.entries ++ c.groups) → IsPlaced g u
  in_root g u c p h =
      let here : IsIn u (ids_of (groups_from rules count 0 16)) = subst (λ (r : NodeId × Children). IsIn u (r.1.entries ++ r.1.groups)) (sym p) h in
      let t = ids_among (map (group_tree rules count) (numbers 16)) u here in
      let n = group_number t.0 t.1.0 in
      inl (ap (λ (r : NodeId × Children). r.0) (sym p), (n.0, (n.1.0, ap id_of n.1.1 ∙ t.1.1)))

  in_group : (n : ℕ) (g u : NodeId) (c : Children) → n < 16 → row_in n ≡ (g, c)
      → IsIn u (c.entries ++ c.groups) → IsPlaced g u
  in_group n g u c low p h =
      let here : IsIn u (ids_in rules count n ++ []) = subst (λ (r : NodeId × Children). IsIn u (r.1.entries ++ r.1.groups)) (sym p) h in
      elim (in_either (ids_in rules count n) [] u here) [
        | inl k ↦
            let e = entry_of rules count n u k in
            let less = e.few in
            inr ((n, (low, ap (λ (r : NodeId × Children). r.0) p)), (e.number, (omega arith, e.id)))
        | inr k ↦ absurd k
      ]

  kid : (g u : NodeId) → IsKid (child_rows (twin_tree rules count)) g u → IsPlaced g u
  kid g u (c, (inl p, h)) = in_root g u c p h
  kid g u (c, (inr i, h)) =
      let t = children_among (map (group_tree rules count) (numbers 16)) (g, c) i in
      let n = group_number t.0 t.1.0 in
      elim (subst (λ (s : Tree). IsIn (g, c) (child_rows s)) (sym n.1.1) t.1.1) [
        | inl p ↦ in_group n.0 g u c n.1.0 p h
        | inr k ↦ absurd k
      ]

  module _ (f : AreFine rules count) where
    abbrev db : Db
    db = db_in (twin rules count)

    entry_key : (u : NodeId) → contains_key db.entries u ≡ true → IsEntryId u
    entry_key u e =
        let v = some_of (get db.entries u) e in
        let r = entry_at (twin rules count) f.doc u v.0 v.1 in
        let n = (entry_row rules count few (u, r.0) r.1.0).1.1 in
        let less = n.few in
        (n.number, (omega arith, ap (λ (row : NodeId × EntryRecord). row.0) n.is))

    group_record : (u : NodeId) (r : GroupRecord) → IsIn (u, r) (group_rows (twin_tree rules count)) → ((u ≡ root_id) ⊎ IsGroupId u) × (r.state.modified ≡ 1000)
    group_record u r (inl p) = (inl (ap (λ (row : NodeId × GroupRecord). row.0) (sym p)), ap (λ (row : NodeId × GroupRecord). row.1.state.modified) (sym p))
    group_record u r (inr h) =
        let g = group_row rules count few (u, r) h in
        elim g.1.1 [
          | inl p ↦ (
            inr (g.0, (g.1.0, ap (λ (row : NodeId × GroupRecord). row.0) p)),
            ap (λ (row : NodeId × GroupRecord). row.1.state.modified) (sym p),
          )
          | inr k ↦ absurd k
        ]

    group_key : (u : NodeId) → contains_key db.groups u ≡ true → (u ≡ root_id) ⊎ IsGroupId u
    group_key u e =
        let g = some_of (get db.groups u) e in
        let r = group_at (twin rules count) f.doc u g.0 g.1 in
        (group_record u r.0 r.1.0).0

    place_is : (u : NodeId) (p : Place) → get db.places u ≡ Some p → IsPlaced p.parent u
    place_is u p e = kid p.parent u (place_kid (twin rules count) f.doc u p e)

    falls : (u : NodeId) (p : Place) → get db.places u ≡ Some p → rank p.parent < rank u
    falls u p e =
        elim (place_is u p e) [
          | inl h ↦ let a = rank_root p.parent h.0 in let b = rank_group u h.1 in omega arith
          | inr h ↦ let a = rank_group p.parent h.0 in let b = rank_entry u h.1 in omega arith
        ]

    tomb_is : (u : NodeId) (n : ℕ) → get db.tombs u ≡ Some n → IsEntryId u × (n ≡ 900000)
    tomb_is u n e =
        let row = find_in id_order.total id_order.same (map (λ (t : Tombstone). (t.id, t.deleted)) (twin_tombs rules count)) u n (sym (db_tomb (twin rules count) f.doc u) ∙ e) in
        let t = from_map (λ (t : Tombstone). (t.id, t.deleted)) (twin_tombs rules count) (u, n) row in
        let gone = λ (i : ℕ). not (rules.is_there i) in
        let i = from_map tomb_of (filter gone (numbers count)) t.0 t.1.0 in
        let r = in_range 0 count i.0 (from_filter gone (numbers count) i.0 i.1.0).0 in
        let high = r.1 in
        let named = ap (λ (x : NodeId × ℕ). x.0) t.1.1 in
        let time = ap (λ (x : NodeId × ℕ). x.1) t.1.1 in (
          (i.0, (omega arith, ap (λ (s : Tombstone). s.id) i.1.1 ∙ named)),
          sym time ∙ ap (λ (s : Tombstone). s.deleted) (sym i.1.1),
        )

    newest_early : (u : NodeId) (o : Option Versions) → get db.entries u ≡ o → newest o ≤ 900000
    newest_early u None e = omega arith
    newest_early u (Some v) e =
        greatest_below _ 900000 (λ n h.
        let k = from_map (λ (m : Mark). m.modified) _ n h in
        let s = some_of (get v k.0) (from_keys mark_order.total mark_order.same v k.0 k.1.0) in
        let r = entry_at (twin rules count) f.doc u v e in
        let w = version_marks r.0 k.0 s.0 (ap (λ (x : Versions). get x k.0) r.1.1 ∙ s.1) in
        let i = (entry_row rules count few (u, r.0) r.1.0).1.1 in
        let less = i.few in
        let low = subst (λ (row : NodeId × EntryRecord). IsEarly row.1) i.is (f.early i.number (omega arith)) w.0 w.1.0 in
        let same : k.0.modified ≡ w.0.mark.modified = ap (λ (m : Mark). m.modified) w.1.1 in
        let is = k.1.1 in
        omega (arith, low, same, is))

    state_early : (u : NodeId) (o : Option GroupState) → get db.groups u ≡ o → state_time o ≤ 900000
    state_early u None e = omega arith
    state_early u (Some g) e =
        let r = group_at (twin rules count) f.doc u g e in
        let at = (group_record u r.0 r.1.0).1 in
        let same : r.0.state.modified ≡ g.modified = ap (λ (x : GroupState). x.modified) r.1.1 in
        omega (arith, at, same)

    stamp_early : (u : NodeId) → stamp_in db u ≤ 900000
    unfolding stamp_in
    stamp_early u =
        let a = newest_early u (get db.entries u) refl in
        let b = state_early u (get db.groups u) refl in
        omega (arith, a, b)

-- ---- both copies

module _ (count : ℕ) (few : count ≤ 50000) where
  abbrev copies : List Db
  copies = db_in (first_twin count) ∷ db_in (second_twin count) ∷ []

  first_fine : AreFine first_rules count
  first_fine = record {
    doc = first_document count few;
    early = λ i less. early _ i _ (2000 + i) (codes "a") (omega arith);
  }

  second_fine : AreFine second_rules count
  second_fine = record {
    doc = second_document count few;
    early = λ i less. early _ i 1000 (2001 + i) (codes "b") (omega arith);
  }

  fine_of : (m : Db) → IsIn m copies → (rules : Rules) × (AreFine rules count × (db_in (twin rules count) ≡ m))
  fine_of m (inl p) = (first_rules, (first_fine, p))
  fine_of m (inr (inl p)) = (second_rules, (second_fine, p))
  fine_of m (inr (inr h)) = absurd h

  compatible : Compatible copies
  compatible = record {
    sound = λ m h. let f = fine_of m h in subst Sound f.1.1 (document_sound (twin f.0 count) f.1.0.doc);
    root = λ m h.
        let f = fine_of m h in
        ap (λ (x : Db). x.root) (sym f.1.1) ∙ db_root (twin f.0 count) f.1.0.doc ∙ sym (db_root (first_twin count) first_fine.doc);
    kinds = λ m n u h i e.
        let f = fine_of m h in
        let g = fine_of n i in
        let entry = entry_key f.0 count few f.1.0 u (ap (λ (x : Db). contains_key x.entries u) f.1.1 ∙ e) in
        ap (λ (x : Db). contains_key x.groups u) (sym g.1.1)
        ∙ is_false (contains_key (db_in (twin g.0 count)).groups u) (λ t.
        elim (group_key g.0 count few g.1.0 u t) [ inl p ↦ entry_root u entry p | inr k ↦ entry_group u entry k ]);
    tombs = λ m n u d h i e.
        let f = fine_of m h in
        let g = fine_of n i in
        let late = (tomb_is f.0 count few f.1.0 u d (ap (λ (x : Db). get x.tombs u) f.1.1 ∙ e)).1 in
        let low = subst (λ (x : Db). stamp_in x u ≤ 900000) g.1.1 (stamp_early g.0 count few g.1.0 u) in
        omega (arith, late, low);
  }

  falls_each : (m : Db) (u : NodeId) (p : Place) → IsIn m copies → get m.places u ≡ Some p → rank p.parent < rank u
  falls_each m u p h e =
      let f = fine_of m h in
      falls f.0 count few f.1.0 u p (ap (λ (x : Db). get x.places u) f.1.1 ∙ e)

  pub twins_agree : Agreed copies
  twins_agree =
      ranked_agreed copies compatible
      (λ m n u p d h i e t.
      let f = fine_of m h in
      let g = fine_of n i in
      let entry = (tomb_is g.0 count few g.1.0 p.parent d (ap (λ (x : Db). get x.tombs p.parent) g.1.1 ∙ t)).0 in
      absurd (elim (place_is f.0 count few f.1.0 u p (ap (λ (x : Db). get x.places u) f.1.1 ∙ e)) [
        | inl k ↦ entry_root p.parent entry k.0
        | inr k ↦ entry_group p.parent entry k.0
      ]))
      rank falls_each

  -- each step down from the root is one to a higher rank
  deep : (d : ℕ) (u : NodeId) → IsDeep (join copies) d u → d ≤ rank u
  deep zero u h = omega arith
  deep (suc d) u h =
      let p = h.0 in
      let found = latest_found copies u p (cond_some (kept copies u) (latest copies u) p (sym (join_places copies u) ∙ h.1)).1 in
      let less = falls_each found.0 u p found.1.0 found.1.1 in
      let rest = deep d p.parent h.2 in
      omega (arith, less, rest)

  few_ranks : (a b : Bool) → cond a 0 (cond b 1 2) ≤ 2
  few_ranks true b = omega arith
  few_ranks false true = omega arith
  few_ranks false false = omega arith

  pub twins_fit : FitsLevels LEVELS (join copies)
  twins_fit d u there h =
      let above = deep d u h in
      let below = few_ranks (is_id u root_id) (nat_lt (get_or u 14 0) 3) in
      omega (arith, above, below)
