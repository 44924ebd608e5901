-- Each copy keeps what every document keeps.
use Rattle.std.proofs.Common.{◌≡◌, ◌<◌, ◌≤◌, ◌+◌, ◌==◌, ◌⊎◌, inl, inr, ℕ, zero, suc, Bool, true, false, not, cond, List, [], ◌∷◌, ◌++◌, map, refl, sym, ap, subst, ◌∙◌, arith}
use Rattle.std.proofs.lemmas.Bool.Decides.{nat_tests}
use Rattle.std.specs.List.{list_all, list_any, filter, range_with_len}
use Rattle.std.specs.Ordering.{is_lt}
use Rattle.vault_model.specs.declared.nodes.Tombstone.{Tombstone}
use Rattle.vault_model.specs.Db.{NodeId, nil_id}
use Rattle.vault_model.specs.Empty.{new_group}
use Rattle.vault_model.specs.Join.{is_id, IsIn}
use Rattle.vault_model.specs.Orders.{bytes_cmp}
use Rattle.vault_model.specs.Proper.{rises, is_proper_group_content}
use Rattle.vault_model.specs.Shape.{EntryRecord, GroupRecord}
use Rattle.vault_model.specs.Tree.{Tree, Trees, all_trees, entry_rows, group_rows, group_rows_all, is_elsewhere, is_proper_entry, IsDoc, node_ids, node_ids_all}
use Rattle.vault_model.proofs.Tests.{and_both, not_true, not_false, apart, in_either, from_filter, from_map, map_map}
use Rattle.merge_core.proofs.Distinct.{distinct_both, distinct_to, in_all, not_among}
use Rattle.merge_core.proofs.SoundDoc.{AreDistinct}
use Rattle.merge_core.proofs.TreeShape.{entries_among, groups_among}
use Rattle.merge_twins.specs.Twins.{Rules, entries_in, entry_id, first_rules, first_twin, group_id, group_tree, number_id, numbers, root_id, row_of, second_rules, second_twin, tomb_of, twin, twin_tombs, twin_tree}
use Rattle.merge_twins.proofs.Contents.{first_proper, second_proper, root_proper, group_proper, meta_text}
use Rattle.merge_twins.proofs.Lists.{distinct_left}
use Rattle.merge_twins.proofs.Numbers.{same_number, not_root, nil_number, number_less, in_range}

-- ---- numbers that follow one another

numbers_distinct : (a n : ℕ) → a + n ≤ 50000 → AreDistinct (map entry_id (range_with_len a n))
numbers_distinct a zero few = tt
numbers_distinct a (suc n) few = (
  not_among (entry_id a) (map entry_id (range_with_len (a + 1) n)) (λ h.
      let g = from_map entry_id (range_with_len (a + 1) n) (entry_id a) h in
      let r = in_range (a + 1) n g.0 g.1.0 in
      let low = r.0 in
      let high = r.1 in
      let same = same_number (1000 + g.0) (1000 + a) (omega arith) (omega arith) g.1.1 in
      omega arith),
  numbers_distinct (a + 1) n (omega arith),
)

abbrev tombs_rise : List ℕ → Bool
tombs_rise xs = rises (λ (t : Tombstone). t.id) (map tomb_of xs)

one_rises : (b : Bool) (a : ℕ) (xs : List ℕ) → ((i : ℕ) → IsIn i xs → (a < i) × (i < 50000)) → tombs_rise xs ≡ true → tombs_rise (cond b (a ∷ xs) xs) ≡ true
one_rises true a xs later rest =
    and_both (list_all (λ (t : Tombstone). is_lt (bytes_cmp (entry_id a) t.id)) (map tomb_of xs)) (tombs_rise xs)
    (in_all (λ (t : Tombstone). is_lt (bytes_cmp (entry_id a) t.id)) (map tomb_of xs) (λ t h.
    let g = from_map tomb_of xs t h in
    let l = later g.0 g.1.0 in
    let less = l.0 in
    let few = l.1 in
    subst (λ (s : Tombstone). is_lt (bytes_cmp (entry_id a) s.id) ≡ true) g.1.1
    (number_less (1000 + a) (1000 + g.0) (omega arith) (omega arith))))
    rest
one_rises false a xs later rest = rest

numbers_rise : (test : ℕ → Bool) (a n : ℕ) → a + n ≤ 50000 → tombs_rise (filter test (range_with_len a n)) ≡ true
numbers_rise test a zero few = refl
numbers_rise test a (suc n) few =
    one_rises (test a) a (filter test (range_with_len (a + 1) n))
    (λ i h.
    let r = in_range (a + 1) n i (from_filter test (range_with_len (a + 1) n) i h).0 in
    let low = r.0 in
    let high = r.1 in
    (omega arith, omega arith))
    (numbers_rise test (a + 1) n (omega arith))

-- ---- the nodes of a copy

-- A row is that of an entry of a group.
pub record IsRowOf (rules : Rules) (count g : ℕ) (row : NodeId × EntryRecord) : Type 0 where
  pub number : ℕ
  pub few : number < count
  pub there : rules.is_there number ≡ true
  pub place : (rules.group number == g) ≡ true
  pub is : row_of rules number ≡ row

-- An id is that of an entry of a group.
pub record IsEntryOf (rules : Rules) (count g : ℕ) (u : NodeId) : Type 0 where
  pub number : ℕ
  pub few : number < count
  pub there : rules.is_there number ≡ true
  pub place : (rules.group number == g) ≡ true
  pub id : entry_id number ≡ u

-- the ids of the entries of a group
abbrev pub ids_in : Rules → ℕ → ℕ → List NodeId
ids_in rules count g = map (λ (e : NodeId × EntryRecord). e.0) (entries_in rules count g)

-- some groups of a copy, side by side
abbrev pub groups_from : Rules → ℕ → ℕ → ℕ → Trees
groups_from rules count a n = all_trees (map (group_tree rules count) (range_with_len a n))

module _ (rules : Rules) (count : ℕ) where
  pub in_group : (g : ℕ) (row : NodeId × EntryRecord) → IsIn row (entries_in rules count g) → IsRowOf rules count g row
  in_group g row h =
      let f = from_map (row_of rules) (filter (λ i. rules.group i == g) (filter rules.is_there (numbers count))) row h in
      let p = from_filter (λ i. rules.group i == g) (filter rules.is_there (numbers count)) f.0 f.1.0 in
      let t = from_filter rules.is_there (numbers count) f.0 p.0 in
      let r = in_range 0 count f.0 t.0 in
      let high = r.1 in
      record { number = f.0; few = omega arith; there = t.1; place = p.1; is = f.1.1 }

  pub entry_of : (g : ℕ) (u : NodeId) → IsIn u (ids_in rules count g) → IsEntryOf rules count g u
  entry_of g u h =
      let f = from_map (λ (e : NodeId × EntryRecord). e.0) (entries_in rules count g) u h in
      let r = in_group g f.0 f.1.0 in
      record {
        number = r.number;
        few = r.few;
        there = r.there;
        place = r.place;
        id = ap (λ (e : NodeId × EntryRecord). e.0) r.is ∙ f.1.1;
      }

  -- An id is that of a group, or of an entry in it.
  abbrev pub IsOf : ℕ → NodeId → Type 0
  IsOf g u = (group_id g ≡ u) ⊎ IsEntryOf rules count g u

  pub group_node : (g : ℕ) (u : NodeId) → IsIn u (node_ids (group_tree rules count g)) → IsOf g u
  group_node g u (inl p) = inl p
  group_node g u (inr h) = elim (in_either (ids_in rules count g) [] u h) [ inl k ↦ inr (entry_of g u k) | inr k ↦ absurd k ]

  pub nodes_of : (a n : ℕ) (u : NodeId) → IsIn u (node_ids_all (groups_from rules count a n)) → (g : ℕ) × (((a ≤ g) × (g < a + n)) × IsOf g u)
  nodes_of a zero u h = absurd h
  nodes_of a (suc n) u h =
      elim (in_either (node_ids (group_tree rules count a)) (node_ids_all (groups_from rules count (a + 1) n)) u h) [
        | inl k ↦ (a, ((omega arith, omega arith), group_node a u k))
        | inr k ↦
            let m = nodes_of (a + 1) n u k in
            let low = m.1.0.0 in
            let high = m.1.0.1 in
            (m.0, ((omega arith, omega arith), m.1.1))
      ]

module _ (rules : Rules) (count : ℕ) (few : count ≤ 50000) where
  pub entry_is : (n g : ℕ) → n < 65536 → (e : IsEntryOf rules count g (number_id n)) → 1000 + e.number ≡ n
  entry_is n g small e = let less = e.few in same_number (1000 + e.number) n (omega arith) small e.id

  pub group_is : (n g : ℕ) → n < 65536 → g < 16 → group_id g ≡ number_id n → g + 1 ≡ n
  group_is n g small low p = same_number (g + 1) n (omega arith) small p

  -- a node is in one group
  one_group : (g h : ℕ) (u : NodeId) → g < 16 → h < 16 → IsOf rules count g u → IsOf rules count h u → g ≡ h
  one_group g h u low low' (inl p) (inl q) = let same = same_number (g + 1) (h + 1) (omega arith) (omega arith) (p ∙ sym q) in omega arith
  one_group g h u low low' (inl p) (inr q) =
      let less = q.few in
      let same = same_number (g + 1) (1000 + q.number) (omega arith) (omega arith) (p ∙ sym q.id) in
      absurd (omega arith)
  one_group g h u low low' (inr p) (inl q) =
      let less = p.few in
      let same = same_number (h + 1) (1000 + p.number) (omega arith) (omega arith) (q ∙ sym p.id) in
      absurd (omega arith)
  one_group g h u low low' (inr p) (inr q) =
      let less = p.few in
      let less' = q.few in
      let sum = same_number (1000 + p.number) (1000 + q.number) (omega arith) (omega arith) (p.id ∙ sym q.id) in
      let same : p.number ≡ q.number = omega arith in
      in_both (rules.group p.number) (rules.group q.number) (ap rules.group same) p.place q.place
    where
      in_both : (m n : ℕ) → m ≡ n → (m == g) ≡ true → (n == h) ≡ true → g ≡ h
      in_both m n same here there = grind (arith, nat_tests)

  entries_distinct : (g : ℕ) → AreDistinct (ids_in rules count g)
  entries_distinct g =
      let there = filter rules.is_there (numbers count) in
      subst AreDistinct
      (sym (map_map (row_of rules) (λ (e : NodeId × EntryRecord). e.0) (filter (λ i. rules.group i == g) there)))
      (distinct_left entry_id (λ i. rules.group i == g) there
      (distinct_left entry_id rules.is_there (numbers count) (numbers_distinct 0 count (omega arith))))

  group_distinct : (g : ℕ) → g < 16 → AreDistinct (node_ids (group_tree rules count g))
  group_distinct g low = (
    not_among (group_id g) (ids_in rules count g ++ []) (λ h.
        elim (in_either (ids_in rules count g) [] (group_id g) h) [
          | inl k ↦ let sum = entry_is (g + 1) g (omega arith) (entry_of rules count g (group_id g) k) in omega arith
          | inr k ↦ k
        ]),
    distinct_both (ids_in rules count g) [] (entries_distinct g) tt (λ u h k. k),
  )

  groups_distinct : (a n : ℕ) → a + n ≤ 16 → AreDistinct (node_ids_all (groups_from rules count a n))
  groups_distinct a zero low = tt
  groups_distinct a (suc n) low =
      distinct_both (node_ids (group_tree rules count a)) (node_ids_all (groups_from rules count (a + 1) n))
      (group_distinct a (omega arith)) (groups_distinct (a + 1) n (omega arith))
      (λ u h k.
      let m = nodes_of rules count (a + 1) n u k in
      let above = m.1.0.0 in
      let below = m.1.0.1 in
      let same = one_group a m.0 u (omega arith) (omega arith) (group_node rules count a u h) m.1.1 in
      omega arith)

  -- an id that is neither a group's nor an entry's is none of a copy's
  root_apart : IsIn root_id (node_ids_all (groups_from rules count 0 16)) → ⊥
  root_apart h =
      let m = nodes_of rules count 0 16 root_id h in
      let below = m.1.0.1 in
      elim m.1.1 [
        | inl p ↦ not_root (m.0 + 1) (omega arith) (sym p)
        | inr q ↦ let less = q.few in not_root (1000 + q.number) (omega arith) (sym q.id)
      ]

  elsewhere : (n : ℕ) → n < 65536 → ((g : ℕ) → g < 16 → IsOf rules count g (number_id n) → ⊥) → is_elsewhere (twin_tree rules count) (number_id n) ≡ true
  elsewhere n small off =
      not_false (list_any (is_id (number_id n)) (node_ids (twin_tree rules count)))
      (not_among (number_id n) (node_ids (twin_tree rules count)) (λ h.
      elim h [
        | inl p ↦ not_root n small p
        | inr k ↦ let m = nodes_of rules count 0 16 (number_id n) k in let below = m.1.0.1 in off m.0 (omega arith) m.1.1
      ]))

  no_nil : is_elsewhere (twin_tree rules count) nil_id ≡ true
  no_nil =
      subst (λ (u : NodeId). is_elsewhere (twin_tree rules count) u ≡ true) (sym nil_number)
      (elsewhere 0 (omega arith) (λ g low o.
      elim o [
        | inl p ↦ let sum = group_is 0 g (omega arith) low p in omega arith
        | inr q ↦ let sum = entry_is 0 g (omega arith) q in omega arith
      ]))

  gone : (i : ℕ) → i < count → rules.is_there i ≡ false → is_elsewhere (twin_tree rules count) (entry_id i) ≡ true
  gone i less not_there =
      elsewhere (1000 + i) (omega arith) (λ g low o.
      elim o [
        | inl p ↦ let sum = group_is (1000 + i) g (omega arith) low p in omega arith
        | inr q ↦
            let sum = entry_is (1000 + i) g (omega arith) q in
            let same : q.number ≡ i = omega arith in
            apart (rules.is_there i) (ap rules.is_there (sym same) ∙ q.there) not_there
      ])

  tombs_apart : list_all (λ (t : Tombstone). is_elsewhere (twin_tree rules count) t.id) (twin_tombs rules count) ≡ true
  tombs_apart =
      in_all (λ (t : Tombstone). is_elsewhere (twin_tree rules count) t.id) (twin_tombs rules count) (λ t h.
      let f = from_map tomb_of (filter (λ i. not (rules.is_there i)) (numbers count)) t h in
      let k = from_filter (λ i. not (rules.is_there i)) (numbers count) f.0 f.1.0 in
      let r = in_range 0 count f.0 k.0 in
      let high = r.1 in
      subst (λ (s : Tombstone). is_elsewhere (twin_tree rules count) s.id ≡ true) f.1.1
      (gone f.0 (omega arith) (not_true (rules.is_there f.0) k.1)))

  -- ---- what the nodes say

  pub entry_row : (e : NodeId × EntryRecord) → IsIn e (entry_rows (twin_tree rules count)) → (g : ℕ) × ((g < 16) × IsRowOf rules count g e)
  entry_row e h =
      let t = entries_among (map (group_tree rules count) (numbers 16)) e h in
      let f = from_map (group_tree rules count) (numbers 16) t.0 t.1.0 in
      let r = in_range 0 16 f.0 f.1.0 in
      let high = r.1 in
      let here = subst (λ (s : Tree). IsIn e (entry_rows s)) (sym f.1.1) t.1.1 in
      (f.0, (omega arith, elim (in_either (entries_in rules count f.0) [] e here) [ inl k ↦ in_group rules count f.0 e k | inr k ↦ absurd k ]))

  pub group_row : (e : NodeId × GroupRecord) → IsIn e (group_rows_all (groups_from rules count 0 16))
      → (g : ℕ) × ((g < 16) × IsIn e (group_rows (group_tree rules count g)))
  group_row e h =
      let t = groups_among (map (group_tree rules count) (numbers 16)) e h in
      let f = from_map (group_tree rules count) (numbers 16) t.0 t.1.0 in
      let r = in_range 0 16 f.0 f.1.0 in
      let high = r.1 in
      (f.0, (omega arith, subst (λ (s : Tree). IsIn e (group_rows s)) (sym f.1.1) t.1.1))

  entries_proper : ((i : ℕ) → i < 50000 → is_proper_entry (row_of rules i).1 ≡ true)
      → list_all (λ (r : NodeId × EntryRecord). is_proper_entry r.1) (entry_rows (twin_tree rules count)) ≡ true
  entries_proper proper =
      in_all (λ (r : NodeId × EntryRecord). is_proper_entry r.1) (entry_rows (twin_tree rules count)) (λ e h.
      let r = (entry_row e h).1.1 in
      let less = r.few in
      subst (λ (row : NodeId × EntryRecord). is_proper_entry row.1 ≡ true) r.is (proper r.number (omega arith)))

  one_group_proper : (g : ℕ) (e : NodeId × GroupRecord) → g < 16 → IsIn e (group_rows (group_tree rules count g)) → is_proper_group_content e.1.state.content ≡ true
  one_group_proper g e low (inl p) = subst (λ (r : NodeId × GroupRecord). is_proper_group_content r.1.state.content ≡ true) p (group_proper g low)
  one_group_proper g e low (inr h) = absurd h

  groups_proper : list_all (λ (r : NodeId × GroupRecord). is_proper_group_content r.1.state.content) (group_rows (twin_tree rules count)) ≡ true
  groups_proper =
      and_both (is_proper_group_content (new_group _ 1000).state.content)
      (list_all (λ (r : NodeId × GroupRecord). is_proper_group_content r.1.state.content) (group_rows_all (groups_from rules count 0 16)))
      root_proper
      (in_all (λ (r : NodeId × GroupRecord). is_proper_group_content r.1.state.content) (group_rows_all (groups_from rules count 0 16)) (λ e h.
      let r = group_row e h in one_group_proper r.0 e r.1.0 r.1.1))

  twin_document : ((i : ℕ) → i < 50000 → is_proper_entry (row_of rules i).1 ≡ true) → IsDoc (twin rules count)
  twin_document proper = record {
    distinct = distinct_to (node_ids (twin_tree rules count))
        (not_among root_id (node_ids_all (groups_from rules count 0 16)) root_apart, groups_distinct 0 16 (omega arith));
    no_nil = no_nil;
    levels = omega arith;
    tombs_rise = numbers_rise (λ i. not (rules.is_there i)) 0 count (omega arith);
    tombs_apart = tombs_apart;
    entries_proper = entries_proper proper;
    groups_proper = groups_proper;
    icons_rise = refl;
    items_rise = refl;
    meta_texts = meta_text;
  }

pub first_document : (count : ℕ) → count ≤ 50000 → IsDoc (first_twin count)
first_document count few = twin_document first_rules count few first_proper

pub second_document : (count : ℕ) → count ≤ 50000 → IsDoc (second_twin count)
second_document count few = twin_document second_rules count few second_proper
