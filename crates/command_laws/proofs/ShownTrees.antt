-- Documents that differ in the history of an entry alone are alike in what is current.
use Rattle.std.proofs.Common.{◌≡◌, Bool, true, false, cond, inl, inr, List, [], ◌∷◌, ◌++◌, Option, Some, None, map, refl, sym, ap, ◌∙◌}
use Rattle.std.specs.FinMap.{entries, find, from_entries, get, keys}
use Rattle.std.specs.List.{flat_map}
use Rattle.std.specs.Option.{option_map}
use Rattle.vault_model.specs.Db.{NodeId, Versions, id_cmp}
use Rattle.vault_model.specs.Unite.{tabulate}
use Rattle.vault_model.specs.Join.{is_id}
use Rattle.vault_model.specs.Shape.{Children, EntryRecord, GroupRecord, Stay, db_of, place_at, place_rows, stay_of, stay_or, versions_of}
use Rattle.vault_model.specs.Tree.{BareDoc, IsDoc, Tree, Trees, beside, child_rows, child_rows_all, db_in, entry_rows, entry_rows_all, group_rows, group_rows_all, id_of, ids_of, node, none, shape_of}
use Rattle.vault_model.proofs.Tests.{decide, map_append}
use Rattle.merge_core.proofs.Laid.{db_entries}
use Rattle.merge_core.proofs.SoundDoc.{shape_entry}
use Rattle.tree_core.specs.Changes.{changed_at, changed_entry, changed_in, has_group, with_changed}
use Rattle.history_laws.specs.Current.{current_view, current}
use Rattle.history_laws.proofs.CurrentJoin.{same_view}
use Rattle.history_laws.proofs.Newest.{currents}
use Rattle.command_laws.specs.Growing.{IsAlike, RelabelShows}

-- since when an entry is where it is, and what of it is current
record Shown : Type 0 where
  stay : Stay
  now : Versions

abbrev shown_of : EntryRecord → Shown
shown_of e = record { stay = record { placed = e.placed; previous = e.previous }; now = current (versions_of e) }

abbrev shown_row : NodeId × EntryRecord → NodeId × Shown
shown_row r = (r.0, shown_of r.1)

-- Two trees with the same rows but for histories.
record SameRows (s t : Tree) : Type 0 where
  id : id_of s ≡ id_of t
  entries : map shown_row (entry_rows s) ≡ map shown_row (entry_rows t)
  groups : group_rows s ≡ group_rows t
  children : child_rows s ≡ child_rows t

-- the same of groups side by side
record SameRowsAll (ss ts : Trees) : Type 0 where
  ids : ids_of ss ≡ ids_of ts
  entries : map shown_row (entry_rows_all ss) ≡ map shown_row (entry_rows_all ts)
  groups : group_rows_all ss ≡ group_rows_all ts
  children : child_rows_all ss ≡ child_rows_all ts

same_tree : (t : Tree) → SameRows t t
same_tree t = record { id = refl; entries = refl; groups = refl; children = refl }

module _ (g u : NodeId) (a b : EntryRecord) (alike : IsAlike a b) where
  abbrev F : Tree → Tree
  F = changed_entry u (λ _. a)

  abbrev H : Tree → Tree
  H = changed_entry u (λ _. b)

  same_shown : shown_of a ≡ shown_of b
  same_shown = λ i. record { stay = record { placed = alike.placed i; previous = alike.previous i }; now = alike.shown i }

  rows_shown : (es : List (NodeId × EntryRecord)) → map shown_row (with_changed u (λ _. a) es) ≡ map shown_row (with_changed u (λ _. b) es)
  rows_shown [] = refl
  rows_shown (e ∷ es) = elim (decide (is_id e.0 u)) [
    | inl p ↦
        ap (λ c. map shown_row (cond c ((e.0, a) ∷ es) (e ∷ with_changed u (λ _. a) es))) p
        ∙ ap (λ s. (e.0, s) ∷ map shown_row es) same_shown
        ∙ sym (ap (λ c. map shown_row (cond c ((e.0, b) ∷ es) (e ∷ with_changed u (λ _. b) es))) p)
    | inr p ↦
        ap (λ c. map shown_row (cond c ((e.0, a) ∷ es) (e ∷ with_changed u (λ _. a) es))) p
        ∙ ap (λ rs. shown_row e ∷ rs) (rows_shown es)
        ∙ sym (ap (λ c. map shown_row (cond c ((e.0, b) ∷ es) (e ∷ with_changed u (λ _. b) es))) p)
  ]

  rows_ids : (es : List (NodeId × EntryRecord)) → map (λ (e : NodeId × EntryRecord). e.0) (with_changed u (λ _. a) es) ≡ map (λ (e : NodeId × EntryRecord). e.0) (with_changed u (λ _. b) es)
  rows_ids [] = refl
  rows_ids (e ∷ es) = elim (decide (is_id e.0 u)) [
    | inl p ↦
        ap (λ c. map (λ (x : NodeId × EntryRecord). x.0) (cond c ((e.0, a) ∷ es) (e ∷ with_changed u (λ _. a) es))) p
        ∙ sym (ap (λ c. map (λ (x : NodeId × EntryRecord). x.0) (cond c ((e.0, b) ∷ es) (e ∷ with_changed u (λ _. b) es))) p)
    | inr p ↦
        ap (λ c. map (λ (x : NodeId × EntryRecord). x.0) (cond c ((e.0, a) ∷ es) (e ∷ with_changed u (λ _. a) es))) p
        ∙ ap (λ us. e.0 ∷ us) (rows_ids es)
        ∙ sym (ap (λ c. map (λ (x : NodeId × EntryRecord). x.0) (cond c ((e.0, b) ∷ es) (e ∷ with_changed u (λ _. b) es))) p)
  ]

  changed_here : (t : Tree) → SameRows (F t) (H t)
  changed_here (node v r es ts) = record {
    id = refl;
    entries = map_append shown_row (with_changed u (λ _. a) es) (entry_rows_all ts) ∙ ap (λ rs. rs ++ map shown_row (entry_rows_all ts)) (rows_shown es)
        ∙ sym (map_append shown_row (with_changed u (λ _. b) es) (entry_rows_all ts));
    groups = refl;
    children = ap (λ us. (v, record { entries = us; groups = ids_of ts }) ∷ child_rows_all ts) (rows_ids es);
  }

  over : (v : NodeId) (r : GroupRecord) (es : List (NodeId × EntryRecord)) (ss ts : Trees) → SameRowsAll ss ts → SameRows (node v r es ss) (node v r es ts)
  over v r es ss ts s = record {
    id = refl;
    entries = map_append shown_row es (entry_rows_all ss) ∙ ap (λ rs. map shown_row es ++ rs) s.entries ∙ sym (map_append shown_row es (entry_rows_all ts));
    groups = ap (λ rs. (v, r) ∷ rs) s.groups;
    children = λ i. (v, record { entries = map (λ (e : NodeId × EntryRecord). e.0) es; groups = s.ids i }) ∷ s.children i;
  }

  beside_same : (s t : Tree) (ss ts : Trees) → SameRows s t → SameRowsAll ss ts → SameRowsAll (beside s ss) (beside t ts)
  beside_same s t ss ts one all = record {
    ids = λ i. one.id i ∷ all.ids i;
    entries = map_append shown_row (entry_rows s) (entry_rows_all ss) ∙ (λ i. one.entries i ++ all.entries i) ∙ sym (map_append shown_row (entry_rows t) (entry_rows_all ts));
    groups = λ i. one.groups i ++ all.groups i;
    children = λ i. one.children i ++ all.children i;
  }

  same_trees : (ts : Trees) → SameRowsAll ts ts
  same_trees ts = record { ids = refl; entries = refl; groups = refl; children = refl }

  pick_tree : (c : Bool) (w x y z : Tree) → SameRows w y → SameRows x z → SameRows (cond c w x) (cond c y z)
  pick_tree true w x y z p q = p
  pick_tree false w x y z p q = q

  pick_trees : (c : Bool) (w x y z : Trees) → SameRowsAll w y → SameRowsAll x z → SameRowsAll (cond c w x) (cond c y z)
  pick_trees true w x y z p q = p
  pick_trees false w x y z p q = q

  mutual
    changed_shown : (t : Tree) → SameRows (changed_at g F t) (changed_at g H t)
    changed_shown (node v r es ts) =
        pick_tree (is_id v g) (F (node v r es ts)) (node v r es (changed_in g F ts)) (H (node v r es ts)) (node v r es (changed_in g H ts))
        (changed_here (node v r es ts)) (over v r es (changed_in g F ts) (changed_in g H ts) (all_shown ts))

    all_shown : (ts : Trees) → SameRowsAll (changed_in g F ts) (changed_in g H ts)
    all_shown none = same_trees none
    all_shown (beside t ts) =
        pick_trees (has_group g t) (beside (changed_at g F t) ts) (beside t (changed_in g F ts)) (beside (changed_at g H t) ts) (beside t (changed_in g H ts))
        (beside_same (changed_at g F t) (changed_at g H t) ts ts (changed_shown t) (same_trees ts))
        (beside_same t t (changed_in g F ts) (changed_in g H ts) (same_tree t) (all_shown ts))

-- ---- what is found in such rows

found_shown : (u : NodeId) (rows : List (NodeId × EntryRecord)) → find id_cmp u (map shown_row rows) ≡ option_map shown_of (find id_cmp u rows)
found_shown u [] = refl
found_shown u (r ∷ rows) = elim (decide (is_id u r.0)) [
  | inl p ↦ ap (λ b. cond b (Some (shown_of r.1)) (find id_cmp u (map shown_row rows))) p ∙ sym (ap (λ b. option_map shown_of (cond b (Some r.1) (find id_cmp u rows))) p)
  | inr p ↦ ap (λ b. cond b (Some (shown_of r.1)) (find id_cmp u (map shown_row rows))) p ∙ found_shown u rows ∙ sym (ap (λ b. option_map shown_of (cond b (Some r.1) (find id_cmp u rows))) p)
]

module _ (d e : BareDoc) (isd : IsDoc d) (ise : IsDoc e) (rows : SameRows d.tree e.tree) where
  shown_same : (u : NodeId) → option_map shown_of (get (shape_of d).entries u) ≡ option_map shown_of (get (shape_of e).entries u)
  shown_same u =
      ap (option_map shown_of) (shape_entry d isd u) ∙ sym (found_shown u (entry_rows d.tree)) ∙ ap (find id_cmp u) rows.entries
      ∙ found_shown u (entry_rows e.tree) ∙ sym (ap (option_map shown_of) (shape_entry e ise u))

  shape_groups : (shape_of d).groups ≡ (shape_of e).groups
  unfolding shape_of
  shape_groups = ap from_entries rows.groups

  shape_children : (shape_of d).children ≡ (shape_of e).children
  unfolding shape_of
  shape_children = ap from_entries rows.children

  abbrev stay_shown : Option Shown → Option GroupRecord → Stay
  stay_shown (Some s) g = s.stay
  stay_shown None (Some g) = record { placed = g.placed; previous = g.previous }
  stay_shown None None = stay_or None None

  stays_shown : (o : Option EntryRecord) (g : Option GroupRecord) → stay_or o g ≡ stay_shown (option_map shown_of o) g
  stays_shown (Some r) g = refl
  stays_shown None (Some g) = refl
  stays_shown None None = refl

  same_stay : (u : NodeId) → stay_of (shape_of d) u ≡ stay_of (shape_of e) u
  same_stay u =
      stays_shown (get (shape_of d).entries u) (get (shape_of d).groups u)
      ∙ (λ i. stay_shown (shown_same u i) (get (shape_groups i) u))
      ∙ sym (stays_shown (get (shape_of e).entries u) (get (shape_of e).groups u))

  same_place_rows : place_rows (shape_of d) ≡ place_rows (shape_of e)
  same_place_rows = λ i. flat_map (λ (row : NodeId × Children). map (λ v. (v, place_at (same_stay v i) row.0)) (row.1.entries ++ row.1.groups)) (entries (shape_children i))

  same_places : (db_in d).places ≡ (db_in e).places
  unfolding db_of
  same_places = ap from_entries same_place_rows

  same_groups : (db_in d).groups ≡ (db_in e).groups
  unfolding db_of
  same_groups = λ i. tabulate (keys (shape_groups i)) (λ u. option_map (λ (g : GroupRecord). g.state) (get (shape_groups i) u))

  abbrev now_of : Option Shown → Option Versions
  now_of o = option_map (λ (s : Shown). s.now) o

  currents_shown : (o : Option EntryRecord) → currents (option_map versions_of o) ≡ now_of (option_map shown_of o)
  currents_shown None = refl
  currents_shown (Some r) = refl

  same_current : (u : NodeId) → currents (get (db_in d).entries u) ≡ currents (get (db_in e).entries u)
  same_current u =
      ap currents (db_entries (shape_of d) u) ∙ currents_shown (get (shape_of d).entries u) ∙ ap now_of (shown_same u)
      ∙ sym (currents_shown (get (shape_of e).entries u)) ∙ sym (ap currents (db_entries (shape_of e) u))

  rows_alike : (db_in d).root ≡ (db_in e).root → (db_in d).tombs ≡ (db_in e).tombs → (db_in d).meta ≡ (db_in e).meta → current_view (db_in d) ≡ current_view (db_in e)
  rows_alike root tombs meta = same_view (db_in d) (db_in e) root same_current same_groups same_places tombs meta

pub relabel_shows : RelabelShows
unfolding db_of shape_of
relabel_shows d g u a b alike isa isb =
    rows_alike (record d { tree = changed_at g (changed_entry u (λ _. a)) d.tree }) (record d { tree = changed_at g (changed_entry u (λ _. b)) d.tree }) isa isb
    (changed_shown g u a b alike d.tree) (changed_shown g u a b alike d.tree).id refl refl
