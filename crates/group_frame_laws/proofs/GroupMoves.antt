-- What moving a group leaves as it is.
use Rattle.std.proofs.Common.{◌≡◌, ◌≤◌, ◌<◌, ◌||◌, ◌++◌, ◌+◌, ℕ, Bool, true, false, cond, inl, inr, List, [], ◌∷◌, Option, Some, None, Ok, refl, sym, ap, subst, ◌∙◌, nat_lt, arith}
use Rattle.std.proofs.lemmas.Option.{same_Some}
use Rattle.std.specs.FinMap.{find}
use Rattle.std.specs.Option.{option_and_then, unwrap_or}
use Rattle.vault_model.specs.Db.{NodeId, id_cmp}
use Rattle.vault_model.specs.Join.{IsIn, is_id}
use Rattle.vault_model.specs.Shape.{Children, GroupRecord}
use Rattle.vault_model.specs.Tree.{BareDoc, IsDoc, LEVELS, Tree, Trees, beside, child_rows, child_rows_all, entry_rows, entry_rows_all, group_rows, group_rows_all, height, id_of, ids_of, is_elsewhere, node, node_ids, none}
use Rattle.vault_model.proofs.Tests.{apart, decide, in_back, in_front, is_false, or_false}
use Rattle.merge_core.proofs.SoundDoc.{shape_kids}
use Rattle.tree_core.specs.declared.fails.TreeFail.TheVariants.{AlreadyThere, IntoItself, RootFixed, TooDeep}
use Rattle.tree_core.specs.After.{group_moved_to, group_named, is_parent, named_or_refusal, refuse_if, time_after}
use Rattle.tree_core.specs.Changes.{changed_at, child_with, group_moved, group_with, has_group, level_of, moved_group, own_group, parent_of, placed_of, with_group, with_last, without_group}
use Rattle.tree_core.specs.Finding.{group_found}
use Rattle.tree_core.proofs.Around.{children_rows, entries_rows, found_group, found_id, groups_rows}
use Rattle.tree_core.proofs.Counted.{once}
use Rattle.tree_core.proofs.GroupDocs.{take_is_doc}
use Rattle.tree_core.proofs.GroupMoves.{to_there}
use Rattle.tree_core.proofs.Named.{named_group}
use Rattle.tree_core.proofs.Options.{never}
use Rattle.tree_core.proofs.Rows.{keys}
use Rattle.tree_moves.specs.GroupPlaces.{group_at}
use Rattle.tree_moves.proofs.GroupChildren.{off_goal}
use Rattle.tree_moves.proofs.GroupParents.{flipped, parent_found}
use Rattle.growth_laws.proofs.Carries.{put_group_group}
use Rattle.growth_laws.proofs.Outcomes.{bind_ok, named_ok, refuse_ok, same_ok, time_ok}
use Rattle.growth_laws.proofs.Stays.{group_is}
use Rattle.growth_laws.proofs.Steps.{put_group_keeps, root_same, take_group_root}
use Rattle.frame_laws.specs.Frame.{either, no_node, only}
use Rattle.group_frame_laws.specs.Groups.{GroupMoves, MoveGroupFrames, is_within}
use Rattle.frame_laws.proofs.EntryFrames.{time_now}
use Rattle.frame_laws.proofs.Finds.{SameRows, find_back, find_last, lists_found, own_lists, own_lists_row, passed, put_group_lists, row_now, row_was, same_at, same_but, same_more}
use Rattle.group_frame_laws.proofs.GroupParts.{now_in, put_entries, put_groups, put_lists, take_entries, take_groups, take_lists, was_in}
use Rattle.group_frame_laws.proofs.GroupRows.{elsewhere_lists, gone, lost_lists, outside, take_group_same}
use Rattle.frame_laws.proofs.NewFrames.{elsewhere_entry, elsewhere_group}

-- ---- a group put in

put_same : (w b : Tree) → SameRows (is_within w) (is_within w) (λ q. is_within w q || is_id q (id_of b)) b (with_group w b)
put_same w (node v r es ts) = record {
  entries = λ q p. find_back q es (entry_rows_all (with_last w ts)) (entry_rows_all ts) (find_last entry_rows entry_rows_all entries_rows w ts q (elsewhere_entry q w (outside w q p)));
  groups = λ q p. find_back q ((v, r) ∷ []) (group_rows_all (with_last w ts)) (group_rows_all ts) (find_last group_rows group_rows_all groups_rows w ts q (elsewhere_group q w (outside w q p)));
  lists = λ q p.
      let parts = or_false (is_within w q) (is_id q v) p in
      passed q (v, record { entries = keys es; groups = ids_of (with_last w ts) }) (child_rows_all (with_last w ts)) parts.1
      ∙ find_last child_rows child_rows_all children_rows w ts q (elsewhere_lists q w (outside w q parts.0))
      ∙ sym (passed q (v, record { entries = keys es; groups = ids_of ts }) (child_rows_all ts) parts.1);
  root = refl;
}

-- ---- a group that is moved

abbrev own_record : Tree → GroupRecord
own_record (node v r es ts) = r

own_row : (c : Tree) → IsIn (id_of c, own_record c) (group_rows c)
own_row (node v r es ts) = inl refl

own_placed : (c : Tree) → placed_of c ≡ (own_record c).placed
own_placed (node v r es ts) = refl

among_row : (u : NodeId) (c : Tree) (ts : Trees) → own_group u ts ≡ Some c → IsIn (id_of c, own_record c) (group_rows_all ts)
among_row u c none own = never c own
among_row u c (beside t ts) own =
    elim (decide (is_id (id_of t) u)) [
      | inl p ↦
          let same : t ≡ c = same_Some t c (ap (λ b. cond b (Some t) (own_group u ts)) (sym p) ∙ own) in
          in_front (group_rows t) (group_rows_all ts) (id_of c, own_record c) (subst (λ (w : Tree). IsIn (id_of c, own_record c) (group_rows w)) (sym same) (own_row c))
      | inr p ↦ in_back (group_rows t) (group_rows_all ts) (id_of c, own_record c) (among_row u c ts (ap (λ b. cond b (Some t) (own_group u ts)) (sym p) ∙ own))
    ]

child_row : (u : NodeId) (c b : Tree) → child_with u b ≡ Some c → IsIn (id_of c, own_record c) (group_rows b)
child_row u c (node v r es ts) own = inr (among_row u c ts own)

module _ (from : NodeId) (time : ℕ) where
  moved_id : (c : Tree) → id_of (moved_group from time c) ≡ id_of c
  moved_id (node v r es ts) = refl

  moved_ids : (c : Tree) (q : NodeId) → is_within (moved_group from time c) q ≡ is_within c q
  moved_ids (node v r es ts) q = refl

  moved_record : (c : Tree) → own_record (moved_group from time c) ≡ record (own_record c) { placed = time; previous = from }
  moved_record (node v r es ts) = refl

  moved_entries : (c : Tree) → entry_rows (moved_group from time c) ≡ entry_rows c
  moved_entries (node v r es ts) = refl

  moved_lists : (c : Tree) → child_rows (moved_group from time c) ≡ child_rows c
  moved_lists (node v r es ts) = refl

  moved_groups : (c : Tree) (q : NodeId) → is_id q (id_of c) ≡ false → find id_cmp q (group_rows (moved_group from time c)) ≡ find id_cmp q (group_rows c)
  moved_groups (node v r es ts) q off = passed q (v, record r { placed = time; previous = from }) (group_rows_all ts) off ∙ sym (passed q (v, r) (group_rows_all ts) off)

module _ (d : BareDoc) (isd : IsDoc d) (from to : NodeId) (time : ℕ) (c b goal : Tree) (there : group_with from d.tree ≡ Some b) (own : child_with (id_of c) b ≡ Some c)
    (aim : group_with to (changed_at from (without_group (id_of c)) d.tree) ≡ Some goal) (off : is_id from to ≡ false) where
  abbrev u : NodeId
  u = id_of c

  abbrev w : Tree
  w = moved_group from time c

  abbrev mid : Tree
  mid = changed_at from (without_group u) d.tree

  abbrev moved : BareDoc
  moved = record d { tree = group_moved from to time c d.tree }

  take_keeps : id_of (without_group u b) ≡ id_of b
  take_keeps = take_group_root u b

  put_keeps : id_of (with_group w goal) ≡ id_of goal
  put_keeps = put_group_keeps w goal

  abbrev off_list : NodeId → NodeId → Bool
  off_list g q = is_within c q || is_id q g

  taken_same : SameRows (is_within c) (is_within c) (off_list from) d.tree mid
  taken_same = same_at from (without_group u) d.tree b there take_keeps (is_within c) (is_within c) (off_list from) (sym (root_same from (without_group u) d.tree b there take_keeps))
      (same_more (is_within c) (is_within c) (off_list (id_of b)) (is_within c) (is_within c) (off_list from) b (without_group u b) (λ q p. p) (λ q p. p)
      (λ q p. ap (λ v. is_within c q || is_id q v) (found_id from d.tree b there) ∙ p) (take_group_same u c b own))

  put_in_same : SameRows (is_within c) (is_within c) (off_list to) mid moved.tree
  put_in_same = same_at to (with_group w) mid goal aim put_keeps (is_within c) (is_within c) (off_list to) (sym (root_same to (with_group w) mid goal aim put_keeps))
      (same_more (is_within w) (is_within w) (λ q. is_within w q || is_id q (id_of goal)) (is_within c) (is_within c) (off_list to) goal (with_group w goal)
      (λ q p. moved_ids from time c q ∙ p) (λ q p. moved_ids from time c q ∙ p)
      (λ q p. ap (λ b. b || is_id q (id_of goal)) (moved_ids from time c q) ∙ ap (λ v. is_within c q || is_id q v) (found_id to mid goal aim) ∙ p) (put_same w goal))

  in_mid : IsDoc (record d { tree = mid })
  in_mid = take_is_doc d isd from u c b there own

  far : (q : NodeId) → is_within c q ≡ true → is_elsewhere mid q ≡ true
  far q p = gone d isd from b c there own q p

  -- the rows of what is in the group are those of before
  entries_within : (q : NodeId) → is_within c q ≡ true → find id_cmp q (entry_rows moved.tree) ≡ find id_cmp q (entry_rows d.tree)
  entries_within q p =
      let none = elsewhere_entry q mid (far q p) in
      let now = now_in entry_rows entry_rows_all entries_rows q to (with_group w) mid goal aim put_keeps none in
      let was = was_in entry_rows entry_rows_all entries_rows q from (without_group u) d.tree b there take_keeps none in
      now.0 ∙ put_entries q w goal now.1 ∙ ap (find id_cmp q) (moved_entries from time c) ∙ sym (was.0 ∙ take_entries q u c b own was.1)

  groups_within : (q : NodeId) → is_within c q ≡ true → is_id q u ≡ false → find id_cmp q (group_rows moved.tree) ≡ find id_cmp q (group_rows d.tree)
  groups_within q p other =
      let none = elsewhere_group q mid (far q p) in
      let now = now_in group_rows group_rows_all groups_rows q to (with_group w) mid goal aim put_keeps none in
      let was = was_in group_rows group_rows_all groups_rows q from (without_group u) d.tree b there take_keeps none in
      now.0 ∙ put_groups q w goal now.1 ∙ moved_groups from time c q other ∙ sym (was.0 ∙ take_groups q u c b own was.1)

  lists_within : (q : NodeId) → is_within c q ≡ true → find id_cmp q (child_rows moved.tree) ≡ find id_cmp q (child_rows d.tree)
  lists_within q p =
      let none = elsewhere_lists q mid (far q p) in
      let now = now_in child_rows child_rows_all children_rows q to (with_group w) mid goal aim put_keeps none in
      let was = was_in child_rows child_rows_all children_rows q from (without_group u) d.tree b there take_keeps none in
      now.0 ∙ put_lists q w goal now.1 ∙ ap (find id_cmp q) (moved_lists from time c) ∙ sym (was.0 ∙ take_lists q u c b own was.1)

  both_same : SameRows no_node (only u) (either from to) d.tree moved.tree
  both_same = record {
    entries = λ q p. elim (decide (is_within c q)) [
      | inl i ↦ entries_within q i
      | inr o ↦ put_in_same.entries q o ∙ taken_same.entries q o
    ];
    groups = λ q p. elim (decide (is_within c q)) [
      | inl i ↦ groups_within q i p
      | inr o ↦ put_in_same.groups q o ∙ taken_same.groups q o
    ];
    lists = λ q p. elim (decide (is_within c q)) [
      | inl i ↦ lists_within q i
      | inr o ↦
          let parts = or_false (is_id q from) (is_id q to) p in
          put_in_same.lists q (off_both q to o parts.1) ∙ taken_same.lists q (off_both q from o parts.0)
    ];
    root = put_in_same.root ∙ taken_same.root;
  }
    where
      off_both : (q g : NodeId) → is_within c q ≡ false → is_id q g ≡ false → off_list g q ≡ false
      off_both q g o p = λ i. o i || p i

  -- a group that is there without the one that is moved is not in it
  stays_out : (q : NodeId) (x : Children) → find id_cmp q (child_rows mid) ≡ Some x → is_within c q ≡ false
  stays_out q x there_yet = is_false (is_within c q) (λ p. never x (sym (elsewhere_lists q mid (far q p)) ∙ there_yet))

  flip_off : is_id to from ≡ false
  flip_off = is_false (is_id to from) (λ p. apart (is_id from to) (flipped to from p) off)

  pub group_moves : (now : ℕ) → IsDoc moved → now ≤ time → placed_of c < time → GroupMoves u from to now d moved
  group_moves now ise late later =
      let lists = lost_lists u c b own in
      let from_was : find id_cmp from (child_rows d.tree) ≡ Some (own_lists b) =
      lists_found d.tree isd.distinct from (own_lists b)
      (row_was from (without_group u) d.tree b there take_keeps child_rows child_rows_all children_rows (from, own_lists b)
      (subst (λ (v : NodeId). IsIn (v, own_lists b) (child_rows b)) (found_id from d.tree b there) (own_lists_row b))) in
      let from_mid : find id_cmp from (child_rows mid) ≡ Some (own_lists (without_group u b)) =
      lists_found mid in_mid.distinct from (own_lists (without_group u b))
      (row_now from (without_group u) d.tree b there take_keeps child_rows child_rows_all children_rows (from, own_lists (without_group u b))
      (subst (λ (v : NodeId). IsIn (v, own_lists (without_group u b)) (child_rows (without_group u b))) (take_keeps ∙ found_id from d.tree b there) (own_lists_row (without_group u b)))) in
      let to_mid : find id_cmp to (child_rows mid) ≡ Some (own_lists goal) =
      lists_found mid in_mid.distinct to (own_lists goal)
      (row_was to (with_group w) mid goal aim put_keeps child_rows child_rows_all children_rows (to, own_lists goal)
      (subst (λ (v : NodeId). IsIn (v, own_lists goal) (child_rows goal)) (found_id to mid goal aim) (own_lists_row goal))) in
      let to_now : find id_cmp to (child_rows moved.tree) ≡ Some (own_lists (with_group w goal)) =
      lists_found moved.tree ise.distinct to (own_lists (with_group w goal))
      (row_now to (with_group w) mid goal aim put_keeps child_rows child_rows_all children_rows (to, own_lists (with_group w goal))
      (subst (λ (v : NodeId). IsIn (v, own_lists (with_group w goal)) (child_rows (with_group w goal))) (put_keeps ∙ found_id to mid goal aim) (own_lists_row (with_group w goal)))) in
      let from_out = stays_out from (own_lists (without_group u b)) from_mid in
      let to_out = stays_out to (own_lists goal) to_mid in
      let row : IsIn (u, record (own_record c) { placed = time; previous = from }) (group_rows w) =
      subst (λ (r : GroupRecord). IsIn (u, r) (group_rows w)) (moved_record from time c)
      (subst (λ (v : NodeId). IsIn (v, own_record w) (group_rows w)) (moved_id from time c) (own_row w)) in
      record {
        apart = off;
        before = own_record c;
        time = time;
        was = group_is d isd u (own_record c) (row_was from (without_group u) d.tree b there take_keeps group_rows group_rows_all groups_rows (u, own_record c) (child_row u c b own));
        is = group_is moved ise u (record (own_record c) { placed = time; previous = from })
            (row_now to (with_group w) mid goal aim put_keeps group_rows group_rows_all groups_rows (u, record (own_record c) { placed = time; previous = from })
            (put_group_group w goal (u, record (own_record c) { placed = time; previous = from }) row));
        late = late;
        later = (let same = own_placed c in omega (arith, same, later));
        lost = record {
          front = lists.front;
          back = lists.back;
          entries = lists.entries;
          was = shape_kids d isd from ∙ from_was ∙ ap Some lists.was;
          now = shape_kids moved ise from ∙ put_in_same.lists from (λ i. from_out i || off i) ∙ from_mid ∙ ap Some lists.now;
        };
        new = record {
          before = own_lists goal;
          was = shape_kids d isd to ∙ sym (taken_same.lists to (λ i. to_out i || flip_off i)) ∙ to_mid;
          now = shape_kids moved ise to ∙ to_now ∙ ap Some (put_group_lists w goal ∙ ap (λ v. record (own_lists goal) { groups = (own_lists goal).groups ++ v ∷ [] }) (moved_id from time c));
        };
        rest = same_but no_node (only u) (either from to) d moved isd ise both_same;
        tombs = refl;
        meta = refl;
      }

-- ---- the group that a path names, and the one that it is in

pub own_named : (path : List ℕ) (d : BareDoc) (c : Tree) → group_named path d ≡ Ok c → (group_found d path ≡ Some (id_of c)) × (group_with (id_of c) d.tree ≡ Some c)
own_named path d c h = of (group_found d path) (named_ok (option_and_then (λ id. group_with id d.tree) (group_found d path)) c h)
  where
    of : (o : Option NodeId) → option_and_then (λ id. group_with id d.tree) o ≡ Some c → (o ≡ Some (id_of c)) × (group_with (id_of c) d.tree ≡ Some c)
    of None k = never c k
    of (Some id) k = let same = found_id id d.tree c k in (ap Some (sym same), ap (λ v. group_with v d.tree) same ∙ k)

-- The group that a group is in.
pub record Inside (d : BareDoc) (c : Tree) : Type 0 where
  pub parent : NodeId
  pub group : Tree
  pub is : parent_of (id_of c) d.tree ≡ Some parent
  pub there : group_with parent d.tree ≡ Some group
  pub own : child_with (id_of c) group ≡ Some c

pub inside : (d : BareDoc) → IsDoc d → (c : Tree) → group_with (id_of c) d.tree ≡ Some c → is_id (id_of c) (id_of d.tree) ≡ false → Inside d c
inside d isd c there off =
    let f = parent_found (id_of c) d.tree c (once (node_ids d.tree) isd.distinct)
    (is_false (is_id (id_of d.tree) (id_of c)) (λ p. apart (is_id (id_of c) (id_of d.tree)) (flipped (id_of d.tree) (id_of c) p) off)) there in
    record { parent = f.id; group = f.group; is = f.is; there = f.there; own = f.child }

-- a group that is in another moved to a third
pub moves_to : (d e : BareDoc) → IsDoc d → IsDoc e → (c : Tree) → (i : Inside d c) → (to : NodeId) (now : ℕ) → has_group to d.tree ≡ true → is_id i.parent to ≡ false
    → group_moved_to to c now d ≡ Ok e → GroupMoves (id_of c) i.parent to now d e
moves_to d e isd ise c i to now has off h =
    let u = id_of c in
    let apart_from = bind_ok (refuse_if (has_group to c) (IntoItself u)) _ e h in
    let fits = bind_ok (refuse_if (nat_lt LEVELS (level_of to d.tree + height c)) TooDeep) _ e apart_from.1.1 in
    let time = bind_ok (time_after now (placed_of c)) _ e fits.1.1 in
    let is = sym (ap (λ o. record d { tree = group_moved (unwrap_or o (id_of d.tree)) to time.0 c d.tree }) i.is) ∙ same_ok _ e time.1.1 in
    let at : group_at i.parent u d.tree ≡ Some c = ap (option_and_then (child_with u)) i.there ∙ i.own in
    let out = off_goal i.parent to u d.tree c at (refuse_ok (has_group to c) (IntoItself u) apart_from.0 apart_from.1.0) in
    let goal = found_group to (changed_at i.parent (without_group u) d.tree) (to_there i.parent to u d.tree out ∙ has) in
    subst (λ (w : BareDoc). GroupMoves u i.parent to now d w) is
    (group_moves d isd i.parent to time.0 c i.group goal.0 i.there i.own goal.1 off now (subst IsDoc (sym is) ise) (time_now now (placed_of c) time.0 time.1.0) (time_ok now (placed_of c) time.0 time.1.0))

pub move_group_frames : MoveGroupFrames
move_group_frames path goal now d e isd ise h =
    let moving = bind_ok (group_named path d) _ e h in
    let group = bind_ok (named_or_refusal (group_found d goal)) _ e moving.1.1 in
    let elsewhere = bind_ok (refuse_if (is_parent group.0 (parent_of (id_of moving.0) d.tree)) AlreadyThere) _ e group.1.1 in
    let below = bind_ok (refuse_if (is_id (id_of moving.0) (id_of d.tree)) RootFixed) _ e elsewhere.1.1 in
    let named = own_named path d moving.0 moving.1.0 in
    let i = inside d isd moving.0 named.1 (refuse_ok (is_id (id_of moving.0) (id_of d.tree)) RootFixed below.0 below.1.0) in
    let aimed = named_ok (group_found d goal) group.0 group.1.0 in
    let off : is_id i.parent group.0 ≡ false =
    ap (is_parent group.0) (sym i.is) ∙ refuse_ok (is_parent group.0 (parent_of (id_of moving.0) d.tree)) AlreadyThere elsewhere.0 elsewhere.1.0 in
    record {
      group = id_of moving.0;
      from = i.parent;
      to = group.0;
      named = named.0;
      aimed = aimed;
      moved = moves_to d e isd ise moving.0 i group.0 now (named_group d goal group.0 aimed) off below.1.1;
    }
