-- What removing a group leaves as it is.
use Rattle.std.proofs.Common.{◌≡◌, ◌≤◌, ◌||◌, ◌+◌, ℕ, true, false, cond, inl, inr, List, [], ◌∷◌, Option, Some, None, Ok, is_some, refl, sym, ap, subst, ◌∙◌, max, nat_lt, arith}
use Rattle.std.specs.FinMap.{find}
use Rattle.std.specs.List.{list_all}
use Rattle.std.specs.Option.{option_and_then, unwrap_or}
use Rattle.std.specs.Prelude.{if◌then◌else◌}
use Rattle.outside_core.specs.Results.{◌>>=◌}
use Rattle.vault_model.specs.declared.nodes.Tombstone.{Tombstone}
use Rattle.vault_model.specs.Db.{NodeId, id_cmp}
use Rattle.vault_model.specs.Join.{IsIn, is_id}
use Rattle.vault_model.specs.SeenNodes.{entry_time}
use Rattle.vault_model.specs.Shape.{EntryRecord, GroupRecord}
use Rattle.vault_model.specs.Tree.{BareDoc, IsDoc, LEVELS, Tree, child_rows, child_rows_all, entry_rows, entry_rows_all, group_rows, group_rows_all, height, id_of, is_elsewhere, node, node_ids}
use Rattle.vault_model.proofs.Ids.{same_id}
use Rattle.vault_model.proofs.Tests.{and_true, apart, decide, is_false}
use Rattle.merge_core.proofs.SoundDoc.{shape_entry, shape_group, shape_kids}
use Rattle.tree_core.specs.declared.fails.TreeFail.TheVariants.{IntoItself, RootFixed, TooDeep}
use Rattle.tree_core.specs.After.{AfterRemoval, after_recycling, bin_level, group_deleted, group_moved_to, group_named, group_recycled, is_recycled, needs_bin, refuse_if, with_bin_made}
use Rattle.tree_core.specs.Changes.{changed_at, child_with, entries_buried, groups_buried, has_group, parent_of, tree_buried, without_group}
use Rattle.tree_core.specs.NewNodes.{empty_bin}
use Rattle.tree_core.proofs.Around.{children_rows, entries_rows, found_id, groups_rows}
use Rattle.tree_core.proofs.Counted.{elsewhere_occurs, none_occurs, occurs, occurs_none, once, one_if}
use Rattle.tree_core.proofs.GroupDocs.{counted_less}
use Rattle.tree_core.proofs.Options.{never}
use Rattle.tree_core.proofs.Rows.{keys, none_found}
use Rattle.tree_moves.specs.GroupPlaces.{group_at}
use Rattle.tree_moves.proofs.GroupChildren.{found_child}
use Rattle.tree_moves.proofs.GroupParents.{parent_has}
use Rattle.tree_removals.proofs.GroupBins.{found, free_elsewhere, parent_of_last, u_off_bin}
use Rattle.tree_removals.proofs.GroupsRecycled.{not_bin}
use Rattle.tree_removals.proofs.LastGroups.{last_there}
use Rattle.tree_removals.proofs.ManyTombs.{rows_count}
use Rattle.tree_removals.proofs.NewBins.{free_absent}
use Rattle.growth_laws.proofs.Commands.{Ready, bin_made, bin_there}
use Rattle.growth_laws.proofs.Outcomes.{bind_ok, refuse_ok, same_ok}
use Rattle.growth_laws.proofs.Steps.{root_same, take_group_root}
use Rattle.frame_laws.specs.Frame.{tomb_of}
use Rattle.group_frame_laws.specs.Groups.{DeletesGroup, RemoveGroupFrames, RemovesGroup, is_within}
use Rattle.frame_laws.proofs.EntryRemovals.{new_bin}
use Rattle.frame_laws.proofs.Finds.{SameRows, lists_found, own_lists, own_lists_row, row_now, row_was, same_at, same_but, same_more}
use Rattle.group_frame_laws.proofs.GroupMoves.{Inside, inside, moves_to, own_named}
use Rattle.group_frame_laws.proofs.GroupParts.{take_entries, take_groups, was_in}
use Rattle.group_frame_laws.proofs.GroupRows.{elsewhere_lists, gone, lost_lists, positive, take_group_same}
use Rattle.frame_laws.proofs.NewFrames.{elsewhere_entry, elsewhere_group}
use Rattle.frame_laws.proofs.Tombs.{tomb_is, tomb_other, tomb_own, tomb_rows}

-- ---- the tombstones of what is deleted

module _ (now : ℕ) (q : NodeId) where
  abbrev T : List Tombstone → Option ℕ
  T ts = find id_cmp q (tomb_rows ts)

  entries_off : (es : List (NodeId × EntryRecord)) (ts : List Tombstone) → occurs q (keys es) ≡ 0 → T (entries_buried now es ts) ≡ T ts
  entries_off [] ts zero = refl
  entries_off (e ∷ es) ts zero =
      elim (decide (is_id q e.0)) [
        | inl p ↦ let here = ap one_if p in absurd (omega (arith, here, zero))
        | inr p ↦
            let here = ap one_if p in
            tomb_other (record { id = e.0; deleted = max now (entry_time e.1) }) q p (entries_buried now es ts) ∙ entries_off es ts (omega (arith, here, zero))
      ]

  groups_off : (gs : List (NodeId × GroupRecord)) (ts : List Tombstone) → occurs q (keys gs) ≡ 0 → T (groups_buried now gs ts) ≡ T ts
  groups_off [] ts zero = refl
  groups_off (g ∷ gs) ts zero =
      elim (decide (is_id q g.0)) [
        | inl p ↦ let here = ap one_if p in absurd (omega (arith, here, zero))
        | inr p ↦
            let here = ap one_if p in
            tomb_other (record { id = g.0; deleted = max now g.1.state.modified }) q p (groups_buried now gs ts) ∙ groups_off gs ts (omega (arith, here, zero))
      ]

  entries_on : (es : List (NodeId × EntryRecord)) (ts : List Tombstone) (x : EntryRecord) → occurs q (keys es) ≤ 1 → find id_cmp q es ≡ Some x → T ts ≡ None
      → T (entries_buried now es ts) ≡ Some (max now (entry_time x))
  entries_on [] ts x most is none = never x is
  entries_on (e ∷ es) ts x most is none =
      elim (decide (is_id q e.0)) [
        | inl p ↦
            let here = ap one_if p in
            let same : Some e.1 ≡ Some x = ap (λ b. cond b (Some e.1) (find id_cmp q es)) (sym p) ∙ is in
            tomb_own (record { id = e.0; deleted = max now (entry_time e.1) }) q p (entries_buried now es ts) (entries_off es ts (omega (arith, here, most)) ∙ none)
            ∙ ap (λ (o : Option EntryRecord). option_and_then (λ (y : EntryRecord). Some (max now (entry_time y))) o) same
        | inr p ↦
            let here = ap one_if p in
            tomb_other (record { id = e.0; deleted = max now (entry_time e.1) }) q p (entries_buried now es ts)
            ∙ entries_on es ts x (omega (arith, here, most)) (ap (λ b. cond b (Some e.1) (find id_cmp q es)) (sym p) ∙ is) none
      ]

  groups_on : (gs : List (NodeId × GroupRecord)) (ts : List Tombstone) (r : GroupRecord) → occurs q (keys gs) ≤ 1 → find id_cmp q gs ≡ Some r → T ts ≡ None
      → T (groups_buried now gs ts) ≡ Some (max now r.state.modified)
  groups_on [] ts r most is none = never r is
  groups_on (g ∷ gs) ts r most is none =
      elim (decide (is_id q g.0)) [
        | inl p ↦
            let here = ap one_if p in
            let same : Some g.1 ≡ Some r = ap (λ b. cond b (Some g.1) (find id_cmp q gs)) (sym p) ∙ is in
            tomb_own (record { id = g.0; deleted = max now g.1.state.modified }) q p (groups_buried now gs ts) (groups_off gs ts (omega (arith, here, most)) ∙ none)
            ∙ ap (λ (o : Option GroupRecord). option_and_then (λ (y : GroupRecord). Some (max now y.state.modified)) o) same
        | inr p ↦
            let here = ap one_if p in
            tomb_other (record { id = g.0; deleted = max now g.1.state.modified }) q p (groups_buried now gs ts)
            ∙ groups_on gs ts r (omega (arith, here, most)) (ap (λ b. cond b (Some g.1) (find id_cmp q gs)) (sym p) ∙ is) none
      ]

-- a node has no tombstone
untombed : (t : Tree) (q : NodeId) → 1 ≤ occurs q (node_ids t) → (ts : List Tombstone) → list_all (λ (x : Tombstone). is_elsewhere t x.id) ts ≡ true → find id_cmp q (tomb_rows ts) ≡ None
untombed t q some [] all = refl
untombed t q some (x ∷ xs) all =
    let parts = and_true (is_elsewhere t x.id) (list_all (λ (y : Tombstone). is_elsewhere t y.id) xs) all in
    elim (decide (is_id q x.id)) [
      | inl p ↦
          let none = elsewhere_occurs t x.id parts.0 in
          let same = ap (λ v. occurs v (node_ids t)) (same_id q x.id p) in
          absurd (omega (arith, none, same, some))
      | inr p ↦ ap (λ b. cond b (Some x.deleted) (find id_cmp q (tomb_rows xs))) p ∙ untombed t q some xs parts.1
    ]

-- what is found has a key
found_key : {X : Type 0} (q : NodeId) (rows : List (NodeId × X)) (x : X) → find id_cmp q rows ≡ Some x → 1 ≤ occurs q (keys rows)
found_key q rows x is = positive (occurs q (keys rows)) (λ zero. never x (sym (none_found q rows zero) ∙ is))

module _ (d : BareDoc) (isd : IsDoc d) (c : Tree) (now : ℕ) (q : NodeId) (below : is_within c q ≡ true) (there : occurs q (node_ids c) ≤ occurs q (node_ids d.tree)) where
  some : 1 ≤ occurs q (node_ids c)
  some = positive (occurs q (node_ids c)) (λ zero. apart (is_within c q) below (none_occurs q (node_ids c) zero))

  most : occurs q (node_ids d.tree) ≤ 1
  most = once (node_ids d.tree) isd.distinct q

  old_none : find id_cmp q (tomb_rows d.tombs) ≡ None
  old_none = untombed d.tree q (omega (arith, some, there)) d.tombs isd.tombs_apart

  entry_tomb : (x : EntryRecord) → find id_cmp q (entry_rows c) ≡ Some x → find id_cmp q (tomb_rows (tree_buried now c d.tombs)) ≡ Some (max now (entry_time x))
  entry_tomb x is =
      let counts = rows_count q c in
      let key = found_key q (entry_rows c) x is in
      entries_on now q (entry_rows c) (groups_buried now (group_rows c) d.tombs) x (omega (arith, counts, there, most)) is
      (groups_off now q (group_rows c) d.tombs (omega (arith, counts, key, there, most)) ∙ old_none)

  group_tomb : (r : GroupRecord) → find id_cmp q (group_rows c) ≡ Some r → find id_cmp q (tomb_rows (tree_buried now c d.tombs)) ≡ Some (max now r.state.modified)
  group_tomb r is =
      let counts = rows_count q c in
      let key = found_key q (group_rows c) r is in
      entries_off now q (entry_rows c) (groups_buried now (group_rows c) d.tombs) (omega (arith, counts, key, there, most))
      ∙ groups_on now q (group_rows c) d.tombs r (omega (arith, counts, there, most)) is old_none

other_tomb : (now : ℕ) (c : Tree) (ts : List Tombstone) (q : NodeId) → is_within c q ≡ false → find id_cmp q (tomb_rows (tree_buried now c ts)) ≡ find id_cmp q (tomb_rows ts)
other_tomb now c ts q off =
    let none = occurs_none q (node_ids c) off in
    let counts = rows_count q c in
    entries_off now q (entry_rows c) (groups_buried now (group_rows c) ts) (omega (arith, counts, none)) ∙ groups_off now q (group_rows c) ts (omega (arith, counts, none))

-- ---- a group that is deleted

module _ (path : List ℕ) (now : ℕ) (d e : BareDoc) (isd : IsDoc d) (ise : IsDoc e) (c : Tree) (named : group_named path d ≡ Ok c) (i : Inside d c)
    (is : record d { tree = changed_at i.parent (without_group (id_of c)) d.tree; tombs = tree_buried now c d.tombs } ≡ e) where
  abbrev u : NodeId
  u = id_of c

  abbrev rest : Tree
  rest = changed_at i.parent (without_group u) d.tree

  made : rest ≡ e.tree
  made = ap (λ (w : BareDoc). w.tree) is

  keeps : id_of (without_group u i.group) ≡ id_of i.group
  keeps = take_group_root u i.group

  gone_before : (q : NodeId) → is_within c q ≡ true → is_elsewhere rest q ≡ true
  gone_before q p = gone d isd i.parent i.group c i.there i.own q p

  far : (q : NodeId) → is_within c q ≡ true → is_elsewhere e.tree q ≡ true
  far q p = ap (λ (w : Tree). is_elsewhere w q) (sym made) ∙ gone_before q p

  there : (q : NodeId) → occurs q (node_ids c) ≤ occurs q (node_ids d.tree)
  there q = let less = counted_less d isd i.parent u c i.group i.there i.own q in omega (arith, less)

  tomb_now : (q : NodeId) → tomb_of e q ≡ find id_cmp q (tomb_rows (tree_buried now c d.tombs))
  tomb_now q = tomb_is e q ∙ ap (λ (w : BareDoc). find id_cmp q (tomb_rows w.tombs)) (sym is)

  own_entry_row : (q : NodeId) (x : EntryRecord) → is_within c q ≡ true → find id_cmp q (entry_rows d.tree) ≡ Some x → find id_cmp q (entry_rows c) ≡ Some x
  own_entry_row q x p has =
      let was = was_in entry_rows entry_rows_all entries_rows q i.parent (without_group u) d.tree i.group i.there keeps (elsewhere_entry q rest (gone_before q p)) in
      sym (was.0 ∙ take_entries q u c i.group i.own was.1) ∙ has

  own_group_row : (q : NodeId) (r : GroupRecord) → is_within c q ≡ true → find id_cmp q (group_rows d.tree) ≡ Some r → find id_cmp q (group_rows c) ≡ Some r
  own_group_row q r p has =
      let was = was_in group_rows group_rows_all groups_rows q i.parent (without_group u) d.tree i.group i.there keeps (elsewhere_group q rest (gone_before q p)) in
      sym (was.0 ∙ take_groups q u c i.group i.own was.1) ∙ has

  deleted : DeletesGroup path now d e
  deleted =
      let g = i.parent in
      let b = i.group in
      let lists = lost_lists u c b i.own in
      record {
        group = c;
        from = g;
        named = named;
        no_entry = λ q p. shape_entry e ise q ∙ elsewhere_entry q e.tree (far q p);
        no_group = λ q p. shape_group e ise q ∙ elsewhere_group q e.tree (far q p);
        no_list = λ q p. shape_kids e ise q ∙ elsewhere_lists q e.tree (far q p);
        lost = record {
          front = lists.front;
          back = lists.back;
          entries = lists.entries;
          was = shape_kids d isd g ∙ lists_found d.tree isd.distinct g (own_lists b)
              (row_was g (without_group u) d.tree b i.there keeps child_rows child_rows_all children_rows (g, own_lists b)
              (subst (λ (v : NodeId). IsIn (v, own_lists b) (child_rows b)) (found_id g d.tree b i.there) (own_lists_row b)))
              ∙ ap Some lists.was;
          now = shape_kids e ise g ∙ lists_found e.tree ise.distinct g (own_lists (without_group u b)) (subst (λ (w : Tree). IsIn (g, own_lists (without_group u b)) (child_rows w)) made
              (row_now g (without_group u) d.tree b i.there keeps child_rows child_rows_all children_rows (g, own_lists (without_group u b))
              (subst (λ (v : NodeId). IsIn (v, own_lists (without_group u b)) (child_rows (without_group u b))) (keeps ∙ found_id g d.tree b i.there) (own_lists_row (without_group u b)))))
              ∙ ap Some lists.now;
        };
        rest = same_but (is_within c) (is_within c) (λ q. is_within c q || is_id q g) d e isd ise
            (subst (λ (w : Tree). SameRows (is_within c) (is_within c) (λ q. is_within c q || is_id q g) d.tree w) made
            (same_at g (without_group u) d.tree b i.there keeps (is_within c) (is_within c) (λ q. is_within c q || is_id q g) (sym (root_same g (without_group u) d.tree b i.there keeps))
            (same_more (is_within c) (is_within c) (λ q. is_within c q || is_id q (id_of b)) (is_within c) (is_within c) (λ q. is_within c q || is_id q g) b (without_group u b) (λ q p. p) (λ q p. p)
            (λ q p. ap (λ v. is_within c q || is_id q v) (found_id g d.tree b i.there) ∙ p) (take_group_same u c b i.own))));
        entry_tombs = λ q x p has. tomb_now q ∙ entry_tomb d isd c now q p (there q) x (own_entry_row q x p (sym (shape_entry d isd q) ∙ has));
        group_tombs = λ q r p has. tomb_now q ∙ group_tomb d isd c now q p (there q) r (own_group_row q r p (sym (shape_group d isd q) ∙ has));
        other_tombs = λ q off. tomb_now q ∙ other_tomb now c d.tombs q off ∙ sym (tomb_is d q);
        meta = sym (ap (λ (w : BareDoc). w.meta) is);
      }

-- ---- a group that goes into the bin

with_new_bin : (d ready : BareDoc) (c : Tree) (bin : NodeId) (now : ℕ) → Inside d c → Ready d ready bin now → Inside ready c
with_new_bin d ready c bin now i r =
    let u = id_of c in
    let at : group_at i.parent u d.tree ≡ Some c = ap (option_and_then (child_with u)) i.there ∙ i.own in
    let off = free_elsewhere bin d r.free in
    let now_at : group_at i.parent u ready.tree ≡ Some c = ap (group_at i.parent u) r.tree ∙ found i.parent u bin now d.tree (ap is_some at) off ∙ at in
    let f = found_child i.parent u ready.tree c now_at in
    record {
      parent = i.parent;
      group = f.0;
      is = ap (parent_of u) r.tree ∙ parent_of_last u (empty_bin bin now) d.tree (u_off_bin i.parent u bin now d.tree (ap is_some at) off) ∙ i.is;
      there = f.1.0;
      own = f.1.1;
    }

-- an id that is not another is not found to be it
other_id : (u v : NodeId) → (u ≡ v → ⊥) → is_id u v ≡ false
other_id u v other = is_false (is_id u v) (λ p. other (same_id u v p))

recycled : (path : List ℕ) (d : BareDoc) (a : AfterRemoval) → IsDoc d → IsDoc a.doc → (c : Tree) → group_named path d ≡ Ok c → (i : Inside d c) → (bin : Option NodeId) (now : ℕ) → is_recycled (id_of c) d ≡ true
    → is_some bin ≡ needs_bin d → (with_bin_made bin now d >>= λ ready. (group_moved_to ready.meta.bin.value.id c now ready >>= after_recycling)) ≡ Ok a → RemovesGroup a.removed path bin now d a.doc
unfolding with_new_bin
recycled path d a isd isa c named i None now goes needed h =
    let own = own_named path d c named in
    let moved = bind_ok (group_moved_to d.meta.bin.value.id c now d) _ a h in
    let is = same_ok _ a moved.1.1 in
    subst (λ (w : AfterRemoval). RemovesGroup w.removed path None now d w.doc) is (record {
      group = id_of c;
      from = i.parent;
      named = own.0;
      ready = d;
      made = refl;
      moved = moves_to d moved.0 isd (subst (λ (w : AfterRemoval). IsDoc w.doc) (sym is) isa) c i d.meta.bin.value.id now (bin_there d (id_of c) goes (sym needed))
          (other_id i.parent d.meta.bin.value.id (not_bin d isd i.parent (id_of c) c i.is own.1 goes)) moved.1.0;
    })
recycled path d a isd isa c named i (Some bin) now goes needed h =
    let own = own_named path d c named in
    let ready = bind_ok (with_bin_made (Some bin) now d) _ a h in
    let r = bin_made d ready.0 isd bin now ready.1.0 in
    let moved = bind_ok (group_moved_to ready.0.meta.bin.value.id c now ready.0) _ a ready.1.1 in
    let is = same_ok _ a moved.1.1 in
    let has : has_group ready.0.meta.bin.value.id ready.0.tree ≡ true =
    ap (λ v. has_group v ready.0.tree) r.bin_id ∙ ap (has_group bin) r.tree ∙ last_there bin (empty_bin bin now) d.tree refl in
    let other = other_id i.parent ready.0.meta.bin.value.id (λ same.
    apart (has_group bin d.tree) (ap (λ v. has_group v d.tree) (sym (same ∙ r.bin_id)) ∙ (parent_has (id_of c) i.parent d.tree i.is).0) (free_absent bin d r.free)) in
    subst (λ (w : AfterRemoval). RemovesGroup w.removed path (Some bin) now d w.doc) is (record {
      group = id_of c;
      from = i.parent;
      named = own.0;
      ready = ready.0;
      made = new_bin d ready.0 isd bin now ready.1.0;
      moved = moves_to ready.0 moved.0 r.doc (subst (λ (w : AfterRemoval). IsDoc w.doc) (sym is) isa) c (with_new_bin d ready.0 c bin now i r) ready.0.meta.bin.value.id now has other moved.1.0;
    })

pub remove_group_frames : RemoveGroupFrames
remove_group_frames path bin now d a isd isa needed h =
    let removing = bind_ok (group_named path d) _ a h in
    let below = bind_ok (refuse_if (is_id (id_of removing.0) (id_of d.tree)) RootFixed) _ a removing.1.1 in
    let c = removing.0 in
    let named = removing.1.0 in
    let i = inside d isd c (own_named path d c named).1 (refuse_ok (is_id (id_of c) (id_of d.tree)) RootFixed below.0 below.1.0) in
    elim (decide (is_recycled (id_of c) d)) [
      | inl p ↦
          let k = sym (ap (λ b. if b then group_recycled bin c now d else Ok (group_deleted c now d)) p) ∙ below.1.1 in
          let out = bind_ok (refuse_if (has_group d.meta.bin.value.id c) (IntoItself (id_of c))) _ a k in
          let fits = bind_ok (refuse_if (nat_lt LEVELS (bin_level d + height c)) TooDeep) _ a out.1.1 in
          recycled path d a isd isa c named i bin now p needed fits.1.1
      | inr p ↦
          let is = same_ok (group_deleted c now d) a (sym (ap (λ b. if b then group_recycled bin c now d else Ok (group_deleted c now d)) p) ∙ below.1.1) in
          let doc : record d { tree = changed_at i.parent (without_group (id_of c)) d.tree; tombs = tree_buried now c d.tombs } ≡ a.doc =
          sym (ap (λ o. record d { tree = changed_at (unwrap_or o (id_of d.tree)) (without_group (id_of c)) d.tree; tombs = tree_buried now c d.tombs }) i.is) ∙ ap (λ (x : AfterRemoval). x.doc) is in
          subst (λ r. RemovesGroup r path bin now d a.doc) (ap (λ (x : AfterRemoval). x.removed) is) (deleted path now d a.doc isd isa c named i doc)
    ]
