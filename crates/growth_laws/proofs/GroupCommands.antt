-- Commands on groups only grow.
use Rattle.std.proofs.Common.{◌≡◌, ◌+◌, ℕ, true, false, not, inl, inr, is_some, nat_lt, List, Option, None, Some, Ok, refl, sym, ap, subst, ◌∙◌}
use Rattle.std.specs.Option.{option_and_then, unwrap_or}
use Rattle.std.specs.Prelude.{if◌then◌else◌}
use Rattle.outside_core.specs.Results.{◌>>=◌}
use Rattle.vault_model.specs.Db.{NodeId}
use Rattle.vault_model.specs.Join.{is_id}
use Rattle.vault_model.specs.Shape.{shared_of}
use Rattle.vault_model.specs.Tree.{BareDoc, IsDoc, LEVELS, Tree, height, id_of, node_ids}
use Rattle.vault_model.proofs.Tests.{apart, decide, is_false}
use Rattle.merge_core.proofs.Joins.{meta_joins}
use Rattle.tree_core.specs.Finding.{group_at_path, group_found, without_slashes}
use Rattle.tree_core.specs.declared.fails.TreeFail.TheVariants.{AlreadyThere, IdTaken, IntoItself, NameTaken, RootFixed, TooDeep}
use Rattle.tree_core.specs.After.{AfterRemoval, after_new_group, after_recycling, bin_level, group_deleted, group_moved_to, group_named, group_recycled, is_group_taken, is_parent, is_recycled, named_or_refusal, needs_bin, refuse_if, time_after, with_bin_made}
use Rattle.tree_core.specs.Changes.{changed_at, child_with, group_moved, group_with, has_group, is_free, level_of, parent_of, placed_of, tree_buried, without_group}
use Rattle.tree_core.specs.NewNodes.{empty_bin, empty_group}
use Rattle.tree_core.specs.NewPaths.{after_last, before_last, new_path}
use Rattle.tree_core.proofs.Around.{found_group, found_id}
use Rattle.tree_core.proofs.Counted.{once}
use Rattle.tree_core.proofs.GroupMoves.{to_there}
use Rattle.tree_core.proofs.Named.{group_there, named_group}
use Rattle.tree_core.proofs.Options.{never}
use Rattle.tree_removals.specs.TreeMoves.GroupPlaces.{group_at}
use Rattle.tree_removals.proofs.TreeMoves.GroupChildren.{found_child, off_goal}
use Rattle.tree_removals.proofs.TreeMoves.GroupParents.{flipped, parent_found}
use Rattle.tree_removals.proofs.GroupBins.{found, free_elsewhere, parent_of_last, u_off_bin}
use Rattle.tree_removals.proofs.LastGroups.{last_there}
use Rattle.growth_laws.specs.Growth.{MakeGroupGrows, MoveGroupGrows, RemoveGroupGrows}
use Rattle.growth_laws.proofs.Commands.{Ready, bin_made, bin_there}
use Rattle.growth_laws.proofs.GroupSteps.{move_group_stays}
use Rattle.growth_laws.proofs.LostSteps.{delete_group_stays}
use Rattle.growth_laws.proofs.Outcomes.{bind_ok, named_ok, refuse_ok, same_ok, time_ok}
use Rattle.growth_laws.proofs.Stays.{Stays, stays_then}
use Rattle.growth_laws.proofs.StaysGrow.{stays_grow}
use Rattle.growth_laws.proofs.Steps.{put_group_stays}

-- ---- groups made

new_group_grows : (path : List ℕ) (id : NodeId) (now : ℕ) (d e : BareDoc) → IsDoc d → IsDoc e → after_new_group path id now d ≡ Ok e → Stays d e
new_group_grows path id now d e isd ise h =
    let group = bind_ok (named_or_refusal (group_at_path d (before_last path))) _ e h in
    let path_free = bind_ok (refuse_if (is_group_taken (new_path path) d) NameTaken) _ e group.1.1 in
    let fits = bind_ok (refuse_if (nat_lt LEVELS (level_of group.0 d.tree + 1)) TooDeep) _ e path_free.1.1 in
    let id_free = bind_ok (refuse_if (not (is_free id d)) (IdTaken id)) _ e fits.1.1 in
    let is = same_ok _ e id_free.1.1 in
    let f = found_group group.0 d.tree (group_there d (before_last path) group.0 (named_ok (group_at_path d (before_last path)) group.0 group.1.0)) in
    subst (λ (w : BareDoc). Stays d w) is
    (put_group_stays d _ isd (subst (λ (w : BareDoc). IsDoc w) (sym is) ise) group.0 f.0 (empty_group id (after_last path) now) f.1 refl refl (meta_joins.idem (shared_of d.meta)))

pub make_group_grows : MakeGroupGrows
make_group_grows path id now d e isd ise h = stays_grow d e isd ise (new_group_grows (without_slashes path) id now d e isd ise h)

-- ---- groups moved

-- The group that a group is in.
record InGroup (d : BareDoc) (g : Tree) : Type 0 where
  parent : NodeId
  group : Tree
  is : parent_of (id_of g) d.tree ≡ Some parent
  there : group_with parent d.tree ≡ Some group
  own : child_with (id_of g) group ≡ Some g

in_group : (d : BareDoc) → IsDoc d → (g : Tree) → group_with (id_of g) d.tree ≡ Some g → is_id (id_of g) (id_of d.tree) ≡ false → InGroup d g
in_group d is g there off =
    let f = parent_found (id_of g) d.tree g (once (node_ids d.tree) is.distinct)
    (is_false (is_id (id_of d.tree) (id_of g)) (λ p. apart (is_id (id_of g) (id_of d.tree)) (flipped (id_of d.tree) (id_of g) p) off)) there in
    record { parent = f.id; group = f.group; is = f.is; there = f.there; own = f.child }

group_moved_stays : (d e : BareDoc) → IsDoc d → IsDoc e → (g : Tree) → InGroup d g → (to : NodeId) (now : ℕ) → has_group to d.tree ≡ true → group_moved_to to g now d ≡ Ok e → Stays d e
group_moved_stays d e isd ise g i to now has h =
    let outside = bind_ok (refuse_if (has_group to g) (IntoItself (id_of g))) _ e h in
    let fits = bind_ok (refuse_if (nat_lt LEVELS (level_of to d.tree + height g)) TooDeep) _ e outside.1.1 in
    let time = bind_ok (time_after now (placed_of g)) _ e fits.1.1 in
    let u = id_of g in
    let is = sym (ap (λ o. record d { tree = group_moved (unwrap_or o (id_of d.tree)) to time.0 g d.tree }) i.is) ∙ same_ok _ e time.1.1 in
    let at : group_at i.parent u d.tree ≡ Some g = ap (option_and_then (child_with u)) i.there ∙ i.own in
    let off = off_goal i.parent to u d.tree g at (refuse_ok (has_group to g) (IntoItself u) outside.0 outside.1.0) in
    let goal = found_group to (changed_at i.parent (without_group u) d.tree) (to_there i.parent to u d.tree off ∙ has) in
    subst (λ (w : BareDoc). Stays d w) is
    (move_group_stays d i.parent to time.0 g i.group goal.0 isd (subst (λ (w : BareDoc). IsDoc w) (sym is) ise) i.there i.own goal.1 (time_ok now (placed_of g) time.0 time.1.0))

-- what a path names is found by its own id
own_named : (path : List ℕ) (d : BareDoc) (g : Tree) → group_named path d ≡ Ok g → group_with (id_of g) d.tree ≡ Some g
own_named path d g h = of (group_found d path) (named_ok (option_and_then (λ id. group_with id d.tree) (group_found d path)) g h)
  where
    of : (o : Option NodeId) → option_and_then (λ id. group_with id d.tree) o ≡ Some g → group_with (id_of g) d.tree ≡ Some g
    of None k = never g k
    of (Some id) k = ap (λ v. group_with v d.tree) (found_id id d.tree g k) ∙ k

pub move_group_grows : MoveGroupGrows
move_group_grows path goal now d e isd ise h =
    let moving = bind_ok (group_named path d) _ e h in
    let group = bind_ok (named_or_refusal (group_found d goal)) _ e moving.1.1 in
    let elsewhere = bind_ok (refuse_if (is_parent group.0 (parent_of (id_of moving.0) d.tree)) AlreadyThere) _ e group.1.1 in
    let below = bind_ok (refuse_if (is_id (id_of moving.0) (id_of d.tree)) RootFixed) _ e elsewhere.1.1 in
    let i = in_group d isd moving.0 (own_named path d moving.0 moving.1.0) (refuse_ok (is_id (id_of moving.0) (id_of d.tree)) RootFixed below.0 below.1.0) in
    stays_grow d e isd ise
    (group_moved_stays d e isd ise moving.0 i group.0 now (named_group d goal group.0 (named_ok (group_found d goal) group.0 group.1.0)) below.1.1)

-- ---- groups removed

in_group_with_bin : (d ready : BareDoc) (g : Tree) (bin : NodeId) (now : ℕ) → InGroup d g → Ready d ready bin now → InGroup ready g
in_group_with_bin d ready g bin now i r =
    let u = id_of g in
    let at : group_at i.parent u d.tree ≡ Some g = ap (option_and_then (child_with u)) i.there ∙ i.own in
    let off = free_elsewhere bin d r.free in
    let now_at : group_at i.parent u ready.tree ≡ Some g = ap (group_at i.parent u) r.tree ∙ found i.parent u bin now d.tree (ap is_some at) off ∙ at in
    let f = found_child i.parent u ready.tree g now_at in
    record {
      parent = i.parent;
      group = f.0;
      is = ap (parent_of u) r.tree ∙ parent_of_last u (empty_bin bin now) d.tree (u_off_bin i.parent u bin now d.tree (ap is_some at) off) ∙ i.is;
      there = f.1.0;
      own = f.1.1;
    }

group_recycled_stays : (d : BareDoc) (a : AfterRemoval) → IsDoc d → IsDoc a.doc → (g : Tree) → InGroup d g → (bin : Option NodeId) (now : ℕ) → is_recycled (id_of g) d ≡ true → is_some bin ≡ needs_bin d
    → group_recycled bin g now d ≡ Ok a → Stays d a.doc
group_recycled_stays d a isd isa g i bin now goes needed h =
    let outside = bind_ok (refuse_if (has_group d.meta.bin.value.id g) (IntoItself (id_of g))) _ a h in
    let fits = bind_ok (refuse_if (nat_lt LEVELS (bin_level d + height g)) TooDeep) _ a outside.1.1 in
    of bin needed fits.1.1
  where
    of : (o : Option NodeId) → is_some o ≡ needs_bin d → (with_bin_made o now d >>= λ ready. (group_moved_to ready.meta.bin.value.id g now ready >>= after_recycling)) ≡ Ok a → Stays d a.doc
    of None q k =
        let moved = bind_ok (group_moved_to d.meta.bin.value.id g now d) _ a k in
        let is = ap (λ (x : AfterRemoval). x.doc) (same_ok _ a moved.1.1) in
        subst (λ (w : BareDoc). Stays d w) is
        (group_moved_stays d moved.0 isd (subst (λ (w : BareDoc). IsDoc w) (sym is) isa) g i d.meta.bin.value.id now (bin_there d (id_of g) goes (sym q)) moved.1.0)
    of (Some b) q k =
        let ready = bind_ok (with_bin_made (Some b) now d) _ a k in
        let r = bin_made d ready.0 isd b now ready.1.0 in
        let moved = bind_ok (group_moved_to ready.0.meta.bin.value.id g now ready.0) _ a ready.1.1 in
        let is = ap (λ (x : AfterRemoval). x.doc) (same_ok _ a moved.1.1) in
        let has : has_group ready.0.meta.bin.value.id ready.0.tree ≡ true =
        ap (λ v. has_group v ready.0.tree) r.bin_id ∙ ap (has_group b) r.tree ∙ last_there b (empty_bin b now) d.tree refl in
        subst (λ (w : BareDoc). Stays d w) is
        (stays_then d ready.0 moved.0 r.stays
        (group_moved_stays ready.0 moved.0 r.doc (subst (λ (w : BareDoc). IsDoc w) (sym is) isa) g (in_group_with_bin d ready.0 g b now i r) ready.0.meta.bin.value.id now has moved.1.0))

pub remove_group_grows : RemoveGroupGrows
remove_group_grows path bin now d a isd isa needed h =
    let removing = bind_ok (group_named path d) _ a h in
    let below = bind_ok (refuse_if (is_id (id_of removing.0) (id_of d.tree)) RootFixed) _ a removing.1.1 in
    let g = removing.0 in
    let i = in_group d isd g (own_named path d g removing.1.0) (refuse_ok (is_id (id_of g) (id_of d.tree)) RootFixed below.0 below.1.0) in
    stays_grow d a.doc isd isa (elim (decide (is_recycled (id_of g) d)) [
      | inl p ↦ group_recycled_stays d a isd isa g i bin now p needed
          (sym (ap (λ c. if c then group_recycled bin g now d else Ok (group_deleted g now d)) p) ∙ below.1.1)
      | inr p ↦
          let is = ap (λ (x : AfterRemoval). x.doc) (same_ok (group_deleted g now d) a
          (sym (ap (λ c. if c then group_recycled bin g now d else Ok (group_deleted g now d)) p) ∙ below.1.1)) in
          let from = sym (ap (λ o. record d { tree = changed_at (unwrap_or o (id_of d.tree)) (without_group (id_of g)) d.tree; tombs = tree_buried now g d.tombs }) i.is) ∙ is in
          subst (λ (w : BareDoc). Stays d w) from (delete_group_stays d i.parent now g i.group isd (subst (λ (w : BareDoc). IsDoc w) (sym from) isa) i.there i.own)
    ])
