-- What commands that make an entry or a group leave as it is.
use Rattle.std.proofs.Common.{◌≡◌, ◌+◌, Bool, true, false, not, inl, inr, List, [], Some, None, ℕ, refl, sym, ap, subst, ◌∙◌, nat_lt, arith}
use Rattle.std.specs.FinMap.{find}
use Rattle.vault_model.specs.Db.{NodeId, id_cmp}
use Rattle.vault_model.specs.Empty.{new_group}
use Rattle.vault_model.specs.Join.{IsIn}
use Rattle.vault_model.specs.Shape.{EntryRecord, GroupRecord, no_children}
use Rattle.vault_model.specs.Tree.{BareDoc, IsDoc, LEVELS, Tree, child_rows, child_rows_all, entry_rows, entry_rows_all, group_rows, group_rows_all, id_of, is_elsewhere, node, none}
use Rattle.merge_core.proofs.SoundDoc.{shape_entry, shape_group, shape_kids}
use Rattle.tree_core.specs.Finding.{group_at_path, has_entry_path, without_slashes}
use Rattle.tree_core.specs.declared.fails.TreeFail.TheVariants.{IdTaken, NameTaken, TooDeep}
use Rattle.tree_core.specs.After.{is_group_taken, named_or_refusal, refuse_if}
use Rattle.tree_core.specs.Changes.{changed_at, group_with, is_free, level_of, with_entry, with_group}
use Rattle.tree_core.specs.NewNodes.{GivenValues, new_entry, new_fields}
use Rattle.tree_core.specs.NewPaths.{after_last, before_last, new_path}
use Rattle.tree_core.proofs.Around.{children_rows, entries_rows, found_group, found_id, groups_rows}
use Rattle.tree_core.proofs.Counted.{elsewhere_occurs}
use Rattle.tree_core.proofs.Named.{group_there}
use Rattle.tree_core.proofs.Rows.{none_found}
use Rattle.tree_removals.proofs.GroupBins.{free_elsewhere}
use Rattle.tree_removals.proofs.ManyTombs.{rows_count}
use Rattle.growth_laws.proofs.Carries.{put_entry_row, put_group_group}
use Rattle.growth_laws.proofs.Outcomes.{bind_ok, named_ok, refuse_ok, same_ok}
use Rattle.growth_laws.proofs.Stays.{entry_is, group_is}
use Rattle.growth_laws.proofs.Steps.{put_group_keeps, root_same}
use Rattle.frame_laws.specs.Frame.{HasNewGroup, AreSameBut, children_of, entry_of, group_of, no_node, only, either}
use Rattle.frame_laws.specs.Entries.{AddFrames, AddsEntry, MakeGroupFrames}
use Rattle.frame_laws.proofs.EntryFrames.{put_root, same_off}
use Rattle.frame_laws.proofs.Finds.{SameRows, lists_found, own_lists, own_lists_row, put_group_lists, put_group_same, put_lists, put_same, row_last, row_now, row_was, same_at, same_but, same_more}

-- ---- ids that no node has

not_false_true : (b : Bool) → not b ≡ false → b ≡ true
not_false_true true e = refl
not_false_true false e = sym e

pub free_id : (id : NodeId) (d : BareDoc) → not (is_free id d) ≡ false → is_free id d ≡ true
free_id id d e = not_false_true (is_free id d) e

pub elsewhere_entry : (id : NodeId) (t : Tree) → is_elsewhere t id ≡ true → find id_cmp id (entry_rows t) ≡ None
elsewhere_entry id t off = none_found id (entry_rows t) (let all = rows_count id t in let zero = elsewhere_occurs t id off in omega (arith, all, zero))

pub elsewhere_group : (id : NodeId) (t : Tree) → is_elsewhere t id ≡ true → find id_cmp id (group_rows t) ≡ None
elsewhere_group id t off = none_found id (group_rows t) (let all = rows_count id t in let zero = elsewhere_occurs t id off in omega (arith, all, zero))

-- ---- add

abbrev new_row : List ℕ → NodeId → GivenValues → ℕ → BareDoc → NodeId × EntryRecord
new_row path id values now d = (id, new_entry (new_fields d.meta.settings.value.protect (after_last path) values) now)

pub add_frames : AddFrames
add_frames path id values now d e isd ise h =
    let group = bind_ok (named_or_refusal (group_at_path d (before_last path))) _ e h in
    let path_free = bind_ok (refuse_if (has_entry_path d (new_path path)) NameTaken) _ e group.1.1 in
    let id_free = bind_ok (refuse_if (not (is_free id d)) (IdTaken id)) _ e path_free.1.1 in
    let is = same_ok _ e id_free.1.1 in
    let named = named_ok (group_at_path d (before_last path)) group.0 group.1.0 in
    let f = found_group group.0 d.tree (group_there d (before_last path) group.0 named) in
    subst (λ (w : BareDoc). AddsEntry path id values now d w) is
    (added group.0 named f.0 f.1 (free_id id d (refuse_ok (not (is_free id d)) (IdTaken id) id_free.0 id_free.1.0)) (subst IsDoc (sym is) ise))
  where
    added : (g : NodeId) → group_at_path d (before_last path) ≡ Some g → (b : Tree) → group_with g d.tree ≡ Some b → is_free id d ≡ true → IsDoc (record d { tree = changed_at g (with_entry (new_row path id values now d)) d.tree })
        → AddsEntry path id values now d (record d { tree = changed_at g (with_entry (new_row path id values now d)) d.tree })
    added g named b there free isw =
        let x = new_row path id values now d in
        let w : BareDoc = record d { tree = changed_at g (with_entry x) d.tree } in
        let off = free_elsewhere id d free in
        let keeps = put_root x b in
        record {
          group = g;
          named = named;
          no_entry = shape_entry d isd id ∙ elsewhere_entry id d.tree off;
          no_group = shape_group d isd id ∙ elsewhere_group id d.tree off;
          is = entry_is w isw id x.1 (row_now g (with_entry x) d.tree b there keeps entry_rows entry_rows_all entries_rows x (put_entry_row x b));
          new = record {
            before = own_lists b;
            was = shape_kids d isd g ∙ lists_found d.tree isd.distinct g (own_lists b)
                (row_was g (with_entry x) d.tree b there keeps child_rows child_rows_all children_rows (g, own_lists b)
                (subst (λ (v : NodeId). IsIn (v, own_lists b) (child_rows b)) (found_id g d.tree b there) (own_lists_row b)));
            now = shape_kids w isw g ∙ lists_found w.tree isw.distinct g (own_lists (with_entry x b))
                (row_now g (with_entry x) d.tree b there keeps child_rows child_rows_all children_rows (g, own_lists (with_entry x b))
                (subst (λ (v : NodeId). IsIn (v, own_lists (with_entry x b)) (child_rows (with_entry x b))) (keeps ∙ found_id g d.tree b there) (own_lists_row (with_entry x b))))
                ∙ ap Some (put_lists x b);
          };
          rest = same_but (only id) no_node (only g) d w isd isw
              (same_at g (with_entry x) d.tree b there keeps (only id) no_node (only g) (sym (root_same g (with_entry x) d.tree b there keeps))
              (same_more (only id) no_node (only (id_of b)) (only id) no_node (only g) b (with_entry x b) (λ q p. p) (λ q p. p) (λ q p. same_off q g (id_of b) (sym (found_id g d.tree b there)) p) (put_same x b)));
          tombs = refl;
          meta = refl;
        }

-- ---- groups that are made

-- A new group in a tree.
pub record PutGroup (g id : NodeId) (s : GroupRecord) (d w : BareDoc) : Type 0 where
  pub no_entry : entry_of d id ≡ None
  pub no_group : group_of d id ≡ None
  pub is : group_of w id ≡ Some s
  pub empty : children_of w id ≡ Some no_children
  pub new : HasNewGroup g id d w
  pub rest : AreSameBut no_node (only id) (either g id) d w

own_list_last : (id : NodeId) (s : GroupRecord) (b : Tree) → IsIn (id, no_children) (child_rows (with_group (node id s [] none) b))
own_list_last id s (node v r es ts) = inr (row_last child_rows child_rows_all children_rows (node id s [] none) ts (id, no_children) (inl refl))

pub put_group : (g id : NodeId) (s : GroupRecord) (d w : BareDoc) → IsDoc d → IsDoc w → (b : Tree) → group_with g d.tree ≡ Some b → is_free id d ≡ true
    → changed_at g (with_group (node id s [] none)) d.tree ≡ w.tree → PutGroup g id s d w
put_group g id s d w isd isw b there free made =
    let new = node id s [] none in
    let off = free_elsewhere id d free in
    let keeps = put_group_keeps new b in
    record {
      no_entry = shape_entry d isd id ∙ elsewhere_entry id d.tree off;
      no_group = shape_group d isd id ∙ elsewhere_group id d.tree off;
      is = group_is w isw id s (subst (λ (t : Tree). IsIn (id, s) (group_rows t)) made
          (row_now g (with_group new) d.tree b there keeps group_rows group_rows_all groups_rows (id, s) (put_group_group new b (id, s) (inl refl))));
      empty = shape_kids w isw id ∙ lists_found w.tree isw.distinct id no_children (subst (λ (t : Tree). IsIn (id, no_children) (child_rows t)) made
          (row_now g (with_group new) d.tree b there keeps child_rows child_rows_all children_rows (id, no_children) (own_list_last id s b)));
      new = record {
        before = own_lists b;
        was = shape_kids d isd g ∙ lists_found d.tree isd.distinct g (own_lists b)
            (row_was g (with_group new) d.tree b there keeps child_rows child_rows_all children_rows (g, own_lists b)
            (subst (λ (v : NodeId). IsIn (v, own_lists b) (child_rows b)) (found_id g d.tree b there) (own_lists_row b)));
        now = shape_kids w isw g ∙ lists_found w.tree isw.distinct g (own_lists (with_group new b)) (subst (λ (t : Tree). IsIn (g, own_lists (with_group new b)) (child_rows t)) made
            (row_now g (with_group new) d.tree b there keeps child_rows child_rows_all children_rows (g, own_lists (with_group new b))
            (subst (λ (v : NodeId). IsIn (v, own_lists (with_group new b)) (child_rows (with_group new b))) (keeps ∙ found_id g d.tree b there) (own_lists_row (with_group new b)))))
            ∙ ap Some (put_group_lists new b);
      };
      rest = same_but no_node (only id) (either g id) d w isd isw
          (subst (λ (t : Tree). SameRows no_node (only id) (either g id) d.tree t) made
          (same_at g (with_group new) d.tree b there keeps no_node (only id) (either g id) (sym (root_same g (with_group new) d.tree b there keeps))
          (same_more no_node (only id) (either (id_of b) id) no_node (only id) (either g id) b (with_group new b) (λ q p. p) (λ q p. p)
          (λ q p. ap (λ v. either v id q) (found_id g d.tree b there) ∙ p) (put_group_same id s b))));
    }

pub make_group_frames : MakeGroupFrames
make_group_frames text id now d e isd ise h =
    let path = without_slashes text in
    let group = bind_ok (named_or_refusal (group_at_path d (before_last path))) _ e h in
    let path_free = bind_ok (refuse_if (is_group_taken (new_path path) d) NameTaken) _ e group.1.1 in
    let fits = bind_ok (refuse_if (nat_lt LEVELS (level_of group.0 d.tree + 1)) TooDeep) _ e path_free.1.1 in
    let id_free = bind_ok (refuse_if (not (is_free id d)) (IdTaken id)) _ e fits.1.1 in
    let is = same_ok _ e id_free.1.1 in
    let named = named_ok (group_at_path d (before_last path)) group.0 group.1.0 in
    let f = found_group group.0 d.tree (group_there d (before_last path) group.0 named) in
    let p = put_group group.0 id (new_group (after_last path) now) d e isd ise f.0 f.1 (free_id id d (refuse_ok (not (is_free id d)) (IdTaken id) id_free.0 id_free.1.0)) (ap (λ (w : BareDoc). w.tree) is) in
    record {
      group = group.0;
      named = named;
      no_entry = p.no_entry;
      no_group = p.no_group;
      is = p.is;
      empty = p.empty;
      new = p.new;
      rest = p.rest;
      tombs = sym (ap (λ (w : BareDoc). w.tombs) is);
      meta = sym (ap (λ (w : BareDoc). w.meta) is);
    }
