-- Commands only add.
use Rattle.std.proofs.Common.{◌≡◌, ℕ, true, not, inl, inr, List, [], Option, Some, None, Ok, is_some, nat_lt, ◌+◌, refl, sym, ap, subst, ◌∙◌}
use Rattle.std.proofs.lemmas.Option.{same_Some}
use Rattle.std.specs.Prelude.{if◌then◌else◌}
use Rattle.vault_model.specs.Bare.{BareContent}
use Rattle.vault_model.specs.Db.{NodeId}
use Rattle.vault_model.specs.Join.{IsIn, is_id}
use Rattle.vault_model.specs.SeenNodes.{entry_time}
use Rattle.vault_model.specs.Shape.{EntryRecord, GroupRecord}
use Rattle.vault_model.specs.Tree.{BareDoc, IsDoc, LEVELS, Tree, entry_rows, id_of, node, node_ids, none}
use Rattle.vault_model.proofs.Tests.{decide}
use Rattle.merge_core.proofs.SoundDoc.{below_node, distinct_from, document_sound, entry_node, kinds_apart}
use Rattle.tree_core.specs.Finding.{group_at_path, group_found, has_entry_path, without_slashes}
use Rattle.tree_core.specs.declared.fails.Removed.TheVariants.{Deleted, Recycled}
use Rattle.tree_core.specs.declared.fails.TreeFail.TheVariants.{AlreadyThere, IdTaken, NameTaken, TooDeep}
use Rattle.tree_core.specs.After.{AfterRemoval, Holding, changed_content, edited_so, entry_deleted, entry_moved_to, entry_named, entry_recycled, is_group_taken, is_recycled, named_or_refusal, needs_bin, refuse_if, time_after, version_or_refusal, with_bin_made}
use Rattle.tree_core.specs.Attachments.{has_attachment, is_attachable, with_attachment, without_attachment}
use Rattle.tree_core.specs.Changes.{changed_at, changed_entry, entry_moved, group_with, has_group, is_free, level_of, moved_entry, with_entry, with_group, without, without_entry}
use Rattle.tree_core.specs.FurtherChanges.{has_unset}
use Rattle.tree_core.specs.NewNodes.{empty_bin, new_entry, new_fields}
use Rattle.vault_model.specs.Empty.{new_group}
use Rattle.tree_core.specs.NewPaths.{after_last, before_last, new_path}
use Rattle.tree_core.proofs.Around.{found_group, found_id}
use Rattle.tree_core.proofs.EntriesMoved.{same_there}
use Rattle.tree_core.proofs.Named.{group_there, named_group}
use Rattle.tree_removals.proofs.LastGroups.{has_root, last_there}
use Rattle.growth_laws.proofs.Carries.{Carries, Entry, carries_at, change_entry_carries, change_entry_row, entry_in, put_entry_carries, put_entry_row, put_group_carries, take_entry_carries, was_entry_in}
use Rattle.growth_laws.proofs.Commands.{Found, bin_made, bin_there, found, held_with_bin}
use Rattle.growth_laws.proofs.Outcomes.{bind_ok, named_ok, same_ok}
use Rattle.growth_laws.proofs.Steps.{carries_then, change_root, own_row, put_group_keeps, root_same, take_root}
use Rattle.command_laws.specs.Adding.{AddAdds, AddingIsFree, AddsOnly, AttachAdds, ChangeAdds, DetachAdds, EditAdds, MakeGroupAdds, MoveEntryAdds, RecyclingAdds, RestoreAdds}
use Rattle.command_laws.proofs.Additions.{adds_then, change_new, group_new, nodes_new, put_new, rows_add, take_new, tree_new}

-- ---- one step

put_root : (e : Entry) (b : Tree) → id_of (with_entry e b) ≡ id_of b
put_root e (node v r es ts) = refl

none_not : {A : Type 0} (u : NodeId) → None ≡ Some u → A
none_not u e = absurd (let no : None ≡ Some u → ⊥ = λ z. cc z in no e)

-- an entry is put into a group
put_entry_adds : (d : BareDoc) (g : NodeId) (b : Tree) (x : Entry) → IsDoc d → IsDoc (record d { tree = changed_at g (with_entry x) d.tree }) → group_with g d.tree ≡ Some b
    → AddsOnly (Some x.0) d (record d { tree = changed_at g (with_entry x) d.tree })
put_entry_adds d g b x isd ise there =
    let e : BareDoc = record d { tree = changed_at g (with_entry x) d.tree } in
    record {
      adds = rows_add d e isd ise (carries_at g (with_entry x) d.tree b there (put_root x b) (put_entry_carries x b))
          (λ u y l. absurd l) (λ r l. l) (λ h u r l i. l) refl (root_same g (with_entry x) d.tree b there (put_root x b));
      new = nodes_new d e isd ise (Some x.0) (tree_new (Some x.0) g (with_entry x) d.tree b there (put_root x b ∙ found_id g d.tree b there) (put_new x b));
    }

-- an empty group is put into a group
put_group_adds : (d e : BareDoc) (g : NodeId) (b : Tree) (id : NodeId) (s : GroupRecord) → IsDoc d → IsDoc e → group_with g d.tree ≡ Some b
    → e.tree ≡ changed_at g (with_group (node id s [] none)) d.tree → d.tombs ≡ e.tombs → AddsOnly (Some id) d e
put_group_adds d e g b id s isd ise there is tombs =
    let w = node id s [] none in
    let c : Carries d.tree e.tree (λ r. ⊥) (λ r. ⊥) (λ h u. ⊥) =
    subst (λ (t : Tree). Carries d.tree t (λ r. ⊥) (λ r. ⊥) (λ h u. ⊥)) (sym is) (carries_at g (with_group w) d.tree b there (put_group_keeps w b) (put_group_carries w b)) in
    record {
      adds = rows_add d e isd ise c (λ u y l. absurd l) (λ r l. l) (λ h u r l i. l) tombs
          (root_same g (with_group w) d.tree b there (put_group_keeps w b) ∙ sym (ap id_of is));
      new = nodes_new d e isd ise (Some id) (λ u i.
          tree_new (Some id) g (with_group w) d.tree b there (put_group_keeps w b ∙ found_id g d.tree b there) (group_new id s b) u
          (subst (λ (t : Tree). IsIn u (node_ids t)) is i));
    }

-- an entry is changed
change_entry_adds : (d : BareDoc) (held : Holding) (f : EntryRecord → EntryRecord) → IsDoc d → IsDoc (record d { tree = changed_at held.group (changed_entry held.entry.0 f) d.tree }) → Found d held
    → AddsOnly None d (record d { tree = changed_at held.group (changed_entry held.entry.0 f) d.tree })
change_entry_adds d held f isd ise h =
    let x = held.entry in
    let e : BareDoc = record d { tree = changed_at held.group (changed_entry x.0 f) d.tree } in
    let row : IsIn (x.0, f x.1) (entry_rows e.tree) = entry_in held.group (changed_entry x.0 f) d.tree h.group h.there (change_root x.0 f h.group) (x.0, f x.1) (change_entry_row x.0 f x h.group h.own) in
    record {
      adds = rows_add d e isd ise (carries_at held.group (changed_entry x.0 f) d.tree h.group h.there (change_root x.0 f h.group) (change_entry_carries x.0 f x h.group h.own))
          (λ u y p. (f x.1, subst (λ (v : NodeId). IsIn (v, f x.1) (entry_rows e.tree)) (ap (λ (z : Entry). z.0) p) row)) (λ r l. l) (λ g u r l i. l) refl
          (root_same held.group (changed_entry x.0 f) d.tree h.group h.there (change_root x.0 f h.group));
      new = nodes_new d e isd ise None (tree_new None held.group (changed_entry x.0 f) d.tree h.group h.there (change_root x.0 f h.group ∙ found_id held.group d.tree h.group h.there) (change_new x.0 f h.group));
    }

-- an entry is moved
move_entry_adds_at : (d : BareDoc) (held : Holding) (to : NodeId) (time : ℕ) → IsDoc d → IsDoc (record d { tree = entry_moved held.group to time held.entry d.tree }) → Found d held → has_group to d.tree ≡ true
    → AddsOnly None d (record d { tree = entry_moved held.group to time held.entry d.tree })
move_entry_adds_at d held to time isd ise h has =
    let x = held.entry in
    let y : Entry = (x.0, moved_entry held.group time x.1) in
    let mid = changed_at held.group (without_entry x.0) d.tree in
    let e : BareDoc = record d { tree = entry_moved held.group to time x d.tree } in
    let goal = found_group to mid (same_there to held.group (without x.0) d.tree ∙ has) in
    let c : Carries d.tree e.tree (λ r. x ≡ r) (λ r. ⊥) (λ g q. x.0 ≡ q) = carries_then d.tree mid e.tree
    (carries_at held.group (without_entry x.0) d.tree h.group h.there (take_root x.0 h.group) (take_entry_carries x.0 x h.group h.own))
    (carries_at to (with_entry y) mid goal.0 goal.1 (put_root y goal.0) (put_entry_carries y goal.0)) in
    let row : IsIn y (entry_rows e.tree) = entry_in to (with_entry y) mid goal.0 goal.1 (put_root y goal.0) y (put_entry_row y goal.0) in
    let was : IsIn x (entry_rows d.tree) = was_entry_in held.group d.tree h.group h.there x (own_row x.0 x h.group h.own) in
    record {
      adds = rows_add d e isd ise c
          (λ u r p. (y.1, subst (λ (v : NodeId). IsIn (v, y.1) (entry_rows e.tree)) (ap (λ (z : Entry). z.0) p) row)) (λ r l. l)
          (λ g u r p i. kinds_apart d.tree u x.1 r (distinct_from (node_ids d.tree) isd.distinct) (subst (λ (v : NodeId). IsIn (v, x.1) (entry_rows d.tree)) p was) i) refl
          (root_same held.group (without_entry x.0) d.tree h.group h.there (take_root x.0 h.group) ∙ root_same to (with_entry y) mid goal.0 goal.1 (put_root y goal.0));
      new = nodes_new d e isd ise None (λ u i.
          elim (tree_new (Some x.0) to (with_entry y) mid goal.0 goal.1 (put_root y goal.0 ∙ found_id to mid goal.0 goal.1) (put_new y goal.0) u i) [
            | inl k ↦ tree_new None held.group (without_entry x.0) d.tree h.group h.there (take_root x.0 h.group ∙ found_id held.group d.tree h.group h.there) (take_new x.0 h.group) u k
            | inr k ↦ inl (in_tree d.tree u x.1 (subst (λ (v : NodeId). IsIn (v, x.1) (entry_rows d.tree)) (same_Some x.0 u k) was))
          ]);
    }
  where
    in_tree : (t : Tree) (u : NodeId) (r : EntryRecord) → IsIn (u, r) (entry_rows t) → IsIn u (node_ids t)
    in_tree t u r i = below_node t u (entry_node t u r i)

moved_adds : (d e : BareDoc) → IsDoc d → IsDoc e → (held : Holding) → Found d held → (to : NodeId) (now : ℕ) → has_group to d.tree ≡ true → entry_moved_to to held now d ≡ Ok e → AddsOnly None d e
moved_adds d e isd ise held f to now has h =
    let time = bind_ok (time_after now held.entry.1.placed) _ e h in
    let is = same_ok _ e time.1.1 in
    subst (λ (w : BareDoc). AddsOnly None d w) is
    (move_entry_adds_at d held to time.0 isd (subst (λ (w : BareDoc). IsDoc w) (sym is) ise) f has)

-- ---- the commands

pub add_adds : AddAdds
add_adds path id values now d e isd ise h =
    let group = bind_ok (named_or_refusal (group_at_path d (before_last path))) _ e h in
    let path_free = bind_ok (refuse_if (has_entry_path d (new_path path)) NameTaken) _ e group.1.1 in
    let id_free = bind_ok (refuse_if (not (is_free id d)) (IdTaken id)) _ e path_free.1.1 in
    let is = same_ok _ e id_free.1.1 in
    let f = found_group group.0 d.tree (group_there d (before_last path) group.0 (named_ok (group_at_path d (before_last path)) group.0 group.1.0)) in
    subst (λ (w : BareDoc). AddsOnly (Some id) d w) is
    (put_entry_adds d group.0 f.0 (id, new_entry (new_fields d.meta.settings.value.protect (after_last path) values) now) isd (subst (λ (w : BareDoc). IsDoc w) (sym is) ise) f.1)

-- an entry that says something else
said_adds : (path : List ℕ) (d e : BareDoc) → IsDoc d → IsDoc e → (held : Holding) → entry_named path d ≡ Ok held → (says : BareContent → BareContent) (time : ℕ)
    → record d { tree = changed_at held.group (changed_entry held.entry.0 (changed_content d.meta says time)) d.tree } ≡ e → AddsOnly None d e
said_adds path d e isd ise held named says time is =
    subst (λ (w : BareDoc). AddsOnly None d w) is
    (change_entry_adds d held (changed_content d.meta says time) isd (subst (λ (w : BareDoc). IsDoc w) (sym is) ise) (found path d held named))

pub change_adds : ChangeAdds
change_adds path allows says now d e isd ise h =
    let held = bind_ok (entry_named path d) _ e h in
    let allowed = bind_ok (allows held.0.entry.1.current.mark.content) _ e held.1.1 in
    let time = bind_ok (time_after now (entry_time held.0.entry.1)) _ e allowed.1.1 in
    said_adds path d e isd ise held.0 held.1.0 (says d.meta) time.0 (same_ok _ e time.1.1)

pub edit_adds : EditAdds
edit_adds path values further = change_adds path (has_unset further) (edited_so values further)

pub attach_adds : AttachAdds
attach_adds path name bytes replaces = change_adds path (is_attachable name replaces) (λ _. with_attachment name bytes)

pub detach_adds : DetachAdds
detach_adds path name = change_adds path (has_attachment name) (λ _. without_attachment name)

pub restore_adds : RestoreAdds
restore_adds path number now d e isd ise h =
    let held = bind_ok (entry_named path d) _ e h in
    let version = bind_ok (version_or_refusal number held.0.entry.1) _ e held.1.1 in
    let time = bind_ok (time_after now (entry_time held.0.entry.1)) _ e version.1.1 in
    said_adds path d e isd ise held.0 held.1.0 (λ _. version.0.mark.content) time.0 (same_ok _ e time.1.1)

pub move_entry_adds : MoveEntryAdds
move_entry_adds path goal now d e isd ise h =
    let held = bind_ok (entry_named path d) _ e h in
    let group = bind_ok (named_or_refusal (group_found d goal)) _ e held.1.1 in
    let other = bind_ok (refuse_if (is_id held.0.group group.0) AlreadyThere) _ e group.1.1 in
    moved_adds d e isd ise held.0 (found path d held.0 held.1.0) group.0 now (named_group d goal group.0 (named_ok (group_found d goal) group.0 group.1.0)) other.1.1

pub make_group_adds : MakeGroupAdds
make_group_adds text id now d e isd ise h =
    let path = without_slashes text in
    let group = bind_ok (named_or_refusal (group_at_path d (before_last path))) _ e h in
    let path_free = bind_ok (refuse_if (is_group_taken (new_path path) d) NameTaken) _ e group.1.1 in
    let fits = bind_ok (refuse_if (nat_lt LEVELS (level_of group.0 d.tree + 1)) TooDeep) _ e path_free.1.1 in
    let id_free = bind_ok (refuse_if (not (is_free id d)) (IdTaken id)) _ e fits.1.1 in
    let is = same_ok _ e id_free.1.1 in
    let f = found_group group.0 d.tree (group_there d (before_last path) group.0 (named_ok (group_at_path d (before_last path)) group.0 group.1.0)) in
    put_group_adds d e group.0 f.0 id (new_group (after_last path) now) isd ise f.1 (sym (ap (λ (w : BareDoc). w.tree) is)) (ap (λ (w : BareDoc). w.tombs) is)

-- ---- entries that go into the bin

-- making the bin adds it
bin_adds : (d ready : BareDoc) → IsDoc d → IsDoc ready → (bin : NodeId) (now : ℕ) → with_bin_made (Some bin) now d ≡ Ok ready → AddsOnly (Some bin) d ready
bin_adds d ready isd isr bin now h =
    let refused = bind_ok (refuse_if (not (is_free bin d)) (IdTaken bin)) _ ready h in
    let time = bind_ok (time_after now d.meta.bin.changed) _ ready refused.1.1 in
    let is = same_ok _ ready time.1.1 in
    let root = found_group (id_of d.tree) d.tree (has_root (id_of d.tree) d.tree refl) in
    put_group_adds d ready (id_of d.tree) root.0 bin _ isd isr root.1 (sym (ap (λ (w : BareDoc). w.tree) is)) (ap (λ (w : BareDoc). w.tombs) is)

recycled_adds : (d : BareDoc) (a : AfterRemoval) → IsDoc d → IsDoc a.doc → (held : Holding) → Found d held → (bin : Option NodeId) (now : ℕ) → is_recycled held.group d ≡ true → is_some bin ≡ needs_bin d
    → entry_recycled bin held now d ≡ Ok a → AddsOnly bin d a.doc
recycled_adds d a isd isa held f None now goes needed h =
    let moved = bind_ok (entry_moved_to d.meta.bin.value.id held now d) _ a h in
    let is = ap (λ (x : AfterRemoval). x.doc) (same_ok _ a moved.1.1) in
    subst (λ (w : BareDoc). AddsOnly None d w) is
    (moved_adds d moved.0 isd (subst (λ (w : BareDoc). IsDoc w) (sym is) isa) held f d.meta.bin.value.id now (bin_there d held.group goes (sym needed)) moved.1.0)
recycled_adds d a isd isa held f (Some bin) now goes needed h =
    let ready = bind_ok (with_bin_made (Some bin) now d) _ a h in
    let r = bin_made d ready.0 isd bin now ready.1.0 in
    let moved = bind_ok (entry_moved_to ready.0.meta.bin.value.id held now ready.0) _ a ready.1.1 in
    let is = ap (λ (x : AfterRemoval). x.doc) (same_ok _ a moved.1.1) in
    let ism = subst (λ (w : BareDoc). IsDoc w) (sym is) isa in
    let has : has_group ready.0.meta.bin.value.id ready.0.tree ≡ true =
    ap (λ v. has_group v ready.0.tree) r.bin_id ∙ ap (has_group bin) r.tree ∙ last_there bin (empty_bin bin now) d.tree refl in
    subst (λ (w : BareDoc). AddsOnly (Some bin) d w) is
    (adds_then (Some bin) d ready.0 moved.0 isd r.doc (bin_adds d ready.0 isd r.doc bin now ready.1.0)
    (moved_adds ready.0 moved.0 r.doc ism held (held_with_bin d ready.0 held bin now f r) ready.0.meta.bin.value.id now has moved.1.0))

pub recycling_adds : RecyclingAdds
recycling_adds path bin now d a isd isa needed h gone =
    let held = bind_ok (entry_named path d) _ a h in
    let f = found path d held.0 held.1.0 in
    elim (decide (is_recycled held.0.group d)) [
      | inl p ↦ recycled_adds d a isd isa held.0 f bin now p needed
          (sym (ap (λ c. if c then entry_recycled bin held.0 now d else Ok (entry_deleted held.0 now d)) p) ∙ held.1.1)
      | inr p ↦
          let is = ap (λ (x : AfterRemoval). x.removed) (same_ok (entry_deleted held.0 now d) a
          (sym (ap (λ c. if c then entry_recycled bin held.0 now d else Ok (entry_deleted held.0 now d)) p) ∙ held.1.1)) in
          let no : Deleted ≡ Recycled → ⊥ = λ z. cc z in
          absurd (no (is ∙ gone))
    ]

-- ---- events

pub adding_is_free : AddingIsFree
adding_is_free w known i id e ise adds unused = (
  document_sound e ise,
  (adds.adds, λ x u h now off. unused x u h (adds.new u now off)),
)
