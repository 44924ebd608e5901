-- What removing an entry leaves as it is.
use Rattle.std.proofs.Common.{◌≡◌, ◌&&◌, ℕ, true, false, not, inl, inr, List, Option, Some, None, Ok, codes, is_some, refl, sym, ap, subst, ◌∙◌, max}
use Rattle.std.specs.List.{list_all}
use Rattle.std.specs.Prelude.{if◌then◌else◌}
use Rattle.vault_model.specs.declared.nodes.Tombstone.{Tombstone}
use Rattle.vault_model.specs.Db.{NodeId, nil_id}
use Rattle.vault_model.specs.Empty.{new_group}
use Rattle.vault_model.specs.Join.{IsIn, is_id}
use Rattle.vault_model.specs.SeenNodes.{entry_time}
use Rattle.vault_model.specs.Tree.{BareDoc, IsDoc, Tree, child_rows, child_rows_all, entry_rows, entry_rows_all, id_of, is_elsewhere}
use Rattle.vault_model.proofs.Ids.{id_itself, same_id}
use Rattle.vault_model.proofs.Tests.{and_true, apart, decide, is_false, not_true}
use Rattle.merge_core.proofs.SoundDoc.{shape_entry, shape_kids}
use Rattle.tree_core.specs.declared.fails.TreeFail.TheVariants.{IdTaken}
use Rattle.tree_core.specs.After.{AfterRemoval, Holding, entry_deleted, entry_moved_to, entry_named, entry_recycled, has_group_in, is_in_bin, is_recycled, needs_bin, refuse_if, time_after, with_bin_made}
use Rattle.tree_core.specs.Changes.{group_with, has_group, is_free, without_entry}
use Rattle.tree_core.specs.Finding.{entry_found}
use Rattle.tree_core.specs.NewNodes.{as_bin, empty_bin}
use Rattle.tree_core.proofs.Around.{children_rows, entries_rows, found_group, found_id}
use Rattle.tree_core.proofs.EntriesMoved.{move_ready}
use Rattle.tree_removals.proofs.GroupBins.{free_elsewhere}
use Rattle.tree_removals.proofs.LastGroups.{has_root, holds_there, last_there}
use Rattle.tree_removals.proofs.NewBins.{free_absent}
use Rattle.growth_laws.proofs.Commands.{Found, Ready, bin_made, bin_there, found, held_with_bin}
use Rattle.growth_laws.proofs.Outcomes.{bind_ok, same_ok, time_ok}
use Rattle.growth_laws.proofs.Stays.{entry_is}
use Rattle.growth_laws.proofs.Steps.{own_row, root_same, take_root}
use Rattle.frame_laws.specs.Frame.{no_node, only}
use Rattle.frame_laws.specs.Removals.{DeletesEntry, MakesBin, RemovesEntry, RemoveEntryFrames}
use Rattle.frame_laws.proofs.EntryFrames.{found_named, held_at, held_moves, same_off, time_now}
use Rattle.frame_laws.proofs.Finds.{lists_found, own_lists, own_lists_row, row_now, row_was, same_at, same_but, same_more, take_lists, take_same}
use Rattle.frame_laws.proofs.NewFrames.{elsewhere_entry, put_group}
use Rattle.frame_laws.proofs.Tombs.{no_tomb, tomb_is, tomb_other, tomb_own}

-- ---- a bin that is made

pub new_bin : (d ready : BareDoc) → IsDoc d → (bin : NodeId) (now : ℕ) → with_bin_made (Some bin) now d ≡ Ok ready → MakesBin bin now d ready
new_bin d ready isd bin now h =
    let refused = bind_ok (refuse_if (not (is_free bin d)) (IdTaken bin)) _ ready h in
    let time = bind_ok (time_after now d.meta.bin.changed) _ ready refused.1.1 in
    let is = same_ok _ ready time.1.1 in
    let r = bin_made d ready isd bin now h in
    let root = found_group (id_of d.tree) d.tree (has_root (id_of d.tree) d.tree refl) in
    let p = put_group (id_of d.tree) bin (as_bin (new_group (codes "Recycle Bin") now)) d ready isd r.doc root.0 root.1 r.free (ap (λ (w : BareDoc). w.tree) is) in
    record {
      no_entry = p.no_entry;
      no_group = p.no_group;
      is = p.is;
      empty = p.empty;
      new = p.new;
      rest = p.rest;
      tombs = sym (ap (λ (w : BareDoc). w.tombs) is);
      time = time.0;
      late = time_now now d.meta.bin.changed time.0 time.1.0;
      later = time_ok now d.meta.bin.changed time.0 time.1.0;
      meta = sym (ap (λ (w : BareDoc). w.meta) is);
    }

-- ---- an entry that goes into the bin is not in it

not_in_bin : (d : BareDoc) (held : Holding) → Found d held → is_recycled held.group d ≡ true → is_id held.group d.meta.bin.value.id ≡ false
not_in_bin d held f goes = is_false (is_id held.group d.meta.bin.value.id) (λ p.
    apart (is_in_bin held.group d) (inside p) (not_true (is_in_bin held.group d) (and_true d.meta.bin.value.enabled (not (is_in_bin held.group d)) goes).1))
  where
    itself : (b : Tree) → id_of b ≡ held.group → has_group held.group b ≡ true
    itself b e = has_root held.group b e

    inside : is_id held.group d.meta.bin.value.id ≡ true → is_in_bin held.group d ≡ true
    inside p =
        ap (λ v. has_group_in held.group (group_with v d.tree)) (sym (same_id held.group d.meta.bin.value.id p))
        ∙ ap (has_group_in held.group) f.there ∙ itself f.group (found_id held.group d.tree f.group f.there)

not_new_bin : (d ready : BareDoc) (held : Holding) (bin : NodeId) (now : ℕ) → Found d held → Ready d ready bin now → is_id held.group ready.meta.bin.value.id ≡ false
not_new_bin d ready held bin now f r = is_false (is_id held.group ready.meta.bin.value.id) (λ p.
    let same = same_id held.group ready.meta.bin.value.id p ∙ r.bin_id in
    apart (has_group bin d.tree) (ap (λ v. has_group v d.tree) (sym same) ∙ there) (free_absent bin d r.free))
  where
    there : has_group held.group d.tree ≡ true
    there = holds_there held.group held.entry.0 d.tree (ap is_some (held_at d held f))

recycled : (path : List ℕ) (d : BareDoc) (a : AfterRemoval) → IsDoc d → IsDoc a.doc → (held : Holding) → entry_found d path ≡ Some held.entry.0 → Found d held → (bin : Option NodeId) (now : ℕ)
    → is_recycled held.group d ≡ true → is_some bin ≡ needs_bin d → entry_recycled bin held now d ≡ Ok a → RemovesEntry a.removed path bin now d a.doc
recycled path d a isd isa held named f None now goes needed h =
    let moved = bind_ok (entry_moved_to d.meta.bin.value.id held now d) _ a h in
    let is = same_ok _ a moved.1.1 in
    subst (λ (w : AfterRemoval). RemovesEntry w.removed path None now d w.doc) is (record {
      entry = held.entry.0;
      from = held.group;
      named = named;
      ready = d;
      made = refl;
      moved = held_moves d moved.0 isd (subst (λ (w : AfterRemoval). IsDoc w.doc) (sym is) isa) held f d.meta.bin.value.id now (bin_there d held.group goes (sym needed)) (not_in_bin d held f goes) moved.1.0;
    })
recycled path d a isd isa held named f (Some bin) now goes needed h =
    let ready = bind_ok (with_bin_made (Some bin) now d) _ a h in
    let r = bin_made d ready.0 isd bin now ready.1.0 in
    let moved = bind_ok (entry_moved_to ready.0.meta.bin.value.id held now ready.0) _ a ready.1.1 in
    let is = same_ok _ a moved.1.1 in
    let has : has_group ready.0.meta.bin.value.id ready.0.tree ≡ true =
    ap (λ v. has_group v ready.0.tree) r.bin_id ∙ ap (has_group bin) r.tree ∙ last_there bin (empty_bin bin now) d.tree refl in
    subst (λ (w : AfterRemoval). RemovesEntry w.removed path (Some bin) now d w.doc) is (record {
      entry = held.entry.0;
      from = held.group;
      named = named;
      ready = ready.0;
      made = new_bin d ready.0 isd bin now ready.1.0;
      moved = held_moves ready.0 moved.0 r.doc (subst (λ (w : AfterRemoval). IsDoc w.doc) (sym is) isa) held (held_with_bin d ready.0 held bin now f r) ready.0.meta.bin.value.id now has
          (not_new_bin d ready.0 held bin now f r) moved.1.0;
    })

-- ---- an entry that is deleted

deleted : (path : List ℕ) (d : BareDoc) → IsDoc d → (held : Holding) → entry_found d path ≡ Some held.entry.0 → Found d held → (now : ℕ) → IsDoc (entry_deleted held now d).doc
    → DeletesEntry path now d (entry_deleted held now d).doc
deleted path d isd held named f now ise =
    let x = held.entry in
    let e = (entry_deleted held now d).doc in
    let keeps = take_root x.0 f.group in
    let lists = take_lists x.0 x f.group f.own in
    let free = (move_ready d isd held.group held.group x.0 x (holds_there held.group x.0 d.tree (ap is_some (held_at d held f))) (held_at d held f)).free in
    let none = no_tomb x.0 d.tombs
    (and_true (not (is_id nil_id x.0) && is_elsewhere e.tree x.0) (list_all (λ (t : Tombstone). not (is_id t.id x.0)) d.tombs) free).1 in
    record {
      entry = x.0;
      from = held.group;
      named = named;
      before = x.1;
      was = entry_is d isd x.0 x.1 (row_was held.group (without_entry x.0) d.tree f.group f.there keeps entry_rows entry_rows_all entries_rows x (own_row x.0 x f.group f.own));
      gone = shape_entry e ise x.0 ∙ elsewhere_entry x.0 e.tree (free_elsewhere x.0 (record d { tree = e.tree }) free);
      lost = record {
        front = lists.front;
        back = lists.back;
        groups = lists.groups;
        was = shape_kids d isd held.group ∙ lists_found d.tree isd.distinct held.group (own_lists f.group)
            (row_was held.group (without_entry x.0) d.tree f.group f.there keeps child_rows child_rows_all children_rows (held.group, own_lists f.group)
            (subst (λ (v : NodeId). IsIn (v, own_lists f.group) (child_rows f.group)) (found_id held.group d.tree f.group f.there) (own_lists_row f.group)))
            ∙ ap Some lists.was;
        now = shape_kids e ise held.group ∙ lists_found e.tree ise.distinct held.group (own_lists (without_entry x.0 f.group))
            (row_now held.group (without_entry x.0) d.tree f.group f.there keeps child_rows child_rows_all children_rows (held.group, own_lists (without_entry x.0 f.group))
            (subst (λ (v : NodeId). IsIn (v, own_lists (without_entry x.0 f.group)) (child_rows (without_entry x.0 f.group))) (keeps ∙ found_id held.group d.tree f.group f.there) (own_lists_row (without_entry x.0 f.group))))
            ∙ ap Some lists.now;
      };
      rest = same_but (only x.0) no_node (only held.group) d e isd ise
          (same_at held.group (without_entry x.0) d.tree f.group f.there keeps (only x.0) no_node (only held.group) (sym (root_same held.group (without_entry x.0) d.tree f.group f.there keeps))
          (same_more (only x.0) no_node (only (id_of f.group)) (only x.0) no_node (only held.group) f.group (without_entry x.0 f.group) (λ q p. p) (λ q p. p)
          (λ q p. same_off q held.group (id_of f.group) (sym (found_id held.group d.tree f.group f.there)) p) (take_same x.0 x f.group f.own)));
      tomb = tomb_is e x.0 ∙ tomb_own (record { id = x.0; deleted = max now (entry_time x.1) }) x.0 (id_itself x.0) d.tombs none;
      tombs = λ q off. tomb_is e q ∙ tomb_other (record { id = x.0; deleted = max now (entry_time x.1) }) q off d.tombs ∙ sym (tomb_is d q);
      meta = refl;
    }

pub remove_entry_frames : RemoveEntryFrames
remove_entry_frames path bin now d a isd isa needed h =
    let held = bind_ok (entry_named path d) _ a h in
    let f = found path d held.0 held.1.0 in
    let named = found_named path d held.0 held.1.0 in
    elim (decide (is_recycled held.0.group d)) [
      | inl p ↦ recycled path d a isd isa held.0 named f bin now p needed
          (sym (ap (λ c. if c then entry_recycled bin held.0 now d else Ok (entry_deleted held.0 now d)) p) ∙ held.1.1)
      | inr p ↦
          let is = same_ok (entry_deleted held.0 now d) a (sym (ap (λ c. if c then entry_recycled bin held.0 now d else Ok (entry_deleted held.0 now d)) p) ∙ held.1.1) in
          subst (λ (w : AfterRemoval). RemovesEntry w.removed path bin now d w.doc) is (deleted path d isd held.0 named f now (subst (λ (w : AfterRemoval). IsDoc w.doc) (sym is) isa))
    ]
