-- Commands on entries only grow.
use Rattle.std.proofs.Common.{◌≡◌, ◌<◌, ◌==◌, ◌&&◌, ◌||◌, ℕ, Bool, true, false, cond, not, inl, inr, List, map, is_some, Option, None, Some, Ok, refl, sym, ap, subst, ◌∙◌, arith}
use Rattle.std.proofs.lemmas.Bool.{lt-ltb}
use Rattle.std.specs.FinMap.{entries, entries_sorted, get, get-entries, same_map}
use Rattle.std.specs.Option.{option_and_then}
use Rattle.std.specs.Ordering.{ordering_then}
use Rattle.std.specs.Prelude.{if◌then◌else◌}
use Rattle.std.specs.declared.cmp.Ordering.TheVariants.{Less, Equal, Greater}
use Rattle.vault_model.specs.declared.contents.Stats.{Stats}
use Rattle.vault_model.specs.declared.metas.Bin.{Bin}
use Rattle.vault_model.specs.declared.metas.Meta.{Meta}
use Rattle.vault_model.specs.declared.metas.Timed.{Timed}
use Rattle.vault_model.specs.Bare.{BareContent}
use Rattle.vault_model.specs.Db.{Mark, NodeId, Versions}
use Rattle.vault_model.specs.Join.{is_id, meta_join, stats_join, timed_join}
use Rattle.vault_model.specs.Orders.{bin_cmp}
use Rattle.vault_model.specs.SeenNodes.{entry_time}
use Rattle.vault_model.specs.Shape.{BareVersion, EntryRecord, shared_of, version_of, versions_of}
use Rattle.vault_model.specs.Tree.{BareDoc, IsDoc, Tree, id_of}
use Rattle.vault_model.specs.Unite.{by_order, gather, unite, unite_all}
use Rattle.vault_model.proofs.Ids.{same_id}
use Rattle.vault_model.proofs.Orders.{mark_order}
use Rattle.vault_model.proofs.Tests.{and_true, apart, decide, is_false, map_map}
use Rattle.merge_core.proofs.Joins.{meta_joins, versions_joins}
use Rattle.merge_core.proofs.SoundDoc.{as_map}
use Rattle.merge_core.proofs.Tables.{gathered_singles}
use Rattle.merge_core.proofs.Unite.{get-unite_all}
use Rattle.tree_core.specs.Finding.{entry_found, group_at_path, group_found, has_entry_path}
use Rattle.tree_core.specs.declared.fails.TreeFail.TheVariants.{AlreadyThere, IdTaken, NameTaken}
use Rattle.tree_core.specs.After.{AfterRemoval, Holding, changed_content, edited_so, entry_deleted, entry_moved_to, entry_named, entry_recycled, is_recycled, named_or_refusal, needs_bin, refuse_if, time_after, version_or_refusal, with_bin, with_bin_made}
use Rattle.tree_core.specs.Attachments.{has_attachment, is_attachable, with_attachment, without_attachment}
use Rattle.tree_core.specs.Changes.{changed_at, changed_entry, entry_at, group_with, has_group, holder, is_free, own_entry, without, without_entry}
use Rattle.tree_core.specs.FurtherChanges.{has_unset}
use Rattle.tree_core.specs.Histories.{rising_versions, with_version, within_limits}
use Rattle.tree_core.specs.NewNodes.{empty_bin, new_entry, new_fields, new_version}
use Rattle.tree_core.specs.NewPaths.{after_last, before_last, new_path}
use Rattle.tree_core.proofs.Around.{found_group}
use Rattle.tree_core.proofs.EntriesMoved.{same_there}
use Rattle.tree_core.proofs.EntriesRemoved.{found_at, own_id}
use Rattle.tree_core.proofs.Named.{group_there, named_group}
use Rattle.tree_removals.specs.Removes.{with_bin_in}
use Rattle.tree_removals.proofs.LastGroups.{entry_with_last, has_root, holds_there, last_there}
use Rattle.tree_removals.proofs.NewBins.{bin_is_doc, free_absent}
use Rattle.growth_laws.specs.Growth.{AddGrows, AttachGrows, ChangeGrows, DetachGrows, EditGrows, GrowsTo, MoveEntryGrows, RemoveEntryGrows, RestoreGrows}
use Rattle.growth_laws.proofs.LostSteps.{delete_entry_stays, edit_stays}
use Rattle.growth_laws.proofs.Outcomes.{bind_ok, named_ok, refuse_ok, same_ok, time_ok}
use Rattle.growth_laws.proofs.Stays.{Stays, stays_then}
use Rattle.growth_laws.proofs.StaysGrow.{stays_grow}
use Rattle.growth_laws.proofs.Steps.{move_entry_stays, put_entry_stays, put_group_stays}

-- ---- an entry that a path names

-- The group that an entry is in.
pub record Found (d : BareDoc) (held : Holding) : Type 0 where
  pub group : Tree
  pub there : group_with held.group d.tree ≡ Some group
  pub own : own_entry held.entry.0 group ≡ Some held.entry

pub found : (path : List ℕ) (d : BareDoc) (held : Holding) → entry_named path d ≡ Ok held → Found d held
found path d held h =
    let id = bind_ok (named_or_refusal (entry_found d path)) _ held h in
    let group = bind_ok (named_or_refusal (holder id.0 d.tree)) _ held id.1.1 in
    let entry = bind_ok (named_or_refusal (entry_at group.0 id.0 d.tree)) _ held group.1.1 in
    let is = same_ok _ held entry.1.1 in
    let at = found_at group.0 id.0 d.tree entry.0 (named_ok (entry_at group.0 id.0 d.tree) entry.0 entry.1.0) in
    let key = own_id id.0 at.0 entry.0 at.1.1 in
    subst (λ (x : Holding). Found d x) is (record {
      group = at.0;
      there = at.1.0;
      own = ap (λ v. own_entry v at.0) key ∙ at.1.1;
    })

-- it is found there
pub found_in : (d : BareDoc) (held : Holding) → Found d held → entry_at held.group held.entry.0 d.tree ≡ Some held.entry
found_in d held f = ap (option_and_then (own_entry held.entry.0)) f.there ∙ f.own

-- ---- entries added

pub add_grows : AddGrows
add_grows path id values now d e isd ise h =
    let group = bind_ok (named_or_refusal (group_at_path d (before_last path))) _ e h in
    let path_free = bind_ok (refuse_if (has_entry_path d (new_path path)) NameTaken) _ e group.1.1 in
    let id_free = bind_ok (refuse_if (not (is_free id d)) (IdTaken id)) _ e path_free.1.1 in
    let is = same_ok _ e id_free.1.1 in
    let f = found_group group.0 d.tree (group_there d (before_last path) group.0 (named_ok (group_at_path d (before_last path)) group.0 group.1.0)) in
    stays_grow d e isd ise (put_entry_stays d e isd ise group.0 f.0
    (id, new_entry (new_fields d.meta.settings.value.protect (after_last path) values) now) f.1 (sym is))

-- ---- entries edited

made_again : (w : Versions) → unite_all stats_join (map as_map (map version_of (entries w))) ≡ w
made_again w =
    let es = entries w in
    same_map mark_order.total mark_order.same (unite_all stats_join (map as_map (map version_of es))) w (λ k.
    get-unite_all mark_order.total mark_order.same stats_join (map as_map (map version_of es)) k
    ∙ ap (λ ms. gather stats_join (map (λ (m : Versions). get m k) ms)) (map_map version_of as_map es)
    ∙ ap (gather stats_join) (map_map (λ (e : Mark × Stats). as_map (version_of e)) (λ (m : Versions). get m k) es)
    ∙ gathered_singles mark_order.total mark_order.same stats_join es (entries_sorted w) k
    ∙ sym (get-entries w k))

versions_now : (v : BareVersion) (e : EntryRecord) → versions_of (with_version v e) ≡ unite stats_join (as_map v) (versions_of e)
versions_now v e = ap (unite stats_join (as_map v)) (made_again (versions_of e))

-- the versions after an edit have those before it
pub versions_grow : (v : BareVersion) (e : EntryRecord) → unite stats_join (versions_of e) (versions_of (with_version v e)) ≡ versions_of (with_version v e)
versions_grow v e =
    let A = versions_of e in
    let S = as_map v in
    let j = versions_joins in
    ap (unite stats_join A) (versions_now v e)
    ∙ sym (j.assoc A S A)
    ∙ ap (λ m. unite stats_join m A) (j.comm A S)
    ∙ j.assoc S A A
    ∙ ap (unite stats_join S) (j.idem A)
    ∙ sym (versions_now v e)

-- an entry that says something else grows
pub said_grows : (d e : BareDoc) → IsDoc d → IsDoc e → (held : Holding) → Found d held
    → within_limits d.meta.settings.value.history_items d.meta.settings.value.history_size (rising_versions held.entry.1) ≡ rising_versions held.entry.1
    → (says : BareContent → BareContent) (now time : ℕ) → time_after now (entry_time held.entry.1) ≡ Ok time
    → record d { tree = changed_at held.group (changed_entry held.entry.0 (changed_content d.meta says time)) d.tree } ≡ e → GrowsTo d e
said_grows d e isd ise held f keeps says now time when is =
    let x = held.entry.1 in
    let v = new_version (says x.current.mark.content) time x.current in
    let whole : changed_content d.meta says time x ≡ with_version v x =
    ap (λ (hs : List BareVersion). record (with_version v x) { history = hs }) keeps in
    let late = time_ok now (entry_time x) time when in
    let step = edit_stays d held.group (changed_content d.meta says time) held.entry f.group isd (subst (λ (w : BareDoc). IsDoc w) (sym is) ise) f.there f.own refl refl
    (ap (λ (y : EntryRecord). unite stats_join (versions_of x) (versions_of y)) whole ∙ versions_grow v x ∙ sym (ap versions_of whole)) (omega (arith, late)) in
    subst (λ (w : BareDoc). GrowsTo d w) is (stays_grow d _ isd (subst (λ (w : BareDoc). IsDoc w) (sym is) ise) step)

pub change_grows : ChangeGrows
change_grows path allows says now d e isd ise keeps h =
    let held = bind_ok (entry_named path d) _ e h in
    let allowed = bind_ok (allows held.0.entry.1.current.mark.content) _ e held.1.1 in
    let time = bind_ok (time_after now (entry_time held.0.entry.1)) _ e allowed.1.1 in
    said_grows d e isd ise held.0 (found path d held.0 held.1.0) (keeps held.0 held.1.0) (says d.meta) now time.0 time.1.0 (same_ok _ e time.1.1)

pub edit_grows : EditGrows
edit_grows path values further = change_grows path (has_unset further) (edited_so values further)

pub attach_grows : AttachGrows
attach_grows path name bytes replaces = change_grows path (is_attachable name replaces) (λ _. with_attachment name bytes)

pub detach_grows : DetachGrows
detach_grows path name = change_grows path (has_attachment name) (λ _. without_attachment name)

pub restore_grows : RestoreGrows
restore_grows path number now d e isd ise keeps h =
    let held = bind_ok (entry_named path d) _ e h in
    let version = bind_ok (version_or_refusal number held.0.entry.1) _ e held.1.1 in
    let time = bind_ok (time_after now (entry_time held.0.entry.1)) _ e version.1.1 in
    said_grows d e isd ise held.0 (found path d held.0 held.1.0) (keeps held.0 held.1.0) (λ _. version.0.mark.content) now time.0 time.1.0 (same_ok _ e time.1.1)

-- ---- entries moved

entry_moved_stays : (d e : BareDoc) → IsDoc d → IsDoc e → (held : Holding) → Found d held → (to : NodeId) (now : ℕ) → has_group to d.tree ≡ true → entry_moved_to to held now d ≡ Ok e → Stays d e
entry_moved_stays d e isd ise held f to now has h =
    let time = bind_ok (time_after now held.entry.1.placed) _ e h in
    let is = same_ok _ e time.1.1 in
    let goal = found_group to (changed_at held.group (without_entry held.entry.0) d.tree) (same_there to held.group (without held.entry.0) d.tree ∙ has) in
    subst (λ (w : BareDoc). Stays d w) is
    (move_entry_stays d held.group to time.0 held.entry f.group goal.0 isd (subst (λ (w : BareDoc). IsDoc w) (sym is) ise) f.there f.own goal.1 (time_ok now held.entry.1.placed time.0 time.1.0))

pub move_entry_grows : MoveEntryGrows
move_entry_grows path goal now d e isd ise h =
    let held = bind_ok (entry_named path d) _ e h in
    let group = bind_ok (named_or_refusal (group_found d goal)) _ e held.1.1 in
    let other = bind_ok (refuse_if (is_id held.0.group group.0) AlreadyThere) _ e group.1.1 in
    stays_grow d e isd ise
    (entry_moved_stays d e isd ise held.0 (found path d held.0 held.1.0) group.0 now (named_group d goal group.0 (named_ok (group_found d goal) group.0 group.1.0)) other.1.1)

-- ---- a bin that is made

later_bin : (a b : Timed Bin) → a.changed < b.changed → timed_join bin_cmp a b ≡ b
later_bin a b less =
    ap (λ c. by_order (ordering_then (cond c Less (cond (a.changed == b.changed) Equal Greater)) (bin_cmp a.value b.value)) b a a) (lt-ltb a.changed b.changed less)

pub bin_meta : (id : NodeId) (time : ℕ) (m : Meta) → m.bin.changed < time → meta_join (shared_of m) (shared_of (with_bin id time m)) ≡ shared_of (with_bin id time m)
bin_meta id time m less =
    let same = meta_joins.idem (shared_of m) in
    let later = later_bin m.bin (with_bin id time m).bin less in
    λ i. record (same i) { bin = later i }

-- a document with a bin, whatever it says of itself
pub other_meta : (d : BareDoc) (id : NodeId) (time : ℕ) → IsDoc d → IsDoc (record d { meta = with_bin id time d.meta })
other_meta d id time is = record {
  distinct = is.distinct;
  no_nil = is.no_nil;
  levels = is.levels;
  tombs_rise = is.tombs_rise;
  tombs_apart = is.tombs_apart;
  entries_proper = is.entries_proper;
  groups_proper = is.groups_proper;
  icons_rise = is.icons_rise;
  items_rise = is.items_rise;
  meta_texts = is.meta_texts;
}

-- What a document with a new bin is.
pub record Ready (d ready : BareDoc) (bin : NodeId) (now : ℕ) : Type 0 where
  pub tree : ready.tree ≡ with_bin_in bin now d.tree
  pub bin_id : ready.meta.bin.value.id ≡ bin
  pub free : is_free bin d ≡ true
  pub doc : IsDoc ready
  pub stays : Stays d ready

pub bin_made : (d ready : BareDoc) → IsDoc d → (bin : NodeId) (now : ℕ) → with_bin_made (Some bin) now d ≡ Ok ready → Ready d ready bin now
bin_made d ready isd bin now h =
    let refused = bind_ok (refuse_if (not (is_free bin d)) (IdTaken bin)) _ ready h in
    let time = bind_ok (time_after now d.meta.bin.changed) _ ready refused.1.1 in
    let is = same_ok _ ready time.1.1 in
    let free = not_false_true (is_free bin d) (refuse_ok (not (is_free bin d)) (IdTaken bin) refused.0 refused.1.0) in
    let made : BareDoc = record d { tree = with_bin_in bin now d.tree; meta = with_bin bin time.0 d.meta } in
    let doc : IsDoc made = other_meta (record d { tree = with_bin_in bin now d.tree }) bin time.0 (bin_is_doc d isd bin now free) in
    let root = found_group (id_of d.tree) d.tree (has_root (id_of d.tree) d.tree refl) in
    subst (λ (w : BareDoc). Ready d w bin now) is (record {
      tree = refl;
      bin_id = refl;
      free = free;
      doc = doc;
      stays = put_group_stays d made isd doc (id_of d.tree) root.0 (empty_bin bin now) root.1 refl refl (bin_meta bin time.0 d.meta (time_ok now d.meta.bin.changed time.0 time.1.0));
    })
  where
    not_false_true : (b : Bool) → not b ≡ false → b ≡ true
    not_false_true true e = refl
    not_false_true false e = sym e

-- ---- entries removed

-- a bin that has not to be made is there
pub bin_there : (d : BareDoc) (u : NodeId) → is_recycled u d ≡ true → needs_bin d ≡ false → has_group d.meta.bin.value.id d.tree ≡ true
bin_there d u goes none_needed =
    elim (decide (has_group d.meta.bin.value.id d.tree)) [
      | inl p ↦ p
      | inr p ↦ apart (needs_bin d) ((λ i. enabled i && not (p i))) none_needed
    ]
  where
    enabled : d.meta.bin.value.enabled ≡ true
    enabled = (and_true d.meta.bin.value.enabled _ goes).0

pub held_with_bin : (d ready : BareDoc) (held : Holding) (bin : NodeId) (now : ℕ) → Found d held → Ready d ready bin now → Found ready held
held_with_bin d ready held bin now f r =
    let off : has_group held.group (empty_bin bin now) ≡ false = ap (λ b. b || false) (is_false (is_id bin held.group) (λ p.
    apart (has_group bin d.tree) (ap (λ v. has_group v d.tree) (same_id bin held.group p) ∙ there) (free_absent bin d r.free))) in
    let at : entry_at held.group held.entry.0 ready.tree ≡ Some held.entry =
    ap (entry_at held.group held.entry.0) r.tree ∙ entry_with_last held.group held.entry.0 (empty_bin bin now) d.tree off ∙ found_in d held f in
    let g = found_at held.group held.entry.0 ready.tree held.entry at in
    record { group = g.0; there = g.1.0; own = g.1.1 }
  where
    there : has_group held.group d.tree ≡ true
    there = holds_there held.group held.entry.0 d.tree (ap is_some (found_in d held f))

entry_recycled_stays : (d : BareDoc) (a : AfterRemoval) → IsDoc d → IsDoc a.doc → (held : Holding) → Found d held → (bin : Option NodeId) (now : ℕ) → is_recycled held.group d ≡ true → is_some bin ≡ needs_bin d
    → entry_recycled bin held now d ≡ Ok a → Stays d a.doc
entry_recycled_stays d a isd isa held f None now goes needed h =
    let moved = bind_ok (entry_moved_to d.meta.bin.value.id held now d) _ a h in
    let is = ap (λ (x : AfterRemoval). x.doc) (same_ok _ a moved.1.1) in
    subst (λ (w : BareDoc). Stays d w) is
    (entry_moved_stays d moved.0 isd (subst (λ (w : BareDoc). IsDoc w) (sym is) isa) held f d.meta.bin.value.id now (bin_there d held.group goes (sym needed)) moved.1.0)
entry_recycled_stays d a isd isa held f (Some bin) now goes needed h =
    let ready = bind_ok (with_bin_made (Some bin) now d) _ a h in
    let r = bin_made d ready.0 isd bin now ready.1.0 in
    let moved = bind_ok (entry_moved_to ready.0.meta.bin.value.id held now ready.0) _ a ready.1.1 in
    let is = ap (λ (x : AfterRemoval). x.doc) (same_ok _ a moved.1.1) in
    let has : has_group ready.0.meta.bin.value.id ready.0.tree ≡ true =
    ap (λ v. has_group v ready.0.tree) r.bin_id ∙ ap (has_group bin) r.tree ∙ last_there bin (empty_bin bin now) d.tree refl in
    subst (λ (w : BareDoc). Stays d w) is
    (stays_then d ready.0 moved.0 r.stays
    (entry_moved_stays ready.0 moved.0 r.doc (subst (λ (w : BareDoc). IsDoc w) (sym is) isa) held (held_with_bin d ready.0 held bin now f r) ready.0.meta.bin.value.id now has moved.1.0))

pub remove_entry_grows : RemoveEntryGrows
remove_entry_grows path bin now d a isd isa needed h =
    let held = bind_ok (entry_named path d) _ a h in
    let f = found path d held.0 held.1.0 in
    stays_grow d a.doc isd isa (elim (decide (is_recycled held.0.group d)) [
      | inl p ↦ entry_recycled_stays d a isd isa held.0 f bin now p needed
          (sym (ap (λ c. if c then entry_recycled bin held.0 now d else Ok (entry_deleted held.0 now d)) p) ∙ held.1.1)
      | inr p ↦
          let is = ap (λ (x : AfterRemoval). x.doc) (same_ok (entry_deleted held.0 now d) a
          (sym (ap (λ c. if c then entry_recycled bin held.0 now d else Ok (entry_deleted held.0 now d)) p) ∙ held.1.1)) in
          subst (λ (w : BareDoc). Stays d w) is (delete_entry_stays d held.0.group now held.0.entry f.group isd (subst (λ (w : BareDoc). IsDoc w) (sym is) isa) f.there f.own)
    ])
