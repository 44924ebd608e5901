-- What commands on entries leave as it is.
use Rattle.std.proofs.Common.{◌≡◌, ◌≤◌, ◌<◌, ◌||◌, ◌&&◌, ℕ, Bool, true, false, inl, inr, List, Option, None, Some, Result, Ok, refl, sym, ap, subst, ◌∙◌, max, nat_lt, ◌+◌, arith}
use Rattle.std.specs.FinMap.{find}
use Rattle.std.specs.List.{list_all}
use Rattle.std.specs.Option.{ok_or, option_and_then}
use Rattle.std.specs.Prelude.{if◌then◌else◌, ℤ, Err}
use Rattle.time_core.specs.Times.{last_stamp}
use Rattle.vault_model.specs.declared.contents.Item.{Item}
use Rattle.vault_model.specs.declared.metas.Meta.{Meta}
use Rattle.vault_model.specs.Bare.{BareAttachment, BareContent, BareField}
use Rattle.vault_model.specs.Db.{NodeId, id_cmp}
use Rattle.vault_model.specs.Join.{IsIn, is_id}
use Rattle.vault_model.specs.SeenNodes.{entry_time}
use Rattle.vault_model.specs.Proper.{is_proper_content, is_text_content, rises}
use Rattle.vault_model.specs.Shape.{BareVersion, EntryRecord}
use Rattle.vault_model.specs.Tree.{BareDoc, IsDoc, Tree, are_distinct, child_rows, child_rows_all, entry_rows, entry_rows_all, id_of, is_proper_entry, node, node_ids}
use Rattle.vault_model.proofs.Ids.{id_itself, same_id}
use Rattle.vault_model.proofs.Tests.{and_true, apart, decide, is_false, or_false}
use Rattle.merge_core.proofs.SoundDoc.{all_in, shape_kids}
use Rattle.tree_core.specs.Finding.{entry_found, group_found}
use Rattle.tree_core.specs.declared.fails.TreeFail.{TreeFail}
use Rattle.tree_core.specs.declared.values.Expiry.{Expiry}
use Rattle.tree_core.specs.declared.values.Expiry.TheVariants.{At, Never}
use Rattle.tree_core.specs.declared.fails.TreeFail.TheVariants.{AlreadyThere, NoVersion, StampLimit}
use Rattle.tree_core.specs.After.{Holding, after_change, changed_content, edited_so, entry_moved_to, entry_named, named_or_refusal, refuse_if, time_after, version_or_refusal}
use Rattle.tree_core.specs.Changes.{changed_at, changed_entry, entry_at, group_with, has_group, holder, moved_entry, own_entry, with_entry, without, without_entry}
use Rattle.tree_core.specs.Attachments.{attachment_of, has_attachment, is_attachable, with_attachment, without_attachment}
use Rattle.tree_core.specs.FurtherChanges.{has_unset, with_expiry, with_own_values, without_fields}
use Rattle.tree_core.specs.Histories.{rising_versions, version_numbered}
use Rattle.tree_core.specs.NewNodes.{edited_fields}
use Rattle.tree_core.specs.Tags.{changed_tags}
use Rattle.tree_core.proofs.Around.{children_rows, entries_rows, found_group, found_id}
use Rattle.tree_core.proofs.EntriesMoved.{same_there}
use Rattle.tree_core.proofs.EntriesRemoved.{deleted_is_doc, found_at, own_id}
use Rattle.tree_core.proofs.Named.{named_group}
use Rattle.growth_laws.proofs.Carries.{change_entry_row, put_entry_row}
use Rattle.growth_laws.proofs.Commands.{Found, found}
use Rattle.growth_laws.proofs.Outcomes.{bind_ok, named_ok, refuse_ok, same_ok, time_ok}
use Rattle.growth_laws.proofs.Stays.{entry_is}
use Rattle.growth_laws.proofs.Steps.{change_root, own_row, root_same, take_root}
use Rattle.frame_laws.specs.Frame.{AreSameBut, either, entry_of, no_node, only}
use Rattle.frame_laws.specs.Entries.{AreEditedFields, AttachFrames, ChangesEntry, DetachFrames, EditFrames, EntryMoves, HasNewVersion, IsAttachedEntry, IsDetachedEntry, IsEditedEntry, IsRestoredEntry, MoveEntryFrames, RestoreFrames}
use Rattle.frame_laws.proofs.AttachedFiles.{attachable, attachment_gone, attachment_kept, attachment_now, attachment_others, detachable}
use Rattle.frame_laws.proofs.Fields.{trimmed}
use Rattle.frame_laws.proofs.OwnFields.{fields_edited, unset_there}
use Rattle.frame_laws.proofs.Finds.{SameRows, change_same, lists_found, own_lists, own_lists_row, put_lists, put_same, row_now, row_was, same_at, same_but, same_more, same_then, take_lists, take_same}

-- ---- an entry that a path names

-- the entry in its group
pub held_at : (d : BareDoc) (held : Holding) → Found d held → entry_at held.group held.entry.0 d.tree ≡ Some held.entry
held_at d held f = ap (option_and_then (own_entry held.entry.0)) f.there ∙ f.own

-- the entry is the one that the path names
pub found_named : (path : List ℕ) (d : BareDoc) (held : Holding) → entry_named path d ≡ Ok held → entry_found d path ≡ Some held.entry.0
found_named path d held h =
    let id = bind_ok (named_or_refusal (entry_found d path)) _ held h in
    let group = bind_ok (named_or_refusal (holder id.0 d.tree)) _ held id.1.1 in
    let entry = bind_ok (named_or_refusal (entry_at group.0 id.0 d.tree)) _ held group.1.1 in
    let is = same_ok _ held entry.1.1 in
    let at = found_at group.0 id.0 d.tree entry.0 (named_ok (entry_at group.0 id.0 d.tree) entry.0 entry.1.0) in
    named_ok (entry_found d path) id.0 id.1.0 ∙ ap Some (sym (own_id id.0 at.0 entry.0 at.1.1)) ∙ ap (λ (x : Holding). Some x.entry.0) is

-- a time that is not refused is not before now
pub time_now : (now time t : ℕ) → time_after now time ≡ Ok t → now ≤ t
time_now now time t h =
    elim (decide (nat_lt last_stamp (max now (time + 1)))) [
      | inl p ↦ cc (sym (ap (λ (b : Bool). if b then Err (StampLimit (max now (time + 1))) else Ok (max now (time + 1))) p) ∙ h)
      | inr p ↦
          let is = same_ok (max now (time + 1)) t (sym (ap (λ (b : Bool). if b then Err (StampLimit (max now (time + 1))) else Ok (max now (time + 1))) p) ∙ h) in
          omega (arith, is)
    ]

-- ---- an entry that says something else

-- one entry is changed, and all else is as before
module _ (d : BareDoc) (isd : IsDoc d) (held : Holding) (f : Found d held) (k : EntryRecord → EntryRecord)
    (ise : IsDoc (record d { tree = changed_at held.group (changed_entry held.entry.0 k) d.tree })) where
  abbrev u : NodeId
  u = held.entry.0

  abbrev x : EntryRecord
  x = held.entry.1

  abbrev e : BareDoc
  e = record d { tree = changed_at held.group (changed_entry u k) d.tree }

  row : IsIn (u, k x) (entry_rows e.tree)
  row = row_now held.group (changed_entry u k) d.tree f.group f.there (change_root u k f.group) entry_rows entry_rows_all entries_rows (u, k x) (change_entry_row u k held.entry f.group f.own)

  old : IsIn (u, x) (entry_rows d.tree)
  old = row_was held.group (changed_entry u k) d.tree f.group f.there (change_root u k f.group) entry_rows entry_rows_all entries_rows (u, x) (own_row u held.entry f.group f.own)

  pub was_entry : entry_of d u ≡ Some x
  was_entry = entry_is d isd u x old

  pub is_entry : entry_of e u ≡ Some (k x)
  is_entry = entry_is e ise u (k x) row

  all_else : AreSameBut (only u) no_node no_node d e
  all_else =
      same_but (only u) no_node no_node d e isd ise
      (same_at held.group (changed_entry u k) d.tree f.group f.there (change_root u k f.group) (only u) no_node no_node
      (sym (root_same held.group (changed_entry u k) d.tree f.group f.there (change_root u k f.group))) (change_same u k f.group))

-- What a command makes of an entry, by what histories may hold and by its record before and after.
abbrev Becomes : Type 1
Becomes = (items size : ℤ) → (before after : EntryRecord) → Type 0

-- what holds of each entry that says this anew holds of one that a path names
abbrev Follows : Becomes → (says : BareContent → BareContent) → ℕ → EntryRecord → Type 0
Follows becomes says now x =
    (items size : ℤ) (after : EntryRecord) → HasNewVersion now items size x after → after.current.mark.content ≡ says x.current.mark.content → becomes items size x after

module _ (path : List ℕ) (d : BareDoc) (isd : IsDoc d) (held : Holding) (named : entry_named path d ≡ Ok held) (becomes : Becomes) (says : BareContent → BareContent) (now : ℕ)
    (follows : is_proper_entry held.entry.1 ≡ true → Follows becomes says now held.entry.1) where
  abbrev becoming : ℕ → EntryRecord → EntryRecord
  becoming time = changed_content d.meta says time

  abbrev said : ℕ → BareDoc
  said time = record d { tree = changed_at held.group (changed_entry held.entry.0 (becoming time)) d.tree }

  pub said_frames : (time : ℕ) → time_after now (entry_time held.entry.1) ≡ Ok time → IsDoc (said time) → ChangesEntry path becomes d (said time)
  said_frames time timed ise =
      let x = held.entry.1 in
      let f = found path d held named in
      let proper = all_in (λ (r : NodeId × EntryRecord). is_proper_entry r.1) (entry_rows d.tree) held.entry isd.entries_proper (old d isd held f (becoming time) ise) in
      record {
        entry = held.entry.0;
        named = found_named path d held named;
        before = x;
        after = becoming time x;
        was = was_entry d isd held f (becoming time) ise;
        is = is_entry d isd held f (becoming time) ise;
        changed = follows proper d.meta.settings.value.history_items d.meta.settings.value.history_size (becoming time x) (record {
          placed = refl;
          previous = refl;
          modified = time_now now (entry_time x) time timed;
          later = time_ok now (entry_time x) time timed;
          accessed = refl;
          usage = refl;
          history = trimmed d.meta.settings.value.history_items d.meta.settings.value.history_size (rising_versions x);
        }) refl;
        rest = all_else d isd held f (becoming time) ise;
        tombs = refl;
        meta = refl;
      }

-- an entry that a path names comes to say something else
pub change_frames : (path : List ℕ) (allows : BareContent → Result (Unit {0}) TreeFail) (says : Meta → BareContent → BareContent) (now : ℕ) (d e : BareDoc) → IsDoc d → IsDoc e → (becomes : Becomes)
    → ((x : EntryRecord) (u : Unit {0}) → is_proper_entry x ≡ true → allows x.current.mark.content ≡ Ok u → Follows becomes (says d.meta) now x)
    → after_change path allows says now d ≡ Ok e → ChangesEntry path becomes d e
change_frames path allows says now d e isd ise becomes follows h =
    let held = bind_ok (entry_named path d) _ e h in
    let allowed = bind_ok (allows held.0.entry.1.current.mark.content) _ e held.1.1 in
    let time = bind_ok (time_after now (entry_time held.0.entry.1)) _ e allowed.1.1 in
    let is = same_ok _ e time.1.1 in
    subst (λ (w : BareDoc). ChangesEntry path becomes d w) is
    (said_frames path d isd held.0 held.1.0 becomes (says d.meta) now (λ proper. follows held.0.entry.1 allowed.0 proper allowed.1.0) time.0 time.1.0 (subst IsDoc (sym is) ise))

-- ---- edit

-- what an entry says is in order
proper_parts : (x : EntryRecord) → is_proper_entry x ≡ true
    → (rises (λ (f : BareField). f.key) x.current.mark.content.fields ≡ true) × (rises (λ (a : BareAttachment). a.name) x.current.mark.content.attachments ≡ true)
unfolding is_proper_content
proper_parts x all =
    let c = x.current.mark.content in
    let one = and_true (is_proper_content c) (list_all (λ (v : BareVersion). is_proper_content v.mark.content) x.history) all in
    let texts = and_true (rises (λ (f : BareField). f.key) c.fields && rises (λ (a : BareAttachment). a.name) c.attachments && rises (λ (i : Item). i.key) c.items) (is_text_content c) one.0 in
    let items = and_true (rises (λ (f : BareField). f.key) c.fields && rises (λ (a : BareAttachment). a.name) c.attachments) (rises (λ (i : Item). i.key) c.items) texts.0 in
    and_true (rises (λ (f : BareField). f.key) c.fields) (rises (λ (a : BareAttachment). a.name) c.attachments) items.0

expiry_fields : (o : Option Expiry) (c : BareContent) → (with_expiry o c).fields ≡ c.fields
expiry_fields None c = refl
expiry_fields (Some Never) c = refl
expiry_fields (Some (At time)) c = refl

pub edit_frames : EditFrames
edit_frames path values further now d e isd ise =
    change_frames path (has_unset further) (edited_so values further) now d e isd ise (IsEditedEntry values further now) edited
  where
    edited : (x : EntryRecord) (u : Unit {0}) → is_proper_entry x ≡ true → has_unset further x.current.mark.content ≡ Ok u → Follows (IsEditedEntry values further now) (edited_so values further d.meta) now x
    edited x u proper allowed items size after version says =
        let c = x.current.mark.content in
        let p = d.meta.settings.value.protect in
        let fields = without_fields further.unset (with_own_values further.protect further.set (edited_fields p values c.fields)) in
        let tags = changed_tags further.tags further.untags c.tags in
        let is : after.current.mark.content.fields ≡ fields = ap (λ (z : BareContent). z.fields) says ∙ expiry_fields further.expiry (record c { fields = fields; tags = tags }) in
        record {
          version = version;
          had = unset_there 0 further.unset c.fields u allowed;
          fields = subst (AreEditedFields values further c.fields) (sym is) (fields_edited p values further c.fields (proper_parts x proper).0);
          content = says ∙ sym (ap (λ fs. with_expiry further.expiry (record c { fields = fs; tags = tags })) is);
        }

-- ---- attach and detach

pub attach_frames : AttachFrames
attach_frames path name bytes replaces now d e isd ise =
    change_frames path (is_attachable name replaces) (λ _. with_attachment name bytes) now d e isd ise (IsAttachedEntry name bytes replaces now) attached
  where
    attached : (x : EntryRecord) (u : Unit {0}) → is_proper_entry x ≡ true → is_attachable name replaces x.current.mark.content ≡ Ok u
        → Follows (IsAttachedEntry name bytes replaces now) (with_attachment name bytes) now x
    attached x u proper allowed items size after version says =
        let c = x.current.mark.content in
        record {
          version = version;
          free = attachable name replaces c u allowed;
          attached = ap (attachment_of name) says ∙ attachment_now name bytes c (proper_parts x proper).1;
          rest = record {
            others = λ other off. ap (attachment_of other) says ∙ attachment_others name bytes other c off;
            content = says ∙ sym (ap (λ (z : BareContent). record c { attachments = z.attachments }) says);
          };
        }

pub detach_frames : DetachFrames
detach_frames path name now d e isd ise =
    change_frames path (has_attachment name) (λ _. without_attachment name) now d e isd ise (IsDetachedEntry name now) detached
  where
    detached : (x : EntryRecord) (u : Unit {0}) → is_proper_entry x ≡ true → has_attachment name x.current.mark.content ≡ Ok u → Follows (IsDetachedEntry name now) (without_attachment name) now x
    detached x u proper allowed items size after version says =
        let c = x.current.mark.content in
        record {
          version = version;
          there = detachable name c u allowed;
          gone = ap (attachment_of name) says ∙ attachment_gone name c (proper_parts x proper).1;
          rest = record {
            others = λ other off. ap (attachment_of other) says ∙ attachment_kept name other c off;
            content = says ∙ sym (ap (λ (z : BareContent). record c { attachments = z.attachments }) says);
          };
        }

-- ---- restore

pub restore_frames : RestoreFrames
restore_frames path number now d e isd ise h =
    let held = bind_ok (entry_named path d) _ e h in
    let version = bind_ok (version_or_refusal number held.0.entry.1) _ e held.1.1 in
    let time = bind_ok (time_after now (entry_time held.0.entry.1)) _ e version.1.1 in
    let is = same_ok _ e time.1.1 in
    subst (λ (w : BareDoc). ChangesEntry path (IsRestoredEntry number now) d w) is
    (said_frames path d isd held.0 held.1.0 (IsRestoredEntry number now) (λ _. version.0.mark.content) now
    (λ proper items size after new says. record {
      version = new;
      old = version.0;
      numbered = there (version_numbered number held.0.entry.1) version.0 version.1.0;
      content = says;
    }) time.0 time.1.0 (subst IsDoc (sym is) ise))
  where
    there : (o : Option BareVersion) (v : BareVersion) → ok_or o (NoVersion number) ≡ Ok v → o ≡ Some v
    there None v e = cc e
    there (Some w) v e = ap Some (same_ok w v e)

-- ---- an entry put in and taken out

pub put_root : (e : NodeId × EntryRecord) (b : Tree) → id_of (with_entry e b) ≡ id_of b
put_root e (node v r es ts) = refl

off_both : (q a b : NodeId) → (is_id q a || is_id q b) ≡ false → (is_id q a ≡ false) × (is_id q b ≡ false)
off_both q a b p = or_false (is_id q a) (is_id q b) p

pub same_off : (q a b : NodeId) → a ≡ b → is_id q a ≡ false → is_id q b ≡ false
same_off q a b e p = ap (is_id q) (sym e) ∙ p

-- the rows of a tree whose entry is moved
module _ (d : BareDoc) (isd : IsDoc d) (from to u : NodeId) (time : ℕ) (x : NodeId × EntryRecord) (b goal : Tree) (there : group_with from d.tree ≡ Some b) (own : own_entry u b ≡ Some x)
    (at : entry_at from u d.tree ≡ Some x) (key : x.0 ≡ u) (aim : group_with to (changed_at from (without_entry x.0) d.tree) ≡ Some goal) (off : is_id from to ≡ false) where
  abbrev taken : Tree
  taken = changed_at from (without_entry x.0) d.tree

  abbrev put : NodeId × EntryRecord
  put = (x.0, moved_entry from time x.1)

  abbrev moved : BareDoc
  moved = record d { tree = changed_at to (with_entry put) taken }

  own_key : own_entry x.0 b ≡ Some x
  own_key = ap (λ v. own_entry v b) key ∙ own

  take_keeps : id_of (without_entry x.0 b) ≡ id_of b
  take_keeps = take_root x.0 b

  taken_same : SameRows (only x.0) no_node (only from) d.tree taken
  taken_same = same_at from (without_entry x.0) d.tree b there take_keeps (only x.0) no_node (only from) (sym (root_same from (without_entry x.0) d.tree b there take_keeps))
      (same_more (only x.0) no_node (only (id_of b)) (only x.0) no_node (only from) b (without_entry x.0 b) (λ q p. p) (λ q p. p) (λ q p. same_off q from (id_of b) (sym (found_id from d.tree b there)) p)
      (take_same x.0 x b own_key))

  moved_same : SameRows (only x.0) no_node (only to) taken moved.tree
  moved_same = same_at to (with_entry put) taken goal aim (put_root put goal) (only x.0) no_node (only to) (sym (root_same to (with_entry put) taken goal aim (put_root put goal)))
      (same_more (only x.0) no_node (only (id_of goal)) (only x.0) no_node (only to) goal (with_entry put goal) (λ q p. p) (λ q p. p) (λ q p. same_off q to (id_of goal) (sym (found_id to taken goal aim)) p)
      (put_same put goal))

  both_same : SameRows (only x.0) no_node (either from to) d.tree moved.tree
  both_same = same_then (only x.0) no_node (either from to) d.tree taken moved.tree
      (same_more (only x.0) no_node (only from) (only x.0) no_node (either from to) d.tree taken (λ q p. p) (λ q p. p) (λ q p. (off_both q from to p).0) taken_same)
      (same_more (only x.0) no_node (only to) (only x.0) no_node (either from to) taken moved.tree (λ q p. p) (λ q p. p) (λ q p. (off_both q from to p).1) moved_same)

  taken_distinct : are_distinct (node_ids taken) ≡ true
  taken_distinct = (deleted_is_doc d isd from x.0 0 x (ap (λ v. entry_at from v d.tree) key ∙ at)).distinct

  is_to_from : is_id to from ≡ false
  is_to_from = is_false (is_id to from) (λ p. apart (is_id from to) (ap (λ v. is_id v to) (sym (same_id to from p)) ∙ id_itself to) off)

  pub is_moved : (now : ℕ) → IsDoc moved → now ≤ time → x.1.placed < time → EntryMoves x.0 from to now d moved
  is_moved now ise late later =
      let lists = take_lists x.0 x b own_key in
      let from_was : find id_cmp from (child_rows d.tree) ≡ Some (own_lists b) =
      lists_found d.tree isd.distinct from (own_lists b)
      (row_was from (without_entry x.0) d.tree b there take_keeps child_rows child_rows_all children_rows (from, own_lists b)
      (subst (λ (v : NodeId). IsIn (v, own_lists b) (child_rows b)) (found_id from d.tree b there) (own_lists_row b))) in
      let from_now : find id_cmp from (child_rows taken) ≡ Some (own_lists (without_entry x.0 b)) =
      lists_found taken taken_distinct from (own_lists (without_entry x.0 b))
      (row_now from (without_entry x.0) d.tree b there take_keeps child_rows child_rows_all children_rows (from, own_lists (without_entry x.0 b))
      (subst (λ (v : NodeId). IsIn (v, own_lists (without_entry x.0 b)) (child_rows (without_entry x.0 b))) (take_keeps ∙ found_id from d.tree b there) (own_lists_row (without_entry x.0 b)))) in
      let to_was : find id_cmp to (child_rows taken) ≡ Some (own_lists goal) =
      lists_found taken taken_distinct to (own_lists goal)
      (row_was to (with_entry put) taken goal aim (put_root put goal) child_rows child_rows_all children_rows (to, own_lists goal)
      (subst (λ (v : NodeId). IsIn (v, own_lists goal) (child_rows goal)) (found_id to taken goal aim) (own_lists_row goal))) in
      let to_now : find id_cmp to (child_rows moved.tree) ≡ Some (own_lists (with_entry put goal)) =
      lists_found moved.tree ise.distinct to (own_lists (with_entry put goal))
      (row_now to (with_entry put) taken goal aim (put_root put goal) child_rows child_rows_all children_rows (to, own_lists (with_entry put goal))
      (subst (λ (v : NodeId). IsIn (v, own_lists (with_entry put goal)) (child_rows (with_entry put goal))) (put_root put goal ∙ found_id to taken goal aim) (own_lists_row (with_entry put goal)))) in
      record {
        apart = off;
        before = x.1;
        time = time;
        was = entry_is d isd x.0 x.1 (row_was from (without_entry x.0) d.tree b there take_keeps entry_rows entry_rows_all entries_rows x (own_row x.0 x b own_key));
        is = entry_is moved ise x.0 (moved_entry from time x.1) (row_now to (with_entry put) taken goal aim (put_root put goal) entry_rows entry_rows_all entries_rows put (put_entry_row put goal));
        late = late;
        later = later;
        lost = record {
          front = lists.front;
          back = lists.back;
          groups = lists.groups;
          was = shape_kids d isd from ∙ from_was ∙ ap Some lists.was;
          now = shape_kids moved ise from ∙ moved_same.lists from off ∙ from_now ∙ ap Some lists.now;
        };
        new = record {
          before = own_lists goal;
          was = shape_kids d isd to ∙ sym (taken_same.lists to is_to_from) ∙ to_was;
          now = shape_kids moved ise to ∙ to_now ∙ ap Some (put_lists put goal);
        };
        rest = same_but (only x.0) no_node (either from to) d moved isd ise both_same;
        tombs = refl;
        meta = refl;
      }

-- an entry that is held moved to a group
pub held_moves : (d e : BareDoc) → IsDoc d → IsDoc e → (held : Holding) → Found d held → (to : NodeId) (now : ℕ) → has_group to d.tree ≡ true → is_id held.group to ≡ false
    → entry_moved_to to held now d ≡ Ok e → EntryMoves held.entry.0 held.group to now d e
held_moves d e isd ise held f to now has off h =
    let time = bind_ok (time_after now held.entry.1.placed) _ e h in
    let is = same_ok _ e time.1.1 in
    let goal = found_group to (changed_at held.group (without_entry held.entry.0) d.tree) (same_there to held.group (without held.entry.0) d.tree ∙ has) in
    subst (λ (w : BareDoc). EntryMoves held.entry.0 held.group to now d w) is
    (is_moved d isd held.group to held.entry.0 time.0 held.entry f.group goal.0 f.there f.own (held_at d held f) refl goal.1 off now (subst IsDoc (sym is) ise)
    (time_now now held.entry.1.placed time.0 time.1.0) (time_ok now held.entry.1.placed time.0 time.1.0))

pub move_entry_frames : MoveEntryFrames
move_entry_frames path goal now d e isd ise h =
    let held = bind_ok (entry_named path d) _ e h in
    let group = bind_ok (named_or_refusal (group_found d goal)) _ e held.1.1 in
    let other = bind_ok (refuse_if (is_id held.0.group group.0) AlreadyThere) _ e group.1.1 in
    let f = found path d held.0 held.1.0 in
    let aimed = named_ok (group_found d goal) group.0 group.1.0 in
    record {
      entry = held.0.entry.0;
      from = held.0.group;
      to = group.0;
      named = found_named path d held.0 held.1.0;
      aimed = aimed;
      moved = held_moves d e isd ise held.0 f group.0 now (named_group d goal group.0 aimed) (refuse_ok (is_id held.0.group group.0) AlreadyThere other.0 other.1.0) other.1.1;
    }
