-- What every document is, and that its parts are in the ranges of their types, make it one that is read back.
use Rattle.std.proofs.Common.{◌≡◌, ◌≤◌, ◌&&◌, Bool, true, false, List, [], ◌∷◌, ◌++◌, map, length, flat_map, bytes_eq, sym, subst, ◌∙◌, arith}
use Rattle.std.proofs.lemmas.Grind.{flat_map-append}
use Rattle.std.proofs.lemmas.Slice.Eq.{bytes_eq-Decides}
use Rattle.std.specs.Cmp.{both_ways}
use Rattle.std.specs.List.{list_all, list_any}
use Rattle.std.specs.Str.{is_utf8}
use Rattle.base64.specs.GeneralPurpose.{IsBytes}
use Rattle.vault_model.proofs.Ids.{same_id, is_same_id}
use Rattle.vault_model.proofs.Tests.{and_true}
use Rattle.vault_model.specs.Bare.{BareField, BareAttachment, BareContent}
use Rattle.vault_model.specs.Db.{NodeId, nil_id}
use Rattle.vault_model.specs.Join.{is_id}
use Rattle.vault_model.specs.Proper.{rises, is_proper_content, is_proper_group_content, is_text_content, is_text_field, is_text_item, is_text_typing, is_text_icon, is_text_group, is_text_meta}
use Rattle.vault_model.specs.Shape.{BareVersion, EntryRecord, GroupRecord}
use Rattle.vault_model.specs.Tree as vault
use Rattle.vault_model.specs.Tree.{Tree, Trees, BareDoc, IsDoc, entry_rows, entry_rows_all, group_rows, group_rows_all, node_ids, node_ids_all, is_elsewhere, is_proper_entry}
use Rattle.vault_model.specs.declared.contents.Association.{Association}
use Rattle.vault_model.specs.declared.contents.AutoType.{AutoType}
use Rattle.vault_model.specs.declared.contents.Item.{Item}
use Rattle.vault_model.specs.declared.metas.Icon.{Icon}
use Rattle.vault_model.specs.declared.metas.Meta.{Meta}
use Rattle.doc_forms.specs.Attachments.{binaries_from}
use Rattle.std.proofs.lemmas.Str.{IsUtf8-from_is_utf8}
use Rattle.vault_model.proofs.Tests.{and_both, not_true, or_false}
use Rattle.vault_model.specs.declared.nodes.Tombstone.{Tombstone}
use Rattle.doc_spelling.specs.Pool.{PoolPair, version_pairs, entry_pairs, pool_of}
use Rattle.doc_spelling.specs.Entries.{version_times}
use Rattle.doc_spelling.specs.Groups.{group_times}
use Rattle.doc_spelling.specs.Ranges.{is_stamp, fits_u32, are_bytes, is_uuid, is_uuid_or_none, fits_times, fits_item, fits_attachment, fits_content, fits_version, fits_entry, fits_record, fits_tree, fits_trees, fits_icon, fits_settings, fits_changes, fits_places, fits_meta, fits_tomb, fits_i32, fits_i64, IsWritable}
use Rattle.doc_spelling.proofs.EscapedUtf8.{utf8_bytes}
use Rattle.doc_spelling.proofs.Goods.{Each}
use Rattle.doc_spelling.proofs.PoolPairs.{each_both, each_after, each_flat, IsIn, all_in, each_new, held, numbers_good}
use Rattle.doc_spelling.proofs.RangeTests.{stamp_low, u32_low, i32_signed, i64_signed, bytes_are, uuid_id, uuid_if, times_good}
use Rattle.doc_spelling.proofs.ReadAttachments.{HasBinary}
use Rattle.doc_spelling.proofs.ReadDocuments.{GoodTomb}
use Rattle.doc_spelling.proofs.ReadEntries.{GoodContent, GoodVersion, GoodEntry}
use Rattle.doc_spelling.proofs.ReadFields.{GoodItem, GoodField, GoodPair, GoodTyping}
use Rattle.doc_spelling.proofs.ReadGroups.{GoodGroup, GoodTree, GoodTrees}
use Rattle.doc_spelling.proofs.ReadMetas.{GoodBinary, GoodIcon, GoodMeta}
use Rattle.doc_spelling.proofs.ResolvedAgain.{GoodDoc}

-- ---- each of some things

tested : {A : Type 0} (p : A → Bool) (xs : List A) → list_all p xs ≡ true → Each (λ x. p x ≡ true) xs
tested p [] e = tt
tested p (x ∷ xs) e = let both = and_true (p x) (list_all p xs) e in (both.0, tested p xs both.1)

with_both : {A : Type 0} (P Q R : A → Type 0) (xs : List A) → ((x : A) → P x → Q x → R x) → Each P xs → Each Q xs → Each R xs
with_both P Q R [] f h k = tt
with_both P Q R (x ∷ xs) f h k = (f x h.0 k.0, with_both P Q R xs f h.1 k.1)

each_so : {A : Type 0} (P Q : A → Type 0) (xs : List A) → ((x : A) → P x → Q x) → Each P xs → Each Q xs
each_so P Q [] f h = tt
each_so P Q (x ∷ xs) f h = (f x h.0, each_so P Q xs f h.1)

-- ---- items, fields and typing

item_good : (i : Item) → is_text_item i ≡ true → fits_item i ≡ true → GoodItem i
item_good i e h = let both = and_true (is_utf8 i.key) (is_utf8 i.value) e in record { key = both.0; value = both.1; changed = stamp_low i.changed h }

items_good : (items : List Item) → list_all is_text_item items ≡ true → list_all fits_item items ≡ true → Each GoodItem items
items_good items e h = with_both (λ i. is_text_item i ≡ true) (λ i. fits_item i ≡ true) GoodItem items item_good (tested is_text_item items e) (tested fits_item items h)

field_good : (f : BareField) → is_text_field f ≡ true → GoodField f
field_good f e = let both = and_true (is_utf8 f.key) (is_utf8 f.value) e in record { key = both.0; value = both.1; bytes = utf8_bytes f.value (IsUtf8-from_is_utf8 f.value both.1) }

pair_good : (p : Association) → is_utf8 p.window && is_utf8 p.keys ≡ true → GoodPair p
pair_good p e = let both = and_true (is_utf8 p.window) (is_utf8 p.keys) e in record { window = both.0; keys = both.1 }

typing_good : (a : AutoType) → is_text_typing a ≡ true → fits_u32 a.obfuscation ≡ true → GoodTyping a
typing_good a e h =
    let both = and_true (is_utf8 a.sequence) _ e in
    record { obfuscation = u32_low a.obfuscation h; sequence = both.0; pairs = each_so _ GoodPair a.pairs pair_good (tested (λ (p : Association). is_utf8 p.window && is_utf8 p.keys) a.pairs both.1) }

-- ---- versions

module _ (items : List PoolPair) (small : length items ≤ 18446744073709551616) where
  attachments_held : (attachments : List BareAttachment) → Each (λ (a : BareAttachment). is_utf8 a.name ≡ true) attachments → Each (IsIn items) (map (λ (a : BareAttachment). (a.bytes, a.hidden)) attachments) → Each (HasBinary (binaries_from 0 items) items) attachments
  attachments_held [] e h = tt
  attachments_held (a ∷ attachments) e h = (held items a e.0 small h.0, attachments_held attachments e.1 h.1)

module _ (d : BareDoc) (small : length (pool_of d) ≤ 18446744073709551616) where
  content_good : (c : BareContent) → fits_content c ≡ true → is_proper_content c ≡ true → Each (IsIn (pool_of d)) (map (λ (a : BareAttachment). (a.bytes, a.hidden)) c.attachments) → GoodContent (binaries_from 0 (pool_of d)) (pool_of d) c
  unfolding is_proper_content
  content_good c h e pairs =
      let h4 = and_true _ (list_all fits_item c.items) h in
      let h3 = and_true _ (fits_u32 c.auto_type.obfuscation) h4.0 in
      let h2 = and_true _ (list_all fits_attachment c.attachments) h3.0 in
      let h1 = and_true (fits_u32 c.icon) (is_uuid_or_none c.custom_icon) h2.0 in
      let p = and_true _ (is_text_content c) e in
      let q = and_true _ _ p.0 in
      let r = and_true _ _ q.0 in
      let t7 = and_true _ (list_all is_text_item c.items) p.1 in
      let t6 = and_true _ (is_text_typing c.auto_type) t7.0 in
      let t5 = and_true _ (is_utf8 c.url_override) t6.0 in
      let t4 = and_true _ (is_utf8 c.back) t5.0 in
      let t3 = and_true _ (is_utf8 c.fore) t4.0 in
      let t2 = and_true _ (is_utf8 c.tags) t3.0 in
      let t1 = and_true (list_all is_text_field c.fields) (list_all (λ (a : BareAttachment). is_utf8 a.name) c.attachments) t2.0 in
      record {
        icon = u32_low c.icon h1.0;
        custom_icon = uuid_if c.custom_icon h1.1;
        fore = t3.1;
        back = t4.1;
        url_override = t5.1;
        tags = t2.1;
        fields = each_so (λ f. is_text_field f ≡ true) GoodField c.fields field_good (tested is_text_field c.fields t1.0);
        fields_rise = r.0;
        attachments = attachments_held (pool_of d) small c.attachments (tested (λ (a : BareAttachment). is_utf8 a.name) c.attachments t1.1) pairs;
        attachments_rise = r.1;
        auto_type = typing_good c.auto_type t6.1 h3.1;
        items = items_good c.items t7.1 h4.1;
        items_rise = q.1;
      }

  version_good : (e : EntryRecord) (v : BareVersion) → fits_version e v ≡ true → is_proper_content v.mark.content ≡ true → Each (IsIn (pool_of d)) (version_pairs v) → GoodVersion (binaries_from 0 (pool_of d)) (pool_of d) e v
  version_good e v h proper pairs =
      let both = and_true (fits_content v.mark.content) (fits_times (version_times e v)) h in
      record { content = content_good v.mark.content both.0 proper pairs; times = times_good (version_times e v) both.1 }

  versions_good : (e : EntryRecord) (vs : List BareVersion) → list_all (fits_version e) vs ≡ true → list_all (λ (v : BareVersion). is_proper_content v.mark.content) vs ≡ true → Each (IsIn (pool_of d)) (flat_map version_pairs vs) → Each (GoodVersion (binaries_from 0 (pool_of d)) (pool_of d) e) vs
  versions_good e [] h proper pairs = tt
  versions_good e (v ∷ vs) h proper pairs =
      let fit = and_true (fits_version e v) (list_all (fits_version e) vs) h in
      let both = and_true (is_proper_content v.mark.content) (list_all (λ (v : BareVersion). is_proper_content v.mark.content) vs) proper in
      let parts = each_both (IsIn (pool_of d)) (version_pairs v) (flat_map version_pairs vs) pairs in
      (version_good e v fit.0 both.0 parts.0, versions_good e vs fit.1 both.1 parts.1)

  entry_good : (e : NodeId × EntryRecord) → fits_entry e ≡ true → bytes_eq e.0 nil_id ≡ false → is_proper_entry e.1 ≡ true → Each (IsIn (pool_of d)) (entry_pairs e) → GoodEntry (binaries_from 0 (pool_of d)) (pool_of d) e
  entry_good e h other proper pairs =
      let h3 = and_true _ (list_all (fits_version e.1) e.1.history) h in
      let h2 = and_true _ (fits_version e.1 e.1.current) h3.0 in
      let h1 = and_true (is_uuid e.0) (is_uuid e.1.previous) h2.0 in
      let all = versions_good e.1 (e.1.current ∷ e.1.history) (and_both _ _ h2.1 h3.1) proper pairs in
      record { id = uuid_id e.0 h1.0; other = other; previous = uuid_id e.1.previous h1.1; current = all.0; history = all.1 }

  entries_good : (es : List (NodeId × EntryRecord)) → list_all fits_entry es ≡ true → Each (λ u. bytes_eq u nil_id ≡ false) (map (λ (e : NodeId × EntryRecord). e.0) es) → Each (λ (e : NodeId × EntryRecord). is_proper_entry e.1 ≡ true) es
      → Each (IsIn (pool_of d)) (flat_map entry_pairs es) → Each (GoodEntry (binaries_from 0 (pool_of d)) (pool_of d)) es
  entries_good [] h n p pairs = tt
  entries_good (e ∷ es) h n p pairs =
      let fit = and_true (fits_entry e) (list_all fits_entry es) h in
      let parts = each_both (IsIn (pool_of d)) (entry_pairs e) (flat_map entry_pairs es) pairs in
      (entry_good e fit.0 n.0 p.0 parts.0, entries_good es fit.1 n.1 p.1 parts.1)

  group_good : (u : NodeId) (r : GroupRecord) → fits_record u r ≡ true → bytes_eq u nil_id ≡ false → is_proper_group_content r.state.content ≡ true → GoodGroup u r
  unfolding is_proper_group_content
  group_good u r h other e =
      let c = r.state.content in
      let h6 = and_true _ (list_all fits_item c.items) h in
      let h5 = and_true _ (is_uuid r.view.top_entry) h6.0 in
      let h4 = and_true _ (fits_times (group_times r)) h5.0 in
      let h3 = and_true _ (is_uuid_or_none c.custom_icon) h4.0 in
      let h2 = and_true _ (fits_u32 c.icon) h3.0 in
      let h1 = and_true (is_uuid u) (is_uuid r.previous) h2.0 in
      let p = and_true _ (is_text_group c) e in
      let t4 = and_true _ (list_all is_text_item c.items) p.1 in
      let t3 = and_true _ (is_utf8 c.tags) t4.0 in
      let t2 = and_true _ (is_utf8 c.sequence) t3.0 in
      let t1 = and_true (is_utf8 c.name) (is_utf8 c.notes) t2.0 in
      record {
        id = uuid_id u h1.0;
        other = other;
        previous = uuid_id r.previous h1.1;
        name = t1.0;
        notes = t1.1;
        tags = t3.1;
        icon = u32_low c.icon h2.1;
        custom_icon = uuid_if c.custom_icon h3.1;
        times = times_good (group_times r) h4.1;
        sequence = t2.1;
        top_entry = uuid_id r.view.top_entry h5.1;
        items = items_good c.items t4.1 h6.1;
        items_rise = p.0;
      }

  split_pairs : (xs ys : List (NodeId × EntryRecord)) → Each (IsIn (pool_of d)) (flat_map entry_pairs (xs ++ ys)) → Each (IsIn (pool_of d)) (flat_map entry_pairs xs) × Each (IsIn (pool_of d)) (flat_map entry_pairs ys)
  split_pairs xs ys h = each_both (IsIn (pool_of d)) (flat_map entry_pairs xs) (flat_map entry_pairs ys) (subst (Each (IsIn (pool_of d))) (flat_map-append entry_pairs xs ys) h)

  mutual
    tree_good : (t : Tree) → fits_tree t ≡ true → Each (λ u. bytes_eq u nil_id ≡ false) (node_ids t) → Each (λ (e : NodeId × EntryRecord). is_proper_entry e.1 ≡ true) (entry_rows t)
        → Each (λ (g : NodeId × GroupRecord). is_proper_group_content g.1.state.content ≡ true) (group_rows t) → Each (IsIn (pool_of d)) (flat_map entry_pairs (entry_rows t)) → GoodTree (binaries_from 0 (pool_of d)) (pool_of d) t
    tree_good (vault.node u r es ts) h n p g pairs =
        let h2 = and_true _ (fits_trees ts) h in
        let h1 = and_true (fits_record u r) (list_all fits_entry es) h2.0 in
        let ids = each_both (λ u. bytes_eq u nil_id ≡ false) (map (λ (e : NodeId × EntryRecord). e.0) es) (node_ids_all ts) n.1 in
        let proper = each_both (λ (e : NodeId × EntryRecord). is_proper_entry e.1 ≡ true) es (entry_rows_all ts) p in
        let parts = split_pairs es (entry_rows_all ts) pairs in
        (group_good u r h1.0 n.0 g.0, entries_good es h1.1 ids.0 proper.0 parts.0, trees_good ts h2.1 ids.1 proper.1 g.1 parts.1)

    trees_good : (ts : Trees) → fits_trees ts ≡ true → Each (λ u. bytes_eq u nil_id ≡ false) (node_ids_all ts) → Each (λ (e : NodeId × EntryRecord). is_proper_entry e.1 ≡ true) (entry_rows_all ts)
        → Each (λ (g : NodeId × GroupRecord). is_proper_group_content g.1.state.content ≡ true) (group_rows_all ts) → Each (IsIn (pool_of d)) (flat_map entry_pairs (entry_rows_all ts)) → GoodTrees (binaries_from 0 (pool_of d)) (pool_of d) ts
    trees_good vault.none h n p g pairs = tt
    trees_good (vault.beside t ts) h n p g pairs =
        let fit = and_true (fits_tree t) (fits_trees ts) h in
        let ids = each_both (λ u. bytes_eq u nil_id ≡ false) (node_ids t) (node_ids_all ts) n in
        let proper = each_both (λ (e : NodeId × EntryRecord). is_proper_entry e.1 ≡ true) (entry_rows t) (entry_rows_all ts) p in
        let groups = each_both (λ (g : NodeId × GroupRecord). is_proper_group_content g.1.state.content ≡ true) (group_rows t) (group_rows_all ts) g in
        let parts = split_pairs (entry_rows t) (entry_rows_all ts) pairs in
        (tree_good t fit.0 ids.0 proper.0 groups.0 parts.0, trees_good ts fit.1 ids.1 proper.1 groups.1 parts.1)

-- ---- what a database says of itself

icon_good : (i : Icon) → is_text_icon i ≡ true → fits_icon i ≡ true → GoodIcon i
icon_good i e h =
    let h2 = and_true _ (is_stamp i.changed) h in
    let h1 = and_true (is_uuid i.id) (are_bytes i.bytes) h2.0 in
    record { id = uuid_id i.id h1.0; bytes = bytes_are i.bytes h1.1; name = e; changed = stamp_low i.changed h2.1 }

meta_good : (m : Meta) → fits_meta m ≡ true → is_text_meta m ≡ true → rises (λ (i : Icon). i.id) m.icons ≡ true → rises (λ (i : Item). i.key) m.items ≡ true → GoodMeta m
meta_good m h e icons items =
    let s = m.settings.value in
    let h4 = and_true _ (list_all fits_item m.items) h in
    let h3 = and_true _ (list_all fits_icon m.icons) h4.0 in
    let h2 = and_true _ (fits_places m) h3.0 in
    let h1 = and_true (fits_changes m) (fits_settings s) h2.0 in
    let c6 = and_true _ (is_stamp m.templates.changed) h1.0 in
    let c5 = and_true _ (is_stamp m.bin.changed) c6.0 in
    let c4 = and_true _ (is_stamp m.view.key_changed) c5.0 in
    let c3 = and_true _ (is_stamp m.user.changed) c4.0 in
    let c2 = and_true _ (is_stamp m.description.changed) c3.0 in
    let c1 = and_true (is_stamp m.settings.changed) (is_stamp m.name.changed) c2.0 in
    let s4 = and_true _ (fits_i64 s.history_size) h1.1 in
    let s3 = and_true _ (fits_i32 s.history_items) s4.0 in
    let s2 = and_true _ (fits_i64 s.key_force) s3.0 in
    let s1 = and_true (fits_u32 s.days) (fits_i64 s.key_rec) s2.0 in
    let p3 = and_true _ (is_uuid m.view.last_top) h2.1 in
    let p2 = and_true _ (is_uuid m.view.last_group) p3.0 in
    let p1 = and_true (is_uuid m.bin.value.id) (is_uuid m.templates.value) p2.0 in
    let t5 = and_true _ (list_all is_text_item m.items) e in
    let t4 = and_true _ (list_all is_text_icon m.icons) t5.0 in
    let t3 = and_true _ (is_utf8 s.color) t4.0 in
    let t2 = and_true _ (is_utf8 m.user.value) t3.0 in
    let t1 = and_true (is_utf8 m.name.value) (is_utf8 m.description.value) t2.0 in
    record {
      settings_changed = stamp_low m.settings.changed c1.0;
      name = t1.0;
      name_changed = stamp_low m.name.changed c1.1;
      description = t1.1;
      description_changed = stamp_low m.description.changed c2.1;
      user = t2.1;
      user_changed = stamp_low m.user.changed c3.1;
      days = u32_low s.days s1.0;
      color = t3.1;
      key_changed = stamp_low m.view.key_changed c4.1;
      key_rec = i64_signed s.key_rec s1.1;
      key_force = i64_signed s.key_force s2.1;
      icons = with_both (λ i. is_text_icon i ≡ true) (λ i. fits_icon i ≡ true) GoodIcon m.icons icon_good (tested is_text_icon m.icons t4.1) (tested fits_icon m.icons h3.1);
      icons_rise = icons;
      bin = uuid_id m.bin.value.id p1.0;
      bin_changed = stamp_low m.bin.changed c5.1;
      templates = uuid_id m.templates.value p1.1;
      templates_changed = stamp_low m.templates.changed c6.1;
      last_group = uuid_id m.view.last_group p2.1;
      last_top = uuid_id m.view.last_top p3.1;
      history_items = i32_signed s.history_items s3.1;
      history_size = i64_signed s.history_size s4.1;
      items = items_good m.items t5.1 h4.1;
      items_rise = items;
    }

-- ---- documents

is_bytes : (u v : NodeId) → is_id u v ≡ bytes_eq v u
is_bytes u v =
    let bytes = bytes_eq-Decides v u in
    both_ways (is_id u v) (bytes_eq v u) (λ e. bytes.1 (sym (same_id u v e))) (λ e. is_same_id u v (sym (bytes.0 e)))

none_nil : (us : List NodeId) → list_any (is_id nil_id) us ≡ false → Each (λ u. bytes_eq u nil_id ≡ false) us
none_nil [] e = tt
none_nil (u ∷ us) e = let both = or_false (is_id nil_id u) (list_any (is_id nil_id) us) e in (sym (is_bytes nil_id u) ∙ both.0, none_nil us both.1)

-- the bytes of attachments are bytes
attached : (c : List BareAttachment) → list_all fits_attachment c ≡ true → Each (λ (p : PoolPair). IsBytes p.0) (map (λ (a : BareAttachment). (a.bytes, a.hidden)) c)
attached [] h = tt
attached (a ∷ c) h = let both = and_true (fits_attachment a) (list_all fits_attachment c) h in (bytes_are a.bytes both.0, attached c both.1)

version_bytes : (e : EntryRecord) (v : BareVersion) → fits_version e v ≡ true → Each (λ (p : PoolPair). IsBytes p.0) (version_pairs v)
version_bytes e v h =
    let c = v.mark.content in
    let both = and_true (fits_content c) (fits_times (version_times e v)) h in
    let h4 = and_true _ (list_all fits_item c.items) both.0 in
    let h3 = and_true _ (fits_u32 c.auto_type.obfuscation) h4.0 in
    attached c.attachments (and_true _ (list_all fits_attachment c.attachments) h3.0).1

entry_bytes : (e : NodeId × EntryRecord) → fits_entry e ≡ true → Each (λ (p : PoolPair). IsBytes p.0) (entry_pairs e)
entry_bytes e h =
    let h3 = and_true _ (list_all (fits_version e.1) e.1.history) h in
    let h2 = and_true _ (fits_version e.1 e.1.current) h3.0 in
    each_flat (λ (p : PoolPair). IsBytes p.0) (λ v. fits_version e.1 v ≡ true) version_pairs (e.1.current ∷ e.1.history) (version_bytes e.1) (h2.1, tested (fits_version e.1) e.1.history h3.1)

mutual
  rows_fit : (t : Tree) → fits_tree t ≡ true → Each (λ (e : NodeId × EntryRecord). fits_entry e ≡ true) (entry_rows t)
  rows_fit (vault.node u r es ts) h =
      let h2 = and_true _ (fits_trees ts) h in
      let h1 = and_true (fits_record u r) (list_all fits_entry es) h2.0 in
      each_after (λ (e : NodeId × EntryRecord). fits_entry e ≡ true) es (entry_rows_all ts) (tested fits_entry es h1.1) (all_rows_fit ts h2.1)

  all_rows_fit : (ts : Trees) → fits_trees ts ≡ true → Each (λ (e : NodeId × EntryRecord). fits_entry e ≡ true) (entry_rows_all ts)
  all_rows_fit vault.none h = tt
  all_rows_fit (vault.beside t ts) h =
      let both = and_true (fits_tree t) (fits_trees ts) h in
      each_after (λ (e : NodeId × EntryRecord). fits_entry e ≡ true) (entry_rows t) (entry_rows_all ts) (rows_fit t both.0) (all_rows_fit ts both.1)

pool_good : (d : BareDoc) → fits_tree d.tree ≡ true → length (pool_of d) ≤ 18446744073709551616 → Each GoodBinary (binaries_from 0 (pool_of d))
pool_good d h small =
    let pairs = flat_map entry_pairs (entry_rows d.tree) in
    numbers_good (pool_of d) 0 (omega (arith, small))
    (each_new (λ (p : PoolPair). IsBytes p.0) pairs [] (each_flat (λ (p : PoolPair). IsBytes p.0) (λ (e : NodeId × EntryRecord). fits_entry e ≡ true) entry_pairs (entry_rows d.tree) entry_bytes (rows_fit d.tree h)) tt)

tomb_good : (t : Tombstone) → fits_tomb t ≡ true → GoodTomb t
tomb_good t h = let both = and_true (is_uuid t.id) (is_stamp t.deleted) h in record { id = uuid_id t.id both.0; deleted = stamp_low t.deleted both.1 }

pub doc_good : (d : BareDoc) → IsDoc d → IsWritable d → GoodDoc d
doc_good d is h =
    let h2 = and_true _ (fits_meta d.meta) h.fits in
    let h1 = and_true (fits_tree d.tree) (list_all fits_tomb d.tombs) h2.0 in
    record {
      tree = tree_good d h.pool d.tree h1.0 (none_nil (node_ids d.tree) (not_true (list_any (is_id nil_id) (node_ids d.tree)) is.no_nil)) (tested (λ (r : NodeId × EntryRecord). is_proper_entry r.1) (entry_rows d.tree) is.entries_proper) (tested (λ (r : NodeId × GroupRecord). is_proper_group_content r.1.state.content) (group_rows d.tree) is.groups_proper) (all_in (flat_map entry_pairs (entry_rows d.tree)) []);
      levels = is.levels;
      nodes = h.nodes;
      binaries = pool_good d h1.0 h.pool;
      distinct = is.distinct;
      tombs = each_so (λ t. fits_tomb t ≡ true) GoodTomb d.tombs tomb_good (tested fits_tomb d.tombs h1.1);
      tombs_rise = is.tombs_rise;
      tombs_apart = is.tombs_apart;
      meta = meta_good d.meta h2.1 is.meta_texts is.icons_rise is.items_rise;
    }
