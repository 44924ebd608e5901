-- Entries with their history are read back.
use Rattle.std.proofs.Common.{◌≡◌, ℕ, ◌+◌, ◌≤◌, ◌&&◌, Bool, true, false, cond, not, ltb, Option, Some, None, List, [], ◌∷◌, ◌++◌, map, Result, Ok, length, bytes_eq, codes, ap, ap₂, sym, refl, ◌∙◌, subst, arith}
use Rattle.std.proofs.lemmas.Bool.Decides.{nat_tests}
use Rattle.std.proofs.lemmas.List.{map-append}
use Rattle.std.proofs.lemmas.List.Folds.{list_all-map}
use Rattle.std.specs.Ordering.{is_lt}
use Rattle.vault_model.specs.Orders.{bytes_cmp}
use Rattle.std.specs.Str.{is_utf8}
use Rattle.vault_model.specs.Bare.{BareField, BareAttachment, BareContent}
use Rattle.vault_model.specs.Db.{NodeId, nil_id}
use Rattle.vault_model.specs.Proper.{rises}
use Rattle.vault_model.specs.Shape.{BareVersion, EntryRecord}
use Rattle.vault_model.specs.declared.contents.Item.{Item}
use Rattle.markup_grammar.specs.Tree.{start_tag}
use Rattle.doc_forms.specs.declared.cursor.Cursor.{Cursor}
use Rattle.doc_forms.specs.declared.fails.DocFail.{DocFail}
use Rattle.doc_forms.specs.Entries.{ReadAttachment, ReadVersion, ReadEntry, EntryParts, no_entry, with_content, with_field, with_attachment, version_rows, version_of, history_item_rows, history_rows, history, node_id, entry_rows, entry}
use Rattle.doc_forms.specs.Metas.{ReadBinary}
use Rattle.doc_forms.specs.ElementTexts.{Setting}
use Rattle.doc_forms.specs.Children.{Child, unknown_child, by_name, count_node}
use Rattle.outside_core.specs.Results.{◌>>=◌}
use Rattle.doc_forms.specs.Tables.{put}
use Rattle.doc_spelling.specs.Pieces.{Piece, none, ◌▹◌, ◌▹▹◌, pieces_of, piece_if, unless_empty, unless_nil, unless_true, hidden_len_all}
use Rattle.doc_spelling.specs.ResolvedParts.{version_with, entry_with, entry_parts_with, own_attachment, own_version, own_entry}
use Rattle.doc_spelling.proofs.Frame.{cursor_after, ◌▸▸◌, Reads, ReadsAll, reads_none, ◌▸◌, all_alike, by_row, row_of, piece_name, children_read, container_reads, text_value}
use Rattle.doc_spelling.proofs.ReadFields.{text_says, GoodItem, items_read, GoodField, field_read, GoodTyping, typing_read}
use Rattle.doc_spelling.proofs.ReadAttachments.{HasBinary, attachment_read}
use Rattle.doc_spelling.proofs.ReadLists.{fold_over, each_piece, each_leaf, maybe_piece, step_if, fold_along, append_all, put_all}
use Rattle.doc_spelling.proofs.ReadTimes.{times_read}
use Rattle.doc_spelling.proofs.ValueTexts.{bool_says, id_says, number_says, id_or_none_says, own_id_says}
use Rattle.doc_spelling.specs.Pool.{PoolPair}
use Rattle.doc_spelling.specs.Ranges.{count_all}
use Rattle.doc_spelling.specs.Values.{id_piece, bool_piece, items_pieces}
use Rattle.doc_spelling.specs.Entries.{field_piece, attachment_piece, version_times, icon_pieces, previous_pieces, text_pieces, held_pieces, version_pieces, history_item_piece, history_piece, entry_piece}
use Rattle.doc_forms.specs.Entries.{entry_of}
use Rattle.vault_model.specs.declared.forms.DocForm.{DocForm}
use Rattle.doc_spelling.proofs.Goods.{Each, If, IsId, GoodTimes}
use Rattle.doc_spelling.proofs.ReadOptions.{or_old, maybe_part, unless_empty_back, unless_true_back, unless_nil_back, if_not_true, if_not_nil, or_else, or_none}

-- ---- rows that entries and history items share

abbrev is_shared : List ℕ → Bool
is_shared name = not (bytes_eq name (codes "UUID")) && not (bytes_eq name (codes "History")) && not (bytes_eq name (codes "PreviousParentGroup"))

-- they are read alike
abbrev pub Shares : Setting → List (List ℕ × Child EntryParts) → Type 0
Shares s rows = (name : List ℕ) → is_shared name ≡ true → row_of name rows (unknown_child s) ≡ row_of name (version_rows s) (unknown_child s)

none_of_three : {A : Type 0} (a b d : Bool) (x y w z : A) → not a && not b && not d ≡ true → cond a x (cond b y (cond d w z)) ≡ z
none_of_three true b d x y w z e = cc e
none_of_three false true d x y w z e = cc e
none_of_three false false true x y w z e = cc e
none_of_three false false false x y w z e = refl

none_of_two : {A : Type 0} (a b d : Bool) (x w z : A) → not a && not b && not d ≡ true → cond a x (cond d w z) ≡ z
none_of_two true b d x w z e = cc e
none_of_two false true d x w z e = cc e
none_of_two false false true x w z e = cc e
none_of_two false false false x w z e = refl

entry_shares : (s : Setting) → Shares s (entry_rows s)
entry_shares s name e = none_of_three (bytes_eq name (codes "UUID")) (bytes_eq name (codes "History")) (bytes_eq name (codes "PreviousParentGroup")) _ _ _ (row_of name (version_rows s) (unknown_child s)) e

item_shares : (s : Setting) → Shares s (history_item_rows s)
item_shares s name e = none_of_two (bytes_eq name (codes "UUID")) (bytes_eq name (codes "History")) (bytes_eq name (codes "PreviousParentGroup")) _ _ (row_of name (version_rows s) (unknown_child s)) e

-- ---- what is good

pub record GoodContent (pool : List ReadBinary) (pairs : List PoolPair) (c : BareContent) : Type 0 where
  pub icon : c.icon ≤ 4294967295
  pub custom_icon : If IsId c.custom_icon
  pub fore : is_utf8 c.fore ≡ true
  pub back : is_utf8 c.back ≡ true
  pub url_override : is_utf8 c.url_override ≡ true
  pub tags : is_utf8 c.tags ≡ true
  pub fields : Each GoodField c.fields
  pub fields_rise : rises (λ (f : BareField). f.key) c.fields ≡ true
  pub attachments : Each (HasBinary pool pairs) c.attachments
  pub attachments_rise : rises (λ (a : BareAttachment). a.name) c.attachments ≡ true
  pub auto_type : GoodTyping c.auto_type
  pub items : Each GoodItem c.items
  pub items_rise : rises (λ (i : Item). i.key) c.items ≡ true

pub record GoodVersion (pool : List ReadBinary) (items : List PoolPair) (e : EntryRecord) (v : BareVersion) : Type 0 where
  pub content : GoodContent pool items v.mark.content
  pub times : GoodTimes (version_times e v)

-- ---- versions

-- what a version's content says over what was known before
abbrev said_content : BareContent → BareContent → BareContent
said_content c old = record {
  created = old.created;
  expiry = old.expiry;
  expires = old.expires;
  icon = c.icon;
  custom_icon = or_else c.custom_icon old.custom_icon;
  fields = fold_over (put (λ (f : BareField). f.key)) old.fields c.fields;
  attachments = old.attachments;
  tags = c.tags;
  fore = c.fore;
  back = c.back;
  url_override = c.url_override;
  auto_type = c.auto_type;
  items = or_old (unless_empty c.items) old.items;
  quality = or_old (unless_true c.quality) old.quality;
}

abbrev said_attachments : List BareAttachment → List ReadAttachment → List ReadAttachment
said_attachments attachments l = fold_over (λ a l. put (λ (f : ReadAttachment). f.name) (own_attachment a) l) l attachments

abbrev said_icons : BareContent → EntryParts → EntryParts
said_icons c p = with_content (λ k. record k { icon = c.icon; custom_icon = or_else c.custom_icon k.custom_icon }) p

abbrev said_texts : BareContent → EntryParts → EntryParts
said_texts c p = with_content (λ k. record k { fore = c.fore; back = c.back; url_override = c.url_override; tags = c.tags; quality = or_old (unless_true c.quality) k.quality }) p

abbrev said_held : BareContent → EntryParts → EntryParts
said_held c p = record p {
  content = record p.content { fields = fold_over (put (λ (f : BareField). f.key)) p.content.fields c.fields; auto_type = c.auto_type; items = or_old (unless_empty c.items) p.content.items };
  attachments = said_attachments c.attachments p.attachments;
}

-- what is known after a version's elements, in their order
abbrev said_in : (put_id put_previous : EntryParts → EntryParts) → EntryRecord → BareVersion → EntryParts → EntryParts
said_in put_id put_previous e v p =
    said_held v.mark.content (record (put_previous (said_texts v.mark.content (said_icons v.mark.content (put_id p)))) { times = version_times e v })

abbrev said_version : EntryRecord → BareVersion → EntryParts → EntryParts
said_version e v p = record {
  id = p.id;
  previous = p.previous;
  times = version_times e v;
  content = said_content v.mark.content p.content;
  attachments = said_attachments v.mark.content.attachments p.attachments;
  history = p.history;
}

module _ {s : Setting} (pool : List ReadBinary) (form : DocForm) (items : List PoolPair) (same_form : form ≡ s.form) (rows : List (List ℕ × Child EntryParts)) (shares : Shares s rows) where
  row : {x : Piece} {f : EntryParts → EntryParts} {n : ℕ} → is_shared (piece_name x) ≡ true
      → Reads s (entry_parts_with pool) (row_of (piece_name x) (version_rows s) (unknown_child s)) x f n → Reads s (entry_parts_with pool) (by_name s rows) x f n
  row {x} {f} {n} e r = by_row rows (subst (λ child. Reads s (entry_parts_with pool) child x f n) (sym (shares (piece_name x) e)) r)

  custom_icon_read : (o : Option NodeId) → If IsId o
      → ReadsAll s (entry_parts_with pool) (by_name s rows) (piece_if (id_piece (codes "CustomIconUUID")) o) (λ p. with_content (λ c. record c { custom_icon = or_else o c.custom_icon }) p) 0
  custom_icon_read None good = reads_none
  custom_icon_read (Some u) good =
      row refl (text_value s (entry_parts_with pool) _ _ _ _ (Some u) (λ p. with_content (λ c. record c { custom_icon = Some u }) p) (id_or_none_says u good.bytes good.sixteen) (λ p. refl)) ▸ reads_none

  fields_read : (fields : List BareField) → Each GoodField fields
      → ReadsAll s (entry_parts_with pool) (by_name s rows) (pieces_of (field_piece form) fields) (λ p. with_content (λ c. record c { fields = fold_over (put (λ (f : BareField). f.key)) c.fields fields }) p) 0
  fields_read fields good = all_alike _ 0
      (λ p. fold_along (λ (p : EntryParts). p.content.fields) (λ p l. with_content (λ c. record c { fields = l }) p) (put (λ (f : BareField). f.key)) (λ p. refl) (λ p l. refl) (λ p l k. refl) p fields)
      refl
      (each_leaf (field_piece form) (λ f p. with_field p f) GoodField
      (λ f h. row refl (field_read form same_form f h with_field (λ p. with_field p f) (λ p. refl))) fields good)

  attachments_read : (attachments : List BareAttachment) → Each (HasBinary pool items) attachments
      → ReadsAll s (entry_parts_with pool) (by_name s rows) (pieces_of (attachment_piece items) attachments) (λ p. record p { attachments = said_attachments attachments p.attachments }) 0
  attachments_read attachments good = all_alike _ 0
      (λ p. fold_along (λ (p : EntryParts). p.attachments) (λ p l. record p { attachments = l }) (λ a l. put (λ (f : ReadAttachment). f.name) (own_attachment a) l) (λ p. refl) (λ p l. refl) (λ p l k. refl) p attachments)
      refl
      (each_leaf (attachment_piece items) (λ a p. with_attachment p (own_attachment a)) (HasBinary pool items) (λ a h. row refl (attachment_read {items = items} a h)) attachments good)

  items_at_end : (items : List Item) → Each GoodItem items → rises (λ (i : Item). i.key) items ≡ true
      → ReadsAll s (entry_parts_with pool) (by_name s rows) (items_pieces form items) (λ p. with_content (λ c. record c { items = or_old (unless_empty items) c.items }) p) 0
  items_at_end [] good up = reads_none
  items_at_end (i ∷ is) good up =
      row refl (items_read form (i ∷ is) good up (λ p v. with_content (λ c. record c { items = v }) p) (λ p. with_content (λ c. record c { items = i ∷ is }) p) (λ p. refl)) ▸ reads_none

  icons_row : (c : BareContent) → GoodContent pool items c
      → ReadsAll s (entry_parts_with pool) (by_name s rows) (icon_pieces c.icon c.custom_icon) (said_icons c) 0
  icons_row c h =
      row refl (text_value s (entry_parts_with pool) _ _ _ _ c.icon (λ p. with_content (λ k. record k { icon = c.icon }) p) (number_says 0 4294967295 c.icon h.icon (omega (arith, h.icon))) (λ p. refl))
      ▸ custom_icon_read c.custom_icon h.custom_icon

  texts_row : (c : BareContent) → GoodContent pool items c
      → ReadsAll s (entry_parts_with pool) (by_name s rows) (text_pieces c) (said_texts c) 0
  texts_row c h =
      row refl (text_value s (entry_parts_with pool) _ _ _ _ c.fore (λ p. with_content (λ k. record k { fore = c.fore }) p) (text_says c.fore h.fore) (λ p. refl))
      ▸ row refl (text_value s (entry_parts_with pool) _ _ _ _ c.back (λ p. with_content (λ k. record k { back = c.back }) p) (text_says c.back h.back) (λ p. refl))
      ▸ row refl (text_value s (entry_parts_with pool) _ _ _ _ c.url_override (λ p. with_content (λ k. record k { url_override = c.url_override }) p) (text_says c.url_override h.url_override) (λ p. refl))
      ▸ row refl (text_value s (entry_parts_with pool) _ _ _ _ c.tags (λ p. with_content (λ k. record k { tags = c.tags }) p) (text_says c.tags h.tags) (λ p. refl))
      ▸ maybe_part (bool_piece (codes "QualityCheck")) (λ (p : EntryParts). p.content.quality) (λ p b. with_content (λ k. record k { quality = b }) p) (λ b. Unit {0}) (λ p. refl)
      (λ b good. row refl (text_value s (entry_parts_with pool) _ _ _ _ b (λ p. with_content (λ k. record k { quality = b }) p) (bool_says true b) (λ p. refl)))
      (unless_true c.quality) (if_not_true (λ b. Unit {0}) c.quality tt)

  held_row : (c : BareContent) → GoodContent pool items c
      → ReadsAll s (entry_parts_with pool) (by_name s rows) (held_pieces form items c) (said_held c) 0
  held_row c h =
      fields_read c.fields h.fields
      ▸▸ (attachments_read c.attachments h.attachments
      ▸▸ (row refl (typing_read c.auto_type h.auto_type (λ p v. with_content (λ k. record k { auto_type = v }) p) (λ p. with_content (λ k. record k { auto_type = c.auto_type }) p) (λ p. refl))
      ▸ items_at_end c.items h.items h.items_rise))

  -- a version, where this is how the id and the previous parent are kept
  version_read : {put_id put_previous : EntryParts → EntryParts} (e : NodeId × EntryRecord) (v : BareVersion) → GoodVersion pool items e.1 v
      → Reads s (entry_parts_with pool) (by_name s rows) (id_piece (codes "UUID") e.0) put_id 0
      → ReadsAll s (entry_parts_with pool) (by_name s rows) (previous_pieces e.1.previous) put_previous 0
      → ReadsAll s (entry_parts_with pool) (by_name s rows) (version_pieces form items e v) (said_in put_id put_previous e.1 v) 0
  version_read e v good id_read previous_read =
      id_read ▸ (icons_row v.mark.content good.content ▸▸ (texts_row v.mark.content good.content ▸▸ (previous_read
      ▸▸ (row refl (times_read form (version_times e.1 v) good.times (λ p v. record p { times = v }) (λ p. record p { times = version_times e.1 v }) (λ p. refl))
      ▸ held_row v.mark.content good.content))))

-- ---- nodes

-- one more node has ended
pub counted_next : (c : Cursor) (h n : ℕ) → c.nodes + (1 + n) ≤ 262144 → count_node (cursor_after c h n) ≡ Ok (cursor_after c h (1 + n))
counted_next c h n room =
    let less : ltb (c.nodes + n) 262144 ≡ true = grind (arith, nat_tests) in
    let same : c.nodes + n + 1 ≡ c.nodes + (1 + n) = omega arith in
    rw (less, same) refl

names_rise : (xs : List BareAttachment) → rises (λ (f : ReadAttachment). f.name) (map own_attachment xs) ≡ rises (λ (a : BareAttachment). a.name) xs
names_rise [] = refl
names_rise (x ∷ xs) = ap₂ (λ a b. a && b) (list_all-map (λ (f : ReadAttachment). is_lt (bytes_cmp x.name f.name)) own_attachment xs) (names_rise xs)

attachments_rise : (xs : List BareAttachment) → rises (λ (a : BareAttachment). a.name) xs ≡ true → rises (λ (f : ReadAttachment). f.name) (map own_attachment xs) ≡ true
attachments_rise xs up = names_rise xs ∙ up

pub folded_map : {A B V : Type 0} (h : A → B) (step : B → V → V) (v : V) (xs : List A) → fold_over (λ a l. step (h a) l) v xs ≡ fold_over step v (map h xs)
folded_map h step v [] = refl
folded_map h step v (x ∷ xs) = folded_map h step (step (h x) v) xs

-- what a version's elements say of an entry of which nothing was known
made : List BareField → Option NodeId → List Item → Bool → List ReadAttachment → BareVersion → ReadVersion
made fields icon items quality attachments v = record {
  modified = v.mark.modified;
  content = record v.mark.content { fields = fields; custom_icon = icon; items = items; quality = quality; attachments = [] };
  attachments = attachments;
  stats = v.stats;
}

version_is : (pool : List ReadBinary) (items : List PoolPair) (e : EntryRecord) (v : BareVersion) → GoodVersion pool items e v → (id : Option NodeId) (previous : NodeId)
    → version_of (said_version e v (record no_entry { id = id; previous = previous })) ≡ own_version v
unfolding made
version_is pool items e v good id previous =
    let c = v.mark.content in
    let h = good.content in
    let attachments_are = folded_map own_attachment (put (λ (f : ReadAttachment). f.name)) [] c.attachments ∙ put_all (λ (f : ReadAttachment). f.name) [] (map own_attachment c.attachments) (attachments_rise c.attachments h.attachments_rise) in
    ap₂ (λ fields icon. made fields icon (or_old (unless_empty c.items) []) (or_old (unless_true c.quality) true) (said_attachments c.attachments []) v) (put_all (λ (f : BareField). f.key) [] c.fields h.fields_rise) (or_none c.custom_icon)
    ∙ (ap₂ (λ items quality. made c.fields c.custom_icon items quality (said_attachments c.attachments []) v) (unless_empty_back c.items) (unless_true_back c.quality)
    ∙ ap (λ attachments. made c.fields c.custom_icon c.items c.quality attachments v) attachments_are)

-- ---- history

-- each version is one node
counts : (past : List BareVersion) → count_all (λ (v : BareVersion). 1) past ≡ length past
counts [] = refl
counts (v ∷ vs) = omega (arith, counts vs)

own_history : (l : List ReadVersion) (past : List BareVersion) → fold_over (λ (v : BareVersion) l. l ++ own_version v ∷ []) l past ≡ l ++ map own_version past
own_history l past = folded_map own_version (λ x l. l ++ x ∷ []) l past ∙ append_all l (map own_version past)

unchanged_by : {A V : Type 0} (o : Option A) (v : V) → step_if (λ (x : A) (v : V). v) o v ≡ v
unchanged_by None v = refl
unchanged_by (Some x) v = refl

module _ {s : Setting} (pool : List ReadBinary) (form : DocForm) (items : List PoolPair) (same_form : form ≡ s.form) where
  item_id : (u : NodeId) → IsId u → Reads s (entry_parts_with pool) (by_name s (history_item_rows s)) (id_piece (codes "UUID") u) (λ p. p) 0
  item_id u id = by_row (history_item_rows s) (text_value s (entry_parts_with pool) _ _ _ _ (Some u) (λ p. p) (id_or_none_says u id.bytes id.sixteen) (λ p. refl))

  item_previous : (u : NodeId) → IsId u → ReadsAll s (entry_parts_with pool) (by_name s (history_item_rows s)) (previous_pieces u) (λ p. p) 0
  item_previous u id = all_alike (λ p. p) 0 (λ p. unchanged_by (unless_nil u) p) refl
      (maybe_piece (id_piece (codes "PreviousParentGroup")) (λ u p. p) IsId
      (λ u id. by_row (history_item_rows s) (text_value s (entry_parts_with pool) _ _ _ _ u (λ p. p) (id_says nil_id u id.bytes id.sixteen) (λ p. refl)))
      (unless_nil u) (if_not_nil IsId u id))

  history_item_read : (e : NodeId × EntryRecord) → IsId e.0 → IsId e.1.previous → (v : BareVersion) → GoodVersion pool items e.1 v
      → Reads s (map (version_with pool)) (by_name s (history_rows s)) (history_item_piece form items e v) (λ l. l ++ own_version v ∷ []) 1
  history_item_read e id previous v good = by_row (history_rows s) (
      let rows = history_item_rows s in
      let pieces = version_pieces form items e v in
      let all = version_read pool form items same_form rows (item_shares s) e v good (item_id e.0 id) (item_previous e.1.previous previous) in
      let said = λ (p : EntryParts). said_version e.1 v p in
      record {
        texts = all.texts;
        read = λ place l c room.
            let a = children_read s (entry_parts_with pool) (by_name s rows) (codes "Entry") pieces said 0 (all_alike said 0 (λ p. refl) refl all) (place + length (start_tag (codes "Entry") [])) place no_entry c (omega arith) in (
              l ++ version_of a.0 ∷ [],
              ap (λ (r : Result (EntryParts × Cursor) DocFail). ◌>>=◌ {A = ReadVersion × Cursor} {B = List ReadVersion × Cursor} (r >>= λ x. (count_node x.1 >>= λ after. Ok (version_of x.0, after))) (λ x. Ok (l ++ x.0 ∷ [], x.1))) a.1
                  ∙ ap (λ (r : Result Cursor DocFail). ◌>>=◌ {A = ReadVersion × Cursor} {B = List ReadVersion × Cursor} (r >>= λ after. Ok (version_of a.0, after)) (λ x. Ok (l ++ x.0 ∷ [], x.1))) (counted_next c (hidden_len_all pieces) 0 room),
              map-append (version_with pool) l (version_of a.0 ∷ []) ∙ ap (λ x. map (version_with pool) l ++ x ∷ []) (ap version_of a.2 ∙ version_is pool items e.1 v good None nil_id),
            );
      })

  history_read : (e : NodeId × EntryRecord) → IsId e.0 → IsId e.1.previous → Each (GoodVersion pool items e.1) e.1.history
      → Reads s (entry_parts_with pool) (history s) (history_piece form items e) (λ p. record p { history = map own_version e.1.history }) (length e.1.history)
  history_read e id previous good =
      container_reads {seen = map (version_with pool)} (history_rows s) [] (λ p v. record p { history = v }) (codes "History") (λ p. record p { history = map own_version e.1.history })
      (λ p q f. ap (λ l. record (entry_parts_with pool p) { history = l }) (f ∙ own_history [] e.1.history))
      (all_alike (λ l. fold_over (λ (v : BareVersion) l. l ++ own_version v ∷ []) l e.1.history) (length e.1.history) (λ l. refl) (counts e.1.history)
      (each_piece (history_item_piece form items e) (λ v l. l ++ own_version v ∷ []) (GoodVersion pool items e.1) (λ v. 1) (history_item_read e id previous) e.1.history good))

-- ---- entries

pub record GoodEntry (pool : List ReadBinary) (items : List PoolPair) (e : NodeId × EntryRecord) : Type 0 where
  pub id : IsId e.0
  pub other : bytes_eq e.0 nil_id ≡ false
  pub previous : IsId e.1.previous
  pub current : GoodVersion pool items e.1 e.1.current
  pub history : Each (GoodVersion pool items e.1) e.1.history

pub node_id_is : (place : ℕ) (o : Option NodeId) (u : NodeId) → o ≡ Some u → bytes_eq u nil_id ≡ false → node_id place o ≡ Ok u
node_id_is place o u e other = rw (e, other) refl

abbrev said_entry : NodeId × EntryRecord → EntryParts → EntryParts
said_entry e p = record (said_version e.1 e.1.current (record p { id = Some e.0; previous = or_old (unless_nil e.1.previous) p.previous })) { history = map own_version e.1.history }

-- an entry with this previous parent and this current version
kept_entry : NodeId × EntryRecord → NodeId → ReadVersion → ReadEntry
kept_entry e previous current = record { id = e.0; placed = e.1.placed; previous = previous; current = current; history = map own_version e.1.history }

entry_is : (pool : List ReadBinary) (items : List PoolPair) (e : NodeId × EntryRecord) → GoodEntry pool items e → entry_of e.0 (said_entry e no_entry) ≡ own_entry e
unfolding kept_entry
entry_is pool items e good =
    ap₂ (kept_entry e) (unless_nil_back e.1.previous) (version_is pool items e.1 e.1.current good.current (Some e.0) (or_old (unless_nil e.1.previous) nil_id))

-- an entry, whatever it is kept in
pub entry_read : {P V : Type 0} {s : Setting} {view : P → V} (pool : List ReadBinary) (form : DocForm) (items : List PoolPair) → form ≡ s.form → (e : NodeId × EntryRecord) → GoodEntry pool items e
    → (keep : P → ReadEntry → P) (g : V → V) → ((p : P) (r : ReadEntry) → entry_with pool r ≡ own_entry e → view (keep p r) ≡ g (view p))
    → Reads s view (entry s keep) (entry_piece form items e) g (1 + length e.1.history)
entry_read {P} {s = s} {view} pool form items same_form e good keep g kept =
    let rows = entry_rows s in
    let pieces = version_pieces form items e e.1.current ▹▹ (history_piece form items e ▹ none) in
    let id_row = by_row rows (text_value s (entry_parts_with pool) _ _ _ _ e.0 (λ p. record p { id = Some e.0 }) (own_id_says e.0 good.id.bytes good.id.sixteen) (λ p. refl)) in
    let previous_row = maybe_part (id_piece (codes "PreviousParentGroup")) (λ (p : EntryParts). p.previous) (λ p u. record p { previous = u }) IsId (λ p. refl)
    (λ u id. by_row rows (text_value s (entry_parts_with pool) _ _ _ _ u (λ p. record p { previous = u }) (id_says nil_id u id.bytes id.sixteen) (λ p. refl)))
    (unless_nil e.1.previous) (if_not_nil IsId e.1.previous good.previous) in
    let all = version_read pool form items same_form rows (entry_shares s) e e.1.current good.current id_row previous_row
    ▸▸ (by_row rows (history_read pool form items same_form e good.id good.previous good.history) ▸ reads_none) in
    let said = λ (p : EntryParts). said_entry e p in
    record {
      texts = all.texts;
      read = λ place p c room.
          let a = children_read s (entry_parts_with pool) (by_name s rows) (codes "Entry") pieces said (length e.1.history) (all_alike said (length e.1.history) (λ p. refl) (omega arith) all) (place + length (start_tag (codes "Entry") [])) place no_entry c (omega arith) in
          let id_is : a.0.id ≡ Some e.0 = ap (λ (p : EntryParts). p.id) a.2 in (
            keep p (entry_of e.0 a.0),
            ap (λ (r : Result (EntryParts × Cursor) DocFail). ◌>>=◌ {A = ReadEntry × Cursor} {B = P × Cursor} (r >>= λ x. (count_node x.1 >>= λ after. (node_id place x.0.id >>= λ u. Ok (entry_of u x.0, after)))) (λ x. Ok (keep p x.0, x.1))) a.1
                ∙ (ap (λ (r : Result Cursor DocFail). ◌>>=◌ {A = ReadEntry × Cursor} {B = P × Cursor} (r >>= λ after. (node_id place a.0.id >>= λ u. Ok (entry_of u a.0, after))) (λ x. Ok (keep p x.0, x.1))) (counted_next c (hidden_len_all pieces) (length e.1.history) room)
                ∙ ap (λ (r : Result NodeId DocFail). ◌>>=◌ {A = ReadEntry × Cursor} {B = P × Cursor} (r >>= λ u. Ok (entry_of u a.0, cursor_after c (hidden_len_all pieces) (1 + length e.1.history))) (λ x. Ok (keep p x.0, x.1))) (node_id_is place a.0.id e.0 id_is good.other)),
            kept p (entry_of e.0 a.0) (ap (entry_of e.0) a.2 ∙ entry_is pool items e good),
          );
    }
