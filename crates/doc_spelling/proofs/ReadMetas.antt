-- What a database says of itself is read back, with the binaries of its document.
use Rattle.std.proofs.Common.{◌≡◌, ℕ, ◌≤◌, Bool, true, false, cond, Option, Some, None, List, [], ◌∷◌, ◌++◌, Result, Ok, Err, length, pos, negsuc, option_and_then, codes, ap, ap₂, sym, refl, ◌∙◌, arith, subst, ◌||◌}
use Rattle.std.specs.Str.{is_utf8, IsUtf8, chars}
use lib.Utf8.{encode}
use Rattle.std.proofs.lemmas.Str.{IsUtf8-from_ascii}
use Rattle.std.proofs.lemmas.Fmt.{IsAscii-decimal}
use Rattle.std.specs.Fmt.{decimal}
use Rattle.base64.specs.Engines.{standard}
use Rattle.base64.specs.GeneralPurpose.{IsBytes, encode_of}
use Rattle.vault_model.specs.Db.{nil_id}
use Rattle.vault_model.specs.Empty.{new_protection}
use Rattle.vault_model.specs.Proper.{rises}
use Rattle.time_core.specs.Times.{last_stamp}
use Rattle.vault_model.specs.declared.contents.Item.{Item}
use Rattle.vault_model.specs.declared.forms.DocForm.{DocForm}
use Rattle.vault_model.specs.declared.forms.DocForm.TheVariants.{Plain, V3, V4}
use Rattle.vault_model.specs.declared.metas.Icon.{Icon}
use Rattle.vault_model.specs.declared.metas.Meta.{Meta}
use Rattle.vault_model.specs.declared.metas.Protection.{Protection}
use Rattle.markup_grammar.specs.Attributes.{attribute_text}
use Rattle.markup_grammar.specs.Bytes.{is_digit, begins_name, is_name_byte}
use Rattle.markup_grammar.specs.Elements as told
use Rattle.markup_grammar.specs.Escapes.{escaped, unescaped}
use Rattle.doc_forms.specs.declared.cursor.Cursor.{Cursor}
use Rattle.doc_forms.specs.declared.fails.DocFail.{DocFail}
use Rattle.doc_forms.specs.declared.fails.DocFail.TheVariants.{Compressed}
use Rattle.doc_forms.specs.Metas.{ReadBinary, MetaParts, no_meta, with_meta, with_settings, with_view, with_bin, protection_rows, no_icon, icon_rows, icons_rows, binary, binaries_rows, meta_rows, metas}
use Rattle.doc_forms.specs.ElementTexts.{Setting, read_rest, is_protected, is_hidden, is_marked, is_true, may_hide}
use Rattle.doc_forms.specs.Children.{Child, by_name, container, unknown_child}
use Rattle.outside_core.specs.Results.{◌>>=◌}
use Rattle.doc_forms.specs.Refusals.{checked_value}
use Rattle.doc_forms.specs.Tables.{put}
use Rattle.doc_forms.specs.ElementTexts.{ElementText, plain_text, hidden_bytes}
use Rattle.doc_forms.specs.Values.{number64, bytes_in}
use Rattle.doc_spelling.specs.Pieces.{secret, box, none, ◌▹◌, text_piece, pieces_of, unless_empty, unless_zero, protected_attribute, in_memory_attribute, attributes_text, hidden_text, piece_if, unless_false}
use Rattle.doc_spelling.specs.Pool.{PoolPair}
use Rattle.doc_forms.specs.Attachments.{binaries_from}
use Rattle.doc_spelling.specs.Entries.{number_attribute}
use Rattle.doc_spelling.specs.Values.{bool_piece, items_piece, time_piece}
use Rattle.doc_spelling.specs.Metas.{generator, protection_piece, icon_piece, numbered_piece, binary_piece, pool_pieces, hash_pieces, settings_change_pieces, title_pieces, setting_pieces, place_pieces, limit_pieces, meta_piece}
use Rattle.doc_spelling.proofs.Attrs.{AreNamed, attribute_is, is_name}
use Rattle.doc_spelling.proofs.Frame.{identity, cursor_after, Reads, ReadsAll, reads_none, ◌▸◌, ◌▸▸◌, by_row, row_of, piece_name, container_reads, text_value, text_rest, secret_rest}
use Rattle.doc_spelling.proofs.ReadOptions.{or_else, or_old, maybe_part, unless_empty_back, unless_false_back, unless_zero_back, if_not_empty, if_not_false, if_not_zero}
use Rattle.doc_spelling.proofs.TimeTexts.{stamp_says}
use Rattle.doc_spelling.proofs.Goods.{Each, If, IsId, IsHash, IsSigned}
use Rattle.doc_spelling.proofs.ReadFields.{text_says, GoodItem, items_read}
use Rattle.doc_spelling.proofs.ReadLists.{each_leaf, append_all, put_all}
use Rattle.doc_spelling.proofs.ValueTexts.{literal, base64_utf8, bool_says, number_is, number_says, id_says, bytes_say, hash_says, signed_says}

-- ---- protection

pub protection_read : {P V : Type 0} {s : Setting} {view : P → V} (a : Protection) (keep : P → Protection → P) (g : V → V) → ((p : P) → view (keep p a) ≡ g (view p))
    → Reads s view (container s (protection_rows s) new_protection keep) (protection_piece a) g 0
protection_read {s = s} {view} a keep g kept =
    let rows = protection_rows s in
    container_reads rows new_protection keep (codes "MemoryProtection") g (λ p q e. ap (λ q. view (keep p q)) e ∙ kept p)
    (by_row rows (text_value s identity _ _ _ _ a.title (λ p. record p { title = a.title }) (bool_says false a.title) (λ p. refl))
    ▸ by_row rows (text_value s identity _ _ _ _ a.user (λ p. record p { user = a.user }) (bool_says false a.user) (λ p. refl))
    ▸ by_row rows (text_value s identity _ _ _ _ a.password (λ p. record p { password = a.password }) (bool_says true a.password) (λ p. refl))
    ▸ by_row rows (text_value s identity _ _ _ _ a.url (λ p. record p { url = a.url }) (bool_says false a.url) (λ p. refl))
    ▸ by_row rows (text_value s identity _ _ _ _ a.notes (λ p. record p { notes = a.notes }) (bool_says false a.notes) (λ p. refl))
    ▸ reads_none)

-- ---- icons

pub record GoodIcon (i : Icon) : Type 0 where
  pub id : IsId i.id
  pub bytes : IsBytes i.bytes
  pub name : is_utf8 i.name ≡ true
  pub changed : i.changed ≤ last_stamp

icon_read : {s : Setting} (form : DocForm) (i : Icon) → GoodIcon i → Reads s identity (by_name s (icons_rows s)) (icon_piece form i) (put (λ (i : Icon). i.id) i) 0
icon_read {s} form i h =
    by_row (icons_rows s) (container_reads (icon_rows s) no_icon (λ icons icon. put (λ (i : Icon). i.id) icon icons) (codes "Icon") (put (λ (i : Icon). i.id) i)
    (λ p q e. ap (λ (q : Icon). put (λ (i : Icon). i.id) q p) (e ∙ ap₂ (λ (t : List ℕ) (n : ℕ). record i { name = t; changed = n }) (unless_empty_back i.name) (unless_zero_back i.changed)))
    (by_row (icon_rows s) (text_value s identity _ _ _ _ i.id (λ p. record p { id = i.id }) (id_says nil_id i.id h.id.bytes h.id.sixteen) (λ p. refl))
    ▸ by_row (icon_rows s) (text_value s identity _ _ _ _ i.bytes (λ p. record p { bytes = i.bytes }) (bytes_say i.bytes h.bytes) (λ p. refl))
    ▸ (maybe_part (text_piece (codes "Name")) (λ (p : Icon). p.name) (λ p t. record p { name = t }) (λ t. is_utf8 t ≡ true) (λ p. refl)
    (λ t utf8. by_row (icon_rows s) (text_value s identity _ _ _ _ t (λ p. record p { name = t }) (text_says t utf8) (λ p. refl)))
    (unless_empty i.name) (if_not_empty (λ t. is_utf8 t ≡ true) i.name h.name)
    ▸▸ maybe_part (time_piece form (codes "LastModificationTime")) (λ (p : Icon). p.changed) (λ p n. record p { changed = n }) (λ n. n ≤ last_stamp) (λ p. refl)
    (λ n low. by_row (icon_rows s) (text_value s identity _ _ _ _ n (λ p. record p { changed = n }) (stamp_says form n low) (λ p. refl)))
    (unless_zero i.changed) (if_not_zero (λ n. n ≤ last_stamp) i.changed h.changed))))

pub icons_read : {P V : Type 0} {s : Setting} {view : P → V} (form : DocForm) (icons : List Icon) → Each GoodIcon icons → rises (λ (i : Icon). i.id) icons ≡ true
    → (keep : P → List Icon → P) (g : V → V) → ((p : P) → view (keep p icons) ≡ g (view p))
    → Reads s view (container s (icons_rows s) [] keep) (box (codes "CustomIcons") (pieces_of (icon_piece form) icons)) g 0
icons_read {s = s} {view} form icons good up keep g kept =
    container_reads (icons_rows s) [] keep (codes "CustomIcons") g (λ p q e. ap (λ q. view (keep p q)) (e ∙ put_all (λ (i : Icon). i.id) [] icons up) ∙ kept p)
    (each_leaf (icon_piece form) (put (λ (i : Icon). i.id)) GoodIcon (icon_read form) icons good)

-- ---- binaries

-- The number of a binary has 64 bits.
pub record GoodBinary (b : ReadBinary) : Type 0 where
  pub number : b.number ≤ 18446744073709551615
  pub bytes : IsBytes b.bytes

number_utf8 : (n : ℕ) → n ≤ 18446744073709551615 → IsUtf8 (decimal n)
number_utf8 n h = IsUtf8-from_ascii (decimal n) (IsAscii-decimal n (omega arith))

named_id : (n : ℕ) → AreNamed (number_attribute (codes "ID") n ∷ [])
unfolding is_digit begins_name is_name_byte
named_id n = (is_name 73 (68 ∷ []) refl refl, tt)

named_in_memory : (n : ℕ) → AreNamed (number_attribute (codes "ID") n ∷ in_memory_attribute ∷ [])
unfolding is_digit begins_name is_name_byte
named_in_memory n = (is_name 73 (68 ∷ []) refl refl, (is_name 80 (codes "rotectInMemory") refl refl, tt))

named_protected : (n : ℕ) → AreNamed (number_attribute (codes "ID") n ∷ protected_attribute ∷ [])
unfolding is_digit begins_name is_name_byte
named_protected n = (is_name 73 (68 ∷ []) refl refl, (is_name 80 (codes "rotected") refl refl, tt))

binary_is : (s : Setting) (place : ℕ) (raw : List ℕ) (content : told.Content) (l : List ReadBinary) (c d : Cursor) (said : ElementText) (b : ReadBinary) → GoodBinary b
    → read_rest s place raw [] content c ≡ Ok (said, d) → attribute_text raw (codes "ID") ≡ Some (decimal b.number) → bytes_in said ≡ Some b.bytes
    → is_marked (codes "Compressed") raw ≡ false → is_hidden raw ≡ b.hidden
    → binary s l (told.element place (codes "Binary") raw content) c ≡ Ok (l ++ b ∷ [], d)
binary_is s place raw content l c d said b good e id bytes marked is =
    let last = λ (number : ℕ) (bytes : List ℕ) (d : Cursor) (marked hidden : Bool). cond {A = Result (List ReadBinary × Cursor) DocFail} marked (Err (Compressed place)) (Ok (l ++ record { number = number; bytes = bytes; hidden = hidden } ∷ [], d)) in
    ap (λ (r : Result (ElementText × Cursor) DocFail). r >>= λ x. (checked_value place (option_and_then number64 (attribute_text raw (codes "ID"))) >>= λ number. (checked_value place (bytes_in x.0) >>= λ bytes. last number bytes x.1 (is_marked (codes "Compressed") raw) (is_hidden raw)))) e
    ∙ (ap (λ (o : Option (List ℕ)). checked_value place (option_and_then number64 o) >>= λ number. (checked_value place (bytes_in said) >>= λ bytes. last number bytes d (is_marked (codes "Compressed") raw) (is_hidden raw))) id
    ∙ (ap (λ (o : Option ℕ). checked_value place o >>= λ number. (checked_value place (bytes_in said) >>= λ bytes. last number bytes d (is_marked (codes "Compressed") raw) (is_hidden raw))) (number_is 18446744073709551615 b.number good.number (omega (arith, good.number)))
    ∙ (ap (λ (o : Option (List ℕ)). checked_value place o >>= λ bytes. last b.number bytes d (is_marked (codes "Compressed") raw) (is_hidden raw)) bytes
    ∙ ap₂ (last b.number b.bytes d) marked is)))

binary_name : (form : DocForm) (n : ℕ) (bytes : List ℕ) (h : Bool) → piece_name (numbered_piece form n bytes h) ≡ codes "Binary"
binary_name form n bytes false = refl
binary_name Plain n bytes true = refl
binary_name V3 n bytes true = refl
binary_name V4 n bytes true = refl

secret_read : {s : Setting} → may_hide s.form ≡ true → (n : ℕ) (bytes : List ℕ) → (let b : ReadBinary = record { number = n; bytes = bytes; hidden = true } in GoodBinary b)
    → Reads s identity (binary s) (secret (codes "Binary") (number_attribute (codes "ID") n ∷ []) bytes) (λ l. l ++ record { number = n; bytes = bytes; hidden = true } ∷ []) 0
secret_read {s} may n bytes good = record {
  texts = ((number_utf8 n good.number, tt), good.bytes);
  read = λ place l c room.
      let attrs = number_attribute (codes "ID") n ∷ protected_attribute ∷ [] in
      let b : ReadBinary = record { number = n; bytes = bytes; hidden = true } in
      let is = λ (name : List ℕ). attribute_is attrs (named_protected n) name in
      let closed : is_protected (attributes_text attrs) ≡ true = ap is_true (is (codes "Protected")) in (
        l ++ b ∷ [],
        binary_is s place (attributes_text attrs) (told.last (unescaped (hidden_text s.keystream c.offset bytes))) l c (cursor_after c (length bytes) 0) (hidden_bytes bytes) b good
            (secret_rest s place (attributes_text attrs) bytes c closed may good.bytes) (is (codes "ID")) refl
            (ap is_true (is (codes "Compressed"))) (ap₂ (λ a b. a || b) closed (ap is_true (is (codes "ProtectInMemory")))),
        refl,
      );
}

binary_read : {s : Setting} (form : DocForm) → form ≡ s.form → (n : ℕ) (bytes : List ℕ) (h : Bool) → (let b : ReadBinary = record { number = n; bytes = bytes; hidden = h } in GoodBinary b)
    → Reads s identity (binary s) (numbered_piece form n bytes h) (λ l. l ++ record { number = n; bytes = bytes; hidden = h } ∷ []) 0
binary_read {s} form same n bytes false good = record {
  texts = ((number_utf8 n good.number, tt), base64_utf8 bytes);
  read = λ place l c room.
      let attrs = number_attribute (codes "ID") n ∷ [] in
      let b : ReadBinary = record { number = n; bytes = bytes; hidden = false } in
      let is = λ (name : List ℕ). attribute_is attrs (named_id n) name in
      let in_open : is_protected (attributes_text attrs) ≡ false = ap is_true (is (codes "Protected")) in (
        l ++ b ∷ [],
        binary_is s place (attributes_text attrs) (told.last (unescaped (escaped (encode_of standard bytes)))) l c (cursor_after c 0 0) (plain_text (encode_of standard bytes)) b good
            (text_rest s place (attributes_text attrs) (encode_of standard bytes) c in_open) (is (codes "ID")) (bytes_say bytes good.bytes).1
            (ap is_true (is (codes "Compressed"))) (ap₂ (λ a b. a || b) in_open (ap is_true (is (codes "ProtectInMemory")))),
        refl,
      );
}
binary_read {s} Plain same n bytes true good = record {
  texts = ((number_utf8 n good.number, (literal 84 (codes "rue") refl, tt)), base64_utf8 bytes);
  read = λ place l c room.
      let attrs = number_attribute (codes "ID") n ∷ in_memory_attribute ∷ [] in
      let b : ReadBinary = record { number = n; bytes = bytes; hidden = true } in
      let is = λ (name : List ℕ). attribute_is attrs (named_in_memory n) name in
      let in_open : is_protected (attributes_text attrs) ≡ false = ap is_true (is (codes "Protected")) in (
        l ++ b ∷ [],
        binary_is s place (attributes_text attrs) (told.last (unescaped (escaped (encode_of standard bytes)))) l c (cursor_after c 0 0) (plain_text (encode_of standard bytes)) b good
            (text_rest s place (attributes_text attrs) (encode_of standard bytes) c in_open) (is (codes "ID")) (bytes_say bytes good.bytes).1
            (ap is_true (is (codes "Compressed"))) (ap₂ (λ a b. a || b) in_open (ap is_true (is (codes "ProtectInMemory")))),
        refl,
      );
}
binary_read {s} V3 same n bytes true good = secret_read (ap may_hide (sym same)) n bytes good
binary_read {s} V4 same n bytes true good = secret_read (ap may_hide (sym same)) n bytes good

-- ---- what depends on the form

-- the binaries in a document of this form
abbrev pub in_form : DocForm → List ReadBinary → List ReadBinary → List ReadBinary
in_form V4 pool old = old
in_form _ pool old = pool

abbrev pub hash_or : DocForm → Option (List ℕ) → Option (List ℕ) → Option (List ℕ)
hash_or V3 hash old = or_else hash old
hash_or _ hash old = old

pools_row : (s : Setting) (form : DocForm) → form ≡ s.form → (x : Child MetaParts) → row_of (codes "Binaries") (binaries_rows form s) (unknown_child s) ≡ x → row_of (codes "Binaries") (meta_rows s) (unknown_child s) ≡ x
pools_row s form e x is = ap (λ f. row_of (codes "Binaries") (binaries_rows f s) (unknown_child s)) (sym e) ∙ is

pool_read : {s : Setting} (form : DocForm) → form ≡ s.form → (pool : List ReadBinary) → Each GoodBinary pool
    → Reads s identity (container s ((codes "Binary", binary s) ∷ []) [] (λ (p : MetaParts) v. record p { binaries = v })) (box (codes "Binaries") (pieces_of (binary_piece form) pool)) (λ p. record p { binaries = pool }) 0
pool_read {s} form same pool good =
    let rows = (codes "Binary", binary s) ∷ [] in
    container_reads rows [] (λ (p : MetaParts) v. record p { binaries = v }) (codes "Binaries") (λ p. record p { binaries = pool }) (λ p q e. ap (λ l. record p { binaries = l }) (e ∙ append_all [] pool))
    (each_leaf (binary_piece form) (λ b l. l ++ b ∷ []) GoodBinary (λ b h. by_binary b h) pool good)
  where
    by_binary : (b : ReadBinary) → GoodBinary b → Reads s identity (by_name s ((codes "Binary", binary s) ∷ [])) (binary_piece form b) (λ l. l ++ b ∷ []) 0
    by_binary b h = by_row ((codes "Binary", binary s) ∷ []) (subst (λ (name : List ℕ). Reads s identity (row_of name ((codes "Binary", binary s) ∷ []) (unknown_child s)) (binary_piece form b) (λ l. l ++ b ∷ []) 0) (sym (binary_name form b.number b.bytes b.hidden)) (binary_read form same b.number b.bytes b.hidden h))

-- ---- the rows of `Meta`

pub record GoodMeta (m : Meta) : Type 0 where
  pub settings_changed : m.settings.changed ≤ last_stamp
  pub name : is_utf8 m.name.value ≡ true
  pub name_changed : m.name.changed ≤ last_stamp
  pub description : is_utf8 m.description.value ≡ true
  pub description_changed : m.description.changed ≤ last_stamp
  pub user : is_utf8 m.user.value ≡ true
  pub user_changed : m.user.changed ≤ last_stamp
  pub days : m.settings.value.days ≤ 4294967295
  pub color : is_utf8 m.settings.value.color ≡ true
  pub key_changed : m.view.key_changed ≤ last_stamp
  pub key_rec : IsSigned (negsuc 9223372036854775807) (pos 9223372036854775807) m.settings.value.key_rec
  pub key_force : IsSigned (negsuc 9223372036854775807) (pos 9223372036854775807) m.settings.value.key_force
  pub icons : Each GoodIcon m.icons
  pub icons_rise : rises (λ (i : Icon). i.id) m.icons ≡ true
  pub bin : IsId m.bin.value.id
  pub bin_changed : m.bin.changed ≤ last_stamp
  pub templates : IsId m.templates.value
  pub templates_changed : m.templates.changed ≤ last_stamp
  pub last_group : IsId m.view.last_group
  pub last_top : IsId m.view.last_top
  pub history_items : IsSigned (negsuc 2147483647) (pos 2147483647) m.settings.value.history_items
  pub history_size : IsSigned (negsuc 9223372036854775807) (pos 9223372036854775807) m.settings.value.history_size
  pub items : Each GoodItem m.items
  pub items_rise : rises (λ (i : Item). i.key) m.items ≡ true

-- when the settings were changed, as a document of this form says, or as was known before
abbrev said_change : DocForm → ℕ → ℕ → ℕ
said_change V3 changed old = or_old (unless_zero changed) old
said_change form changed old = changed

said_change_back : (form : DocForm) (changed : ℕ) → said_change form changed 0 ≡ changed
said_change_back Plain changed = refl
said_change_back V3 changed = unless_zero_back changed
said_change_back V4 changed = refl

abbrev with_change : ℕ → MetaParts → MetaParts
with_change changed p = with_meta (λ k. record k { settings = record k.settings { changed = changed } }) p

abbrev said_names : DocForm → Meta → MetaParts → MetaParts
said_names form m p = with_meta (λ k. record k { settings = record k.settings { changed = said_change form m.settings.changed k.settings.changed }; name = m.name; description = m.description; user = m.user }) p

abbrev said_settings : Meta → MetaParts → MetaParts
said_settings m p = with_meta (λ k. record k {
  settings = record k.settings {
    value = record k.settings.value {
      days = m.settings.value.days;
      color = m.settings.value.color;
      key_rec = m.settings.value.key_rec;
      key_force = m.settings.value.key_force;
      key_force_once = or_old (unless_false m.settings.value.key_force_once) k.settings.value.key_force_once;
      protect = m.settings.value.protect;
    };
  };
  view = record k.view { key_changed = m.view.key_changed };
  icons = m.icons;
}) p

abbrev said_places : Meta → MetaParts → MetaParts
said_places m p = with_meta (λ k. record k { bin = m.bin; templates = m.templates; view = record k.view { last_group = m.view.last_group; last_top = m.view.last_top } }) p

abbrev said_limits : Meta → MetaParts → MetaParts
said_limits m p = with_settings (λ k. record k { history_items = m.settings.value.history_items; history_size = m.settings.value.history_size }) p

change_read : {s : Setting} (form : DocForm) (changed : ℕ) → changed ≤ last_stamp
    → Reads s identity (by_name s (meta_rows s)) (time_piece form (codes "SettingsChanged") changed) (λ p. with_change changed p) 0
change_read {s} form changed low = by_row (meta_rows s) (text_value s identity _ _ _ _ changed (λ p. with_change changed p) (stamp_says form changed low) (λ p. refl))

changes_read : {s : Setting} (form : DocForm) (changed : ℕ) → changed ≤ last_stamp
    → ReadsAll s identity (by_name s (meta_rows s)) (settings_change_pieces form changed) (λ p. with_change (said_change form changed p.meta.settings.changed) p) 0
changes_read Plain changed low = change_read Plain changed low ▸ reads_none
changes_read V3 changed low =
    maybe_part (time_piece V3 (codes "SettingsChanged")) (λ (p : MetaParts). p.meta.settings.changed) (λ p n. with_change n p) (λ n. n ≤ last_stamp) (λ p. refl)
    (change_read V3) (unless_zero changed) (if_not_zero (λ n. n ≤ last_stamp) changed low)
changes_read V4 changed low = change_read V4 changed low ▸ reads_none

module _ {s : Setting} (form : DocForm) (m : Meta) (h : GoodMeta m) where
  names_read : ReadsAll s identity (by_name s (meta_rows s)) (title_pieces form m) (said_names form m) 0
  names_read =
      changes_read form m.settings.changed h.settings_changed
      ▸▸ by_row (meta_rows s) (text_value s identity _ _ _ _ (m.name.value) (λ p. with_meta (λ k. record k { name = record k.name { value = m.name.value } }) p) (text_says m.name.value h.name) (λ p. refl))
      ▸ by_row (meta_rows s) (text_value s identity _ _ _ _ (m.name.changed) (λ p. with_meta (λ k. record k { name = record k.name { changed = m.name.changed } }) p) (stamp_says form m.name.changed h.name_changed) (λ p. refl))
      ▸ by_row (meta_rows s) (text_value s identity _ _ _ _ (m.description.value) (λ p. with_meta (λ k. record k { description = record k.description { value = m.description.value } }) p) (text_says m.description.value h.description) (λ p. refl))
      ▸ by_row (meta_rows s) (text_value s identity _ _ _ _ (m.description.changed) (λ p. with_meta (λ k. record k { description = record k.description { changed = m.description.changed } }) p) (stamp_says form m.description.changed h.description_changed) (λ p. refl))
      ▸ by_row (meta_rows s) (text_value s identity _ _ _ _ (m.user.value) (λ p. with_meta (λ k. record k { user = record k.user { value = m.user.value } }) p) (text_says m.user.value h.user) (λ p. refl))
      ▸ by_row (meta_rows s) (text_value s identity _ _ _ _ (m.user.changed) (λ p. with_meta (λ k. record k { user = record k.user { changed = m.user.changed } }) p) (stamp_says form m.user.changed h.user_changed) (λ p. refl))
      ▸ reads_none

  settings_read : ReadsAll s identity (by_name s (meta_rows s)) (setting_pieces form m) (said_settings m) 0
  settings_read =
      by_row (meta_rows s) (text_value s identity _ _ _ _ (m.settings.value.days) (λ p. with_settings (λ k. record k { days = m.settings.value.days }) p) (number_says 365 4294967295 m.settings.value.days h.days (omega (arith, h.days))) (λ p. refl))
      ▸ by_row (meta_rows s) (text_value s identity _ _ _ _ (m.settings.value.color) (λ p. with_settings (λ k. record k { color = m.settings.value.color }) p) (text_says m.settings.value.color h.color) (λ p. refl))
      ▸ by_row (meta_rows s) (text_value s identity _ _ _ _ (m.view.key_changed) (λ p. with_view (λ k. record k { key_changed = m.view.key_changed }) p) (stamp_says form m.view.key_changed h.key_changed) (λ p. refl))
      ▸ by_row (meta_rows s) (text_value s identity _ _ _ _ (m.settings.value.key_rec) (λ p. with_settings (λ k. record k { key_rec = m.settings.value.key_rec }) p) (signed_says (negsuc 9223372036854775807) (pos 9223372036854775807) (negsuc 0) m.settings.value.key_rec (omega arith) (omega arith) h.key_rec) (λ p. refl))
      ▸ by_row (meta_rows s) (text_value s identity _ _ _ _ (m.settings.value.key_force) (λ p. with_settings (λ k. record k { key_force = m.settings.value.key_force }) p) (signed_says (negsuc 9223372036854775807) (pos 9223372036854775807) (negsuc 0) m.settings.value.key_force (omega arith) (omega arith) h.key_force) (λ p. refl))
      ▸ (maybe_part (bool_piece (codes "MasterKeyChangeForceOnce")) (λ (p : MetaParts). p.meta.settings.value.key_force_once) (λ p b. with_settings (λ k. record k { key_force_once = b }) p) (λ b. Unit {0}) (λ p. refl)
      (λ b good. by_row (meta_rows s) (text_value s identity _ _ _ _ b (λ p. with_settings (λ k. record k { key_force_once = b }) p) (bool_says false b) (λ p. refl)))
      (unless_false m.settings.value.key_force_once) (if_not_false (λ b. Unit {0}) m.settings.value.key_force_once tt)
      ▸▸ by_row (meta_rows s) (protection_read m.settings.value.protect (λ p v. with_settings (λ k. record k { protect = v }) p) (λ p. with_settings (λ k. record k { protect = m.settings.value.protect }) p) (λ p. refl))
      ▸ by_row (meta_rows s) (icons_read form m.icons h.icons h.icons_rise (λ p v. with_meta (λ k. record k { icons = v }) p) (λ p. with_meta (λ k. record k { icons = m.icons }) p) (λ p. refl))
      ▸ reads_none)

  places_read : ReadsAll s identity (by_name s (meta_rows s)) (place_pieces form m) (said_places m) 0
  places_read =
      by_row (meta_rows s) (text_value s identity _ _ _ _ (m.bin.value.enabled) (λ p. with_bin (λ k. record k { enabled = m.bin.value.enabled }) p) (bool_says true m.bin.value.enabled) (λ p. refl))
      ▸ by_row (meta_rows s) (text_value s identity _ _ _ _ (m.bin.value.id) (λ p. with_bin (λ k. record k { id = m.bin.value.id }) p) (id_says nil_id m.bin.value.id h.bin.bytes h.bin.sixteen) (λ p. refl))
      ▸ by_row (meta_rows s) (text_value s identity _ _ _ _ (m.bin.changed) (λ p. with_meta (λ k. record k { bin = record k.bin { changed = m.bin.changed } }) p) (stamp_says form m.bin.changed h.bin_changed) (λ p. refl))
      ▸ by_row (meta_rows s) (text_value s identity _ _ _ _ (m.templates.value) (λ p. with_meta (λ k. record k { templates = record k.templates { value = m.templates.value } }) p) (id_says nil_id m.templates.value h.templates.bytes h.templates.sixteen) (λ p. refl))
      ▸ by_row (meta_rows s) (text_value s identity _ _ _ _ (m.templates.changed) (λ p. with_meta (λ k. record k { templates = record k.templates { changed = m.templates.changed } }) p) (stamp_says form m.templates.changed h.templates_changed) (λ p. refl))
      ▸ by_row (meta_rows s) (text_value s identity _ _ _ _ (m.view.last_group) (λ p. with_view (λ k. record k { last_group = m.view.last_group }) p) (id_says nil_id m.view.last_group h.last_group.bytes h.last_group.sixteen) (λ p. refl))
      ▸ by_row (meta_rows s) (text_value s identity _ _ _ _ (m.view.last_top) (λ p. with_view (λ k. record k { last_top = m.view.last_top }) p) (id_says nil_id m.view.last_top h.last_top.bytes h.last_top.sixteen) (λ p. refl))
      ▸ reads_none

  limits_read : ReadsAll s identity (by_name s (meta_rows s)) (limit_pieces m) (said_limits m) 0
  limits_read =
      by_row (meta_rows s) (text_value s identity _ _ _ _ (m.settings.value.history_items) (λ p. with_settings (λ k. record k { history_items = m.settings.value.history_items }) p) (signed_says (negsuc 2147483647) (pos 2147483647) (pos 10) m.settings.value.history_items (omega arith) (omega arith) h.history_items) (λ p. refl))
      ▸ by_row (meta_rows s) (text_value s identity _ _ _ _ (m.settings.value.history_size) (λ p. with_settings (λ k. record k { history_size = m.settings.value.history_size }) p) (signed_says (negsuc 9223372036854775807) (pos 9223372036854775807) (pos 6291456) m.settings.value.history_size (omega arith) (omega arith) h.history_size) (λ p. refl))
      ▸ reads_none

  items_row : ReadsAll s identity (by_name s (meta_rows s)) (items_piece form m.items ▹ none) (λ p. with_meta (λ k. record k { items = m.items }) p) 0
  items_row = by_row (meta_rows s) (items_read form m.items h.items h.items_rise (λ p v. with_meta (λ k. record k { items = v }) p) (λ p. with_meta (λ k. record k { items = m.items }) p) (λ p. refl)) ▸ reads_none

pool_row : {s : Setting} (pool : List PoolPair) → Each GoodBinary (binaries_from 0 pool) → (form : DocForm) → form ≡ s.form
    → ReadsAll s identity (by_name s (meta_rows s)) (pool_pieces form pool) (λ p. record p { binaries = in_form form (binaries_from 0 pool) p.binaries }) 0
pool_row pool good V4 same = reads_none
pool_row {s} pool good Plain same =
    by_row (meta_rows s) (subst (λ child. Reads s identity child (box (codes "Binaries") (pieces_of (binary_piece Plain) (binaries_from 0 pool))) (λ p. record p { binaries = binaries_from 0 pool }) 0)
    (sym (pools_row s Plain same _ refl)) (pool_read Plain same (binaries_from 0 pool) good)) ▸ reads_none
pool_row {s} pool good V3 same =
    by_row (meta_rows s) (subst (λ child. Reads s identity child (box (codes "Binaries") (pieces_of (binary_piece V3) (binaries_from 0 pool))) (λ p. record p { binaries = binaries_from 0 pool }) 0)
    (sym (pools_row s V3 same _ refl)) (pool_read V3 same (binaries_from 0 pool) good)) ▸ reads_none

hash_row : {s : Setting} (hash : Option (List ℕ)) → If IsHash hash → (form : DocForm)
    → ReadsAll s identity (by_name s (meta_rows s)) (hash_pieces form hash) (λ p. record p { hash = hash_or form hash p.hash }) 0
hash_row hash good Plain = reads_none
hash_row hash good V4 = reads_none
hash_row None good V3 = reads_none
hash_row {s} (Some h) good V3 =
    by_row (meta_rows s) (text_value s identity _ _ _ _ (Some h) (λ p. record p { hash = Some h }) (hash_says h good.bytes good.length) (λ p. refl)) ▸ reads_none

-- what is known at the end of `Meta`
abbrev pub meta_known : DocForm → Option (List ℕ) → List PoolPair → Meta → MetaParts
meta_known form hash pool m = record { meta = m; hash = hash_or form hash None; binaries = in_form form (binaries_from 0 pool) [] }

generator_utf8 : is_utf8 generator ≡ true
unfolding is_utf8 chars encode
generator_utf8 = refl

pub meta_read : {P V : Type 0} {s : Setting} {view : P → V} (form : DocForm) → form ≡ s.form → (hash : Option (List ℕ)) → If IsHash hash
    → (pool : List PoolPair) → Each GoodBinary (binaries_from 0 pool) → (m : Meta) → GoodMeta m
    → (keep : P → MetaParts → P) (g : V → V) → ((p : P) → view (keep p (meta_known form hash pool m)) ≡ g (view p))
    → Reads s view (metas s keep) (meta_piece form hash pool m) g 0
meta_read {s = s} {view} form same hash good_hash pool good_pool m h keep g kept =
    container_reads (meta_rows s) no_meta keep (codes "Meta") g
    (λ p q e. ap (λ q. view (keep p q)) (e ∙ ap₂ (λ changed once. known changed once) (said_change_back form m.settings.changed) (unless_false_back m.settings.value.key_force_once)) ∙ kept p)
    (by_row (meta_rows s) (text_value s identity _ _ _ _ generator (λ p. p) (text_says generator generator_utf8) (λ p. refl))
    ▸ (hash_row hash good_hash form
    ▸▸ (names_read form m h ▸▸ (settings_read form m h ▸▸ (places_read form m h ▸▸ (limits_read form m h
    ▸▸ (pool_row pool good_pool form same ▸▸ items_row form m h)))))))
  where
    known : ℕ → Bool → MetaParts
    known changed once = record (meta_known form hash pool m) {
      meta = record m { settings = record { changed = changed; value = record m.settings.value { key_force_once = once } } };
    }
