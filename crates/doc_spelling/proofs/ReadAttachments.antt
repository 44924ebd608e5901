-- Attachments are read back, each with the bytes of its binary.
use Rattle.std.proofs.Common.{◌≡◌, ℕ, ◌≤◌, Bool, true, false, cond, Option, Some, None, List, [], ◌∷◌, map, Result, Ok, Err, option_map, codes, ap, ap₂, sym, refl, ◌∙◌, arith, inl}
use Rattle.std.specs.Str.{is_utf8}
use Rattle.std.proofs.lemmas.Str.{IsUtf8-from_ascii, IsUtf8-nil}
use Rattle.std.proofs.lemmas.Fmt.{IsAscii-decimal}
use Rattle.std.specs.Fmt.{decimal}
use Rattle.std.specs.declared.cmp.Ordering.{Ordering}
use Rattle.std.specs.declared.cmp.Ordering.TheVariants.{Less, Equal, Greater}
use Rattle.vault_model.specs.Bare.{BareAttachment}
use Rattle.vault_model.specs.Orders.{bytes_cmp}
use Rattle.markup_grammar.proofs.EscapedRuns.{escaped_value}
use Rattle.markup_grammar.proofs.RoundTrip.{round_trip_lem}
use Rattle.markup_grammar.proofs.TagMeanings.{attributes_told}
use Rattle.markup_grammar.specs.Attributes.{attributes, attribute_text, last_named}
use Rattle.markup_grammar.specs.Bytes.{is_space, is_digit, begins_name, is_name_byte}
use Rattle.markup_grammar.specs.Escapes.{escaped, unescaped}
use Rattle.doc_forms.specs.declared.cursor.Cursor.{Cursor}
use Rattle.doc_forms.specs.declared.fails.DocFail.{DocFail}
use Rattle.doc_forms.specs.declared.fails.DocFail.TheVariants.{Compressed}
use Rattle.doc_forms.specs.Attachments.{binary_of}
use Rattle.doc_forms.specs.Entries.{ReadSource, own_bytes, pool_number, ReadAttachment, no_attachment, source_in, is_compressed, attachment_value, attachment_rows, with_attachment}
use Rattle.doc_forms.specs.Metas.{ReadBinary}
use Rattle.doc_forms.specs.ElementTexts.{Setting, is_protected, is_hidden}
use Rattle.doc_forms.specs.Children.{container}
use Rattle.outside_core.specs.Results.{◌>>=◌}
use Rattle.doc_forms.specs.Refusals.{checked_value}
use Rattle.doc_forms.specs.Tables.{put, put_beside}
use Rattle.doc_forms.specs.ElementTexts.{ElementText, plain_text}
use Rattle.doc_spelling.specs.Pieces.{leaf, attribute_of, attributes_text}
use Rattle.doc_spelling.specs.ResolvedParts.{source_of, hidden_of, attachment_with, entry_parts_with, own_attachment}
use Rattle.doc_spelling.specs.Entries.{attachment_piece}
use Rattle.doc_spelling.specs.Pool.{PoolPair, number_in}
use Rattle.doc_spelling.proofs.Frame.{cursor_same_place, Reads, reads_none, ◌▸◌, by_row, container_reads, text_value, plain_end}
use Rattle.doc_spelling.proofs.ReadFields.{text_says}
use Rattle.doc_spelling.proofs.ValueTexts.{number_is}

-- ---- the attribute `Ref`

abbrev ref_text : ℕ → List ℕ
ref_text n = attributes_text ((codes "Ref", decimal n) ∷ [])

ref_attribute : (n : ℕ) → attributes (ref_text n) ≡ (codes "Ref", escaped (decimal n)) ∷ []
unfolding is_space is_digit begins_name is_name_byte
ref_attribute n = attributes_told (attribute_of (codes "Ref", decimal n) ∷ []) []
    (record { has_space = λ e. cc e; space = (refl, tt); name = (refl, (refl, (refl, tt))); space_before = tt; space_behind = tt; quote = inl refl; value = escaped_value (decimal n) }, tt) tt

ref_is : (n : ℕ) → attribute_text (ref_text n) (codes "Ref") ≡ Some (decimal n)
unfolding last_named
ref_is n = ap (λ l. option_map unescaped (last_named (codes "Ref") None l)) (ref_attribute n) ∙ ap (λ t. Some t) (round_trip_lem (decimal n))

open_text : (n : ℕ) → is_protected (ref_text n) ≡ false
unfolding last_named
open_text n = rw (ref_attribute n) refl

not_compressed : (n : ℕ) → is_compressed (ref_text n) ≡ false
not_compressed n = rw (ref_is n) refl

-- ---- attachments

-- An attachment has a name in UTF-8, and the pool has its bytes under its number.
pub record HasBinary (pool : List ReadBinary) (items : List PoolPair) (a : BareAttachment) : Type 0 where
  pub name : is_utf8 a.name ≡ true
  pub small : number_in items (a.bytes, a.hidden) ≤ 18446744073709551615
  pub binary : ReadBinary
  pub found : binary_of pool (number_in items (a.bytes, a.hidden)) ≡ Some binary
  pub bytes : binary.bytes ≡ a.bytes
  pub hidden : binary.hidden ≡ a.hidden

found_bytes : (n : ℕ) (h : Bool) (name : List ℕ) (o : Option ReadBinary) (b : ReadBinary) (a : BareAttachment) → o ≡ Some b → b.bytes ≡ a.bytes → b.hidden ≡ a.hidden
    → (let x : ReadAttachment = record { name = name; source = source_of n o; hidden = hidden_of h o } in x) ≡ record { name = name; source = own_bytes a.bytes; hidden = a.hidden }
found_bytes n h name o b a e f g = rw e (ap₂ (λ (bytes : List ℕ) (hidden : Bool). let x : ReadAttachment = record { name = name; source = own_bytes bytes; hidden = hidden } in x) f g)

ref_read : {s : Setting} {pool : List ReadBinary} {items : List PoolPair} (a : BareAttachment) → HasBinary pool items a
    → Reads s (attachment_with pool) (attachment_value s) (leaf (codes "Value") ((codes "Ref", decimal (number_in items (a.bytes, a.hidden))) ∷ []) []) (λ f. record f { source = own_bytes a.bytes; hidden = a.hidden }) 0
ref_read {s} {pool} {items} a h = record {
  texts = ((IsUtf8-from_ascii _ (IsAscii-decimal (number_in items (a.bytes, a.hidden)) (omega (arith, h.small))), tt), IsUtf8-nil);
  read = λ place p c room.
      let n = number_in items (a.bytes, a.hidden) in
      let raw = ref_text n in
      let text = unescaped (escaped []) in
      let last = λ (source : ReadSource) (d : Cursor) (b : Bool). cond {A = Result (ReadAttachment × Cursor) DocFail} b (Err (Compressed place)) (Ok (record p { source = source; hidden = is_hidden raw }, d)) in
      let new = record p { source = pool_number place n; hidden = is_hidden raw } in (
        new,
        ap (λ (r : Result (ElementText × Cursor) DocFail). r >>= λ x. (checked_value place (source_in place (attribute_text raw (codes "Ref")) x.0) >>= λ source. last source x.1 (is_compressed raw))) (plain_end s place raw text c (open_text n))
            ∙ (ap (λ (o : Option (List ℕ)). checked_value place (source_in place o (plain_text text)) >>= λ source. last source c (is_compressed raw)) (ref_is n)
            ∙ (ap (λ (o : Option ℕ). checked_value place (option_map (pool_number place) o) >>= λ source. last source c (is_compressed raw)) (number_is 18446744073709551615 n h.small (omega (arith, h.small)))
            ∙ (ap (last (pool_number place n) c) (not_compressed n)
            ∙ ap (λ (d : Cursor). Ok (new, d)) (sym (cursor_same_place c))))),
        found_bytes n (is_hidden raw) p.name (binary_of pool n) h.binary a h.found h.bytes h.hidden,
      );
}

map_placed : (pool : List ReadBinary) (o : Ordering) (x y : ReadAttachment) (ys after : List ReadAttachment)
    → map (attachment_with pool) (put_beside o x y ys after) ≡ put_beside o (attachment_with pool x) (attachment_with pool y) (map (attachment_with pool) ys) (map (attachment_with pool) after)
map_placed pool Less x y ys after = refl
map_placed pool Equal x y ys after = refl
map_placed pool Greater x y ys after = refl

map_put : (pool : List ReadBinary) (x : ReadAttachment) (ys : List ReadAttachment) → map (attachment_with pool) (put (λ (f : ReadAttachment). f.name) x ys) ≡ put (λ (f : ReadAttachment). f.name) (attachment_with pool x) (map (attachment_with pool) ys)
map_put pool x [] = refl
map_put pool x (y ∷ ys) =
    map_placed pool (bytes_cmp x.name y.name) x y ys (put (λ (f : ReadAttachment). f.name) x ys)
    ∙ ap (put_beside (bytes_cmp x.name y.name) (attachment_with pool x) (attachment_with pool y) (map (attachment_with pool) ys)) (map_put pool x ys)

pub attachment_read : {s : Setting} {pool : List ReadBinary} {items : List PoolPair} (a : BareAttachment) → HasBinary pool items a
    → Reads s (entry_parts_with pool) (container s (attachment_rows s) no_attachment with_attachment) (attachment_piece items a) (λ p. with_attachment p (own_attachment a)) 0
attachment_read {s} {pool} {items} a h =
    container_reads (attachment_rows s) no_attachment with_attachment (codes "Binary") (λ p. with_attachment p (own_attachment a))
    (λ p q e. ap (λ l. record (entry_parts_with pool p) { attachments = l }) (map_put pool q p.attachments ∙ ap (λ f. put (λ (f : ReadAttachment). f.name) f (map (attachment_with pool) p.attachments)) e))
    (by_row (attachment_rows s) (text_value s (attachment_with pool) _ _ _ _ a.name (λ f. record f { name = a.name }) (text_says a.name h.name) (λ p. refl))
    ▸ by_row (attachment_rows s) (ref_read {items = items} a h)
    ▸ reads_none)
