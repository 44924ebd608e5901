-- Where a text that begins one in UTF-8 may be cut.
use Rattle.std.proofs.Common.{◌≡◌, ℕ, ◌+◌, ◌-◌, ◌≤◌, ◌<◌, Bool, true, false, cond, Ok, Option, Some, None, List, ◌++◌, length, take, drop, get_or, slice_range, IsUtf8, refl, ap, sym, ◌∙◌, subst, arith, length-append, length-drop, inl, inr}
use Rattle.std.proofs.lemmas.List.{get_or_append_left, get_or-drop, drop-append-le, take-append-le}
use Rattle.std.proofs.lemmas.Str.{IsUtf8-between, IsCharBoundary-start, IsCharBoundary-after_ascii, IsCharBoundary-before_ascii}
use Rattle.std.specs.Str.{IsCharBoundary}
use Rattle.markup_grammar.specs.Utf8.{Partial, none_left, utf8_run, BeginsUtf8}
use Rattle.markup_grammar.proofs.Utf8Fronts.{completing, run_completes}
use Rattle.markup_scanner.specs.Asides.{EndsTag, EndsTagOrStays}
use Rattle.markup_scanner.specs.Left.{StandsAt}
use Rattle.markup_scanner.specs.Tags.{AsciiAt}
use Rattle.markup_scanner.specs.Tokens.{TokenStands}
use Rattle.markup_scanner.specs.declared.tag.StartTag.{StartTag}
use Rattle.markup_scanner.specs.declared.token.Token.TheVariants.{Start, Words}
use Rattle.markup_scanner.proofs.Steps.{stands_within}

-- the text begins one
pub begins_there : (text : List ℕ) → (utf8_run text none_left ≡ None → ⊥) → BeginsUtf8 text
begins_there text some = by_run (utf8_run text none_left) refl
  where
    by_run : (o : Option Partial) → utf8_run text none_left ≡ o → BeginsUtf8 text
    by_run None is = absurd (some is)
    by_run (Some last) is = (completing last, run_completes text last is)

byte_there : (text : List ℕ) (at b : ℕ) → StandsAt text at b → get_or text at 0 ≡ b
byte_there text at b stand =
    ap (λ n. get_or text n 0) (let e : at ≡ at + 0 = omega arith in e) ∙ (sym (get_or-drop at text 0 0) ∙ ap (λ xs. get_or xs 0 0) stand)

-- before a byte of ASCII
pub cut_before : (text : List ℕ) (at b : ℕ) → StandsAt text at b → b < 128 → IsCharBoundary text at
cut_before text at b stand low =
    IsCharBoundary-before_ascii text at (stands_within text at b stand) (rw (byte_there text at b stand) low)

-- behind one
pub cut_after : (text : List ℕ) (at b : ℕ) → (utf8_run text none_left ≡ None → ⊥) → StandsAt text at b → b < 128 → IsCharBoundary text (at + 1)
cut_after text at b some stand low =
    let begins = begins_there text some in
    let within : at < length text = stands_within text at b stand in
    let longer : at < length (text ++ begins.0) = rw length-append (omega arith) in
    let same : get_or (text ++ begins.0) at 0 ≡ b = get_or_append_left text begins.0 0 at within ∙ byte_there text at b stand in
    let cut = IsCharBoundary-after_ascii (text ++ begins.0) at begins.1 longer (rw same low) in (
      omega arith,
      λ more high. rw (get_or_append_left text begins.0 0 (at + 1) more) at
          (cut.1 (rw length-append (omega arith)) (rw (get_or_append_left text begins.0 0 (at + 1) more) high)),
    )

cut_longer : (text more : List ℕ) (at : ℕ) → IsCharBoundary text at → at < length text → IsCharBoundary (text ++ more) at
cut_longer text more at cut within = (
  rw length-append (omega arith),
  λ _ high. rw (get_or_append_left text more 0 at within)
      (cut.1 within (rw (get_or_append_left text more 0 at within) at high)),
)

slice_longer : (text more : List ℕ) (start end : ℕ) → start ≤ end → end ≤ length text → slice_range (text ++ more) start end ≡ slice_range text start end
slice_longer text more start end le within =
    let first : start ≤ length text = omega arith in
    let second : end - start ≤ length (drop start text) = rw length-drop (omega arith) in
    ap (λ xs. take (end - start) xs) (drop-append-le start text more first) ∙ take-append-le (end - start) (drop start text) more second

-- between two cuts is text
pub piece_utf8 : (text : List ℕ) (start end : ℕ) → (utf8_run text none_left ≡ None → ⊥) → start ≤ end → end < length text → IsCharBoundary text start → IsCharBoundary text end → IsUtf8 (slice_range text start end)
piece_utf8 text start end some le within first last =
    let begins = begins_there text some in
    let low : start < length text = omega arith in
    let P : List ℕ → Type 0 = λ xs. IsUtf8 xs in
    subst P (slice_longer text begins.0 start end le (omega arith))
    (IsUtf8-between (text ++ begins.0) start end begins.1 le (cut_longer text begins.0 start first low) (cut_longer text begins.0 end last within))

-- behind a tag, or where the reader stood
pub cut_ended : (text : List ℕ) (end : ℕ) → (utf8_run text none_left ≡ None → ⊥) → EndsTag text end → IsCharBoundary text end
cut_ended text end some (k, is, stand) = rw is (cut_after text k 62 some stand (omega arith))

pub cut_stayed : (text : List ℕ) (at end : ℕ) → (utf8_run text none_left ≡ None → ⊥) → IsCharBoundary text at → EndsTagOrStays text at end → IsCharBoundary text end
cut_stayed text at end some cut (inl same) = rw same cut
cut_stayed text at end some cut (inr ends) = cut_ended text end some ends

-- before a byte of ASCII that is not named
pub cut_ascii : (text : List ℕ) (at : ℕ) → AsciiAt text at → IsCharBoundary text at
cut_ascii text at (b, stand, low) = cut_before text at b stand low

-- at the text's start
pub cut_start : (text : List ℕ) → (utf8_run text none_left ≡ None → ⊥) → IsCharBoundary text 0
cut_start text some =
    let begins = begins_there text some in
    let cut = IsCharBoundary-start (text ++ begins.0) begins.1 in (
      omega arith,
      λ more high. rw (get_or_append_left text begins.0 0 0 more) at
          (cut.1 (rw length-append (omega arith)) (rw (get_or_append_left text begins.0 0 0 more) high)),
    )

-- a name and attributes
pub name_utf8 : (text : List ℕ) (at place : ℕ) (tag : StartTag) → (utf8_run text none_left ≡ None → ⊥) → TokenStands text at (Ok (Start place tag)) → IsUtf8 (slice_range text (place + 1) tag.name_end)
name_utf8 text at place tag some (le, opens, stand) =
    let before : place + 1 ≤ tag.name_end = omega (arith, stand.name) in
    let last = stand.after_name in
    piece_utf8 text (place + 1) tag.name_end some before (stands_within text tag.name_end last.0 last.1) (cut_after text place 60 some opens (omega arith)) (cut_ascii text tag.name_end last)

end_byte_low : (t : Bool) → cond t 47 62 < 128
end_byte_low true = omega arith
end_byte_low false = omega arith

pub attrs_utf8 : (text : List ℕ) (at place : ℕ) (tag : StartTag) → (utf8_run text none_left ≡ None → ⊥) → TokenStands text at (Ok (Start place tag)) → IsUtf8 (slice_range text tag.name_end tag.attrs_end)
attrs_utf8 text at place tag some (le, opens, stand) =
    piece_utf8 text tag.name_end tag.attrs_end some stand.attrs (stands_within text tag.attrs_end (cond tag.is_empty 47 62) stand.after_attrs) (cut_ascii text tag.name_end stand.after_name) (cut_before text tag.attrs_end (cond tag.is_empty 47 62) stand.after_attrs (end_byte_low tag.is_empty))

-- a run of text
pub words_utf8 : (text : List ℕ) (at place end : ℕ) → (utf8_run text none_left ≡ None → ⊥) → IsCharBoundary text at → TokenStands text at (Ok (Words place end)) → IsUtf8 (slice_range text place end)
words_utf8 text at place end some cut (le, ends, begins) =
    piece_utf8 text place end some le (stands_within text end 60 ends) (cut_stayed text at place some cut begins) (cut_before text end 60 ends (omega arith))
