-- Places and counts stay within the text and the stack.
use Rattle.std.proofs.Common.{◌≡◌, ℕ, ◌+◌, ◌-◌, ◌<◌, ◌≤◌, inl, inr, true, false, None, List, length, length-set, ◌∙◌, subst, arith, slice_index_or, slice_set, Ok}
use Rattle.std.proofs.lemmas.Bool.{cases_eq}
use Rattle.std.proofs.lemmas.List.{get_or-set_same, get_or-set_other}
use Rattle.std.specs.Str.{IsCharBoundary}
use Rattle.markup_grammar.specs.Utf8.{none_left, utf8_run, IsUtf8Front, utf8_front}
use Rattle.markup_grammar.proofs.Utf8Fronts.{utf8_fronts, begins_utf8_runs}
use Rattle.std.proofs.Common.{take}
use Rattle.markup_scanner.specs.Left.{StandsAt}
use Rattle.markup_core.specs.Reader.{IsSound}
use Rattle.markup_scanner.specs.Spans.{SpansFit}
use Rattle.markup_scanner.specs.Tokens.{TokenStands}
use Rattle.markup_core.specs.declared.reader.Reader.TheInside.{Inside}
use Rattle.markup_scanner.specs.declared.tag.StartTag.{StartTag}
use Rattle.markup_scanner.specs.declared.token.Token.TheVariants.{Start, Stop}
use Rattle.markup_core.proofs.Cuts.{cut_after, cut_ended}
use Rattle.markup_scanner.proofs.Steps.{stands_within}

-- behind an empty element
pub sound_slash : (r : Inside) → IsSound r → r.is_empty ≡ true → IsSound (record r { at = r.at + 2; is_empty = false })
sound_slash r sound e =
    let ends : StandsAt r.text.now (r.at + 1) 62 = sound.empty_ends e in
    let low : r.at + 1 < length r.text.now = stands_within r.text.now (r.at + 1) 62 ends in
    let two : r.at + 1 + 1 ≡ r.at + 2 = omega arith in
    let P : ℕ → Type 0 = λ n. IsCharBoundary r.text.now n in
    record {
      at_within = omega arith;
      depth_within = sound.depth_within;
      stack = sound.stack;
      spans_within = sound.spans_within;
      has_begun = λ _. omega arith;
      is_utf8 = sound.is_utf8;
      between_characters = subst P two (cut_after r.text.now (r.at + 1) 62 sound.is_utf8 ends (omega arith));
      empty_ends = λ no. absurd (cc);
    }

fit_more : (text : List ℕ) (spans : List (ℕ × ℕ)) (count : ℕ) (span : ℕ × ℕ) → SpansFit text spans count → count < length spans → span.0 ≤ span.1 → span.1 ≤ length text → SpansFit text (slice_set spans count span) (count + 1)
fit_more text spans count span fits room order low =
    λ k below. elim (cases_eq k count) as (λ _. ((slice_index_or (slice_set spans count span) k (0, 0)).0 ≤ (slice_index_or (slice_set spans count span) k (0, 0)).1) × ((slice_index_or (slice_set spans count span) k (0, 0)).1 ≤ length text)) [
      | inl same ↦ rw (same, get_or-set_same spans count span (0, 0) room) (order, low)
      | inr other ↦ rw (get_or-set_other spans count k span (0, 0) other) (fits k (let h : k < count = omega arith in h))
    ]

-- behind a start tag
pub sound_start : (r : Inside) (place : ℕ) (tag : StartTag) → IsSound r → TokenStands r.text.now r.at (Ok (Start place tag)) → tag.is_empty ≡ false → r.is_empty ≡ false → r.depth < 256 → IsSound (record r { at = tag.attrs_end + 1; spans = slice_set r.spans r.depth (place + 1, tag.name_end); depth = r.depth + 1 })
sound_start r place tag sound (le, opens, stand) whole e low =
    let ends : StandsAt r.text.now tag.attrs_end 62 = rw whole at stand.after_attrs in
    let more : tag.attrs_end < length r.text.now = stands_within r.text.now tag.attrs_end 62 ends in
    let room : r.depth < length r.spans = rw sound.stack low in
    let order : place + 1 ≤ tag.name_end = omega (arith, stand.name) in
    let last : tag.name_end ≤ length r.text.now = omega (arith, stand.attrs) in
    record {
      at_within = omega arith;
      depth_within = omega arith;
      stack = length-set r.spans r.depth (place + 1, tag.name_end) ∙ sound.stack;
      spans_within = fit_more r.text.now r.spans r.depth (place + 1, tag.name_end) sound.spans_within room order last;
      has_begun = λ _. omega arith;
      is_utf8 = sound.is_utf8;
      between_characters = cut_after r.text.now tag.attrs_end 62 sound.is_utf8 ends (omega arith);
      empty_ends = λ no. absurd (cc);
    }

-- behind an end tag
pub sound_stop : (r : Inside) (place end : ℕ) → IsSound r → TokenStands r.text.now r.at (Ok (Stop place end)) → r.is_empty ≡ false → IsSound (record r { at = end; depth = r.depth - 1 })
sound_stop r place end sound (le, above, (k, is, stand)) e =
    let low : k < length r.text.now = stands_within r.text.now k 62 stand in
    record {
      at_within = omega arith;
      depth_within = omega (arith, sound.depth_within);
      stack = sound.stack;
      spans_within = λ i below. sound.spans_within i (let h : i < r.depth = omega arith in h);
      has_begun = λ _. omega arith;
      is_utf8 = sound.is_utf8;
      between_characters = cut_ended r.text.now end sound.is_utf8 (k, is, stand);
      empty_ends = λ no. absurd (cc);
    }

-- the front of a text that begins one in UTF-8
pub front_within : (text : List ℕ) (n : ℕ) → n ≡ utf8_front text → n ≤ length text
front_within text n is = let front : IsUtf8Front text (utf8_front text) = utf8_fronts text in rw is front.within

pub front_utf8 : (text : List ℕ) (n : ℕ) → n ≡ utf8_front text → utf8_run (take n text) none_left ≡ None → ⊥
front_utf8 text n is =
    let front : IsUtf8Front text (utf8_front text) = utf8_fronts text in
    rw is (begins_utf8_runs (take (utf8_front text) text) front.begins)
