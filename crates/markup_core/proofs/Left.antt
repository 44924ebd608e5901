-- What one token does to the answers that are left.
use Rattle.std.proofs.Common.{◌≡◌, ◌≢◌, ℕ, zero, suc, ◌+◌, ◌-◌, ◌<◌, ◌≤◌, Bool, true, false, cond, eqb, List, [], ◌∷◌, length, take, set, refl, ap, sym, ◌∙◌, arith, add-one, slice_range, slice_set, lt-ltb, eqb-true, length-take-le, Result}
use Rattle.std.proofs.lemmas.List.{get_or-set_same, get_or-set_other, take_all}
use Rattle.markup_grammar.specs.Answers.{Answer, start, words, stop, form, depth, limit_depth, cut_short}
use Rattle.markup_grammar.specs.Machine.{State, fresh, between, within, level_of_names, Names, answers_from}
use Rattle.markup_grammar.specs.Reading.{answers, answers_within}
use Rattle.markup_grammar.specs.Utf8.{utf8_front}
use Rattle.markup_scanner.specs.Left.{answers_at}
use Rattle.markup_core.specs.Reader.{bounded_answers}
use Rattle.markup_scanner.specs.Spans.{part, open_names}
use Rattle.markup_scanner.specs.Tags.{behind_tag}
use Rattle.markup_scanner.specs.Tokens.{Tells, Leaves, state_at}
use Rattle.markup_scanner.specs.declared.tag.StartTag.{StartTag}
use Rattle.markup_scanner.specs.declared.token.Token.{Token}

-- names below a span that is written stay
open_names-set : (text : List ℕ) (spans : List (ℕ × ℕ)) (i : ℕ) (span : ℕ × ℕ) (deep : ℕ) → deep ≤ i → open_names text (set spans i span) deep ≡ open_names text spans deep
open_names-set text spans i span zero le = refl
open_names-set text spans i span (suc deep) le =
    let other : deep ≢ i = omega arith in
    let below : deep ≤ i = omega arith in
    rw (get_or-set_other spans i deep span (0, 0) other, open_names-set text spans i span deep below) refl

-- a span that is written names the innermost element
pub open_names-push : (text : List ℕ) (spans : List (ℕ × ℕ)) (deep : ℕ) (span : ℕ × ℕ) → deep < length spans → open_names text (set spans deep span) (deep + 1) ≡ part text span ∷ open_names text spans deep
open_names-push text spans deep span room =
    let same : deep ≤ deep = omega arith in
    ap (λ n. open_names text (set spans deep span) n) (add-one deep)
    ∙ rw (get_or-set_same spans deep span (0, 0) room, open_names-set text spans deep span deep same) refl

-- between two tokens, once the outermost element has begun
pub state_outside : (at : ℕ) (names : Names) → 0 < at → state_at at names ≡ between (level_of_names names)
state_outside zero names low = absurd (omega arith)
state_outside (suc at) [] low = refl
state_outside (suc at) (name ∷ names) low = refl

-- a run of text
pub seen_words : (is_whole : Bool) (len open_count place : ℕ) (raw : List ℕ) (more : List Answer) → bounded_answers is_whole len open_count (words place raw ∷ more) ≡ words place raw ∷ bounded_answers is_whole len open_count more
seen_words true len open_count place raw more = refl
seen_words false len open_count place raw more = refl

-- an end tag
pub seen_stop : (is_whole : Bool) (len open_count place : ℕ) (more : List Answer) → bounded_answers is_whole len open_count (stop place ∷ more) ≡ stop place ∷ bounded_answers is_whole len (open_count - 1) more
seen_stop true len open_count place more = refl
seen_stop false len open_count place more = refl

-- a start tag within the limit
pub seen_start : (is_whole : Bool) (len open_count place : ℕ) (name raw : List ℕ) (more : List Answer) → open_count < 256 → bounded_answers is_whole len open_count (start place name raw ∷ more) ≡ start place name raw ∷ bounded_answers is_whole len (open_count + 1) more
seen_start true len open_count place name raw more low = rw (lt-ltb open_count 256 low) refl
seen_start false len open_count place name raw more low = rw (lt-ltb open_count 256 low) refl

-- a start tag with 256 elements open
pub seen_deep : (is_whole : Bool) (len open_count place : ℕ) (name raw : List ℕ) (more : List Answer) → open_count ≡ 256 → bounded_answers is_whole len open_count (start place name raw ∷ more) ≡ depth place ∷ []
seen_deep true len open_count place name raw more full = rw full refl
seen_deep false len open_count place name raw more full = rw full refl

-- a refusal
pub seen_form : (is_whole : Bool) (len open_count place : ℕ) → bounded_answers is_whole len open_count (form place ∷ []) ≡ form place ∷ []
seen_form true len open_count place = refl
seen_form false len open_count place = refl

-- an empty element: its start and its end leave as many open
pub seen_empty : (is_whole : Bool) (len open_count place : ℕ) (name raw : List ℕ) (slash : ℕ) (more : List Answer) → open_count < 256 → bounded_answers is_whole len open_count (start place name raw ∷ stop slash ∷ more) ≡ start place name raw ∷ stop slash ∷ bounded_answers is_whole len open_count more
seen_empty is_whole len open_count place name raw slash more low =
    let count : open_count + 1 - 1 ≡ open_count = omega arith in
    seen_start is_whole len open_count place name raw (stop slash ∷ more) low
    ∙ (ap (λ xs. start place name raw ∷ xs) (seen_stop is_whole len (open_count + 1) slash more)
    ∙ ap (λ n. start place name raw ∷ stop slash ∷ bounded_answers is_whole len n more) count)

-- past an element's start tag
pub left_start : (text : List ℕ) (is_whole : Bool) (spans : List (ℕ × ℕ)) (open_count place at : ℕ) (s : State) (tag : StartTag) → answers_at text s at ≡ start place (slice_range text (place + 1) tag.name_end) (slice_range text tag.name_end tag.attrs_end) ∷ behind_tag text tag (slice_range text (place + 1) tag.name_end) (open_names text spans open_count) → tag.is_empty ≡ false → open_count < 256 → open_count < length spans → bounded_answers is_whole (length text) open_count (answers_at text s at) ≡ start place (slice_range text (place + 1) tag.name_end) (slice_range text tag.name_end tag.attrs_end) ∷ bounded_answers is_whole (length text) (open_count + 1) (answers_at text (state_at (tag.attrs_end + 1) (open_names text (slice_set spans open_count (place + 1, tag.name_end)) (open_count + 1))) (tag.attrs_end + 1))
left_start text is_whole spans open_count place at s tag told none low room =
    let more : behind_tag text tag (slice_range text (place + 1) tag.name_end) (open_names text spans open_count) ≡ answers_at text (between (within (slice_range text (place + 1) tag.name_end) (open_names text spans open_count))) (tag.attrs_end + 1) = rw none refl in
    ap (λ xs. bounded_answers is_whole (length text) open_count xs) (told ∙ ap (λ xs. start place (slice_range text (place + 1) tag.name_end) (slice_range text tag.name_end tag.attrs_end) ∷ xs) more)
    ∙ (seen_start is_whole (length text) open_count place (slice_range text (place + 1) tag.name_end) (slice_range text tag.name_end tag.attrs_end) (answers_at text (between (within (slice_range text (place + 1) tag.name_end) (open_names text spans open_count))) (tag.attrs_end + 1)) low
    ∙ ap (λ names. start place (slice_range text (place + 1) tag.name_end) (slice_range text tag.name_end tag.attrs_end) ∷ bounded_answers is_whole (length text) (open_count + 1) (answers_at text (state_at (tag.attrs_end + 1) names) (tag.attrs_end + 1)))
    (sym (open_names-push text spans open_count (place + 1, tag.name_end) room)))

-- past an empty element's
pub left_empty : (text : List ℕ) (is_whole : Bool) (names : Names) (open_count place at : ℕ) (s : State) (tag : StartTag) → answers_at text s at ≡ start place (slice_range text (place + 1) tag.name_end) (slice_range text tag.name_end tag.attrs_end) ∷ behind_tag text tag (slice_range text (place + 1) tag.name_end) names → tag.is_empty ≡ true → open_count < 256 → bounded_answers is_whole (length text) open_count (answers_at text s at) ≡ start place (slice_range text (place + 1) tag.name_end) (slice_range text tag.name_end tag.attrs_end) ∷ stop tag.attrs_end ∷ bounded_answers is_whole (length text) open_count (answers_at text (state_at (tag.attrs_end + 2) names) (tag.attrs_end + 2))
left_empty text is_whole names open_count place at s tag told is low =
    let begun : 0 < tag.attrs_end + 2 = omega arith in
    let more : behind_tag text tag (slice_range text (place + 1) tag.name_end) names ≡ stop tag.attrs_end ∷ answers_at text (state_at (tag.attrs_end + 2) names) (tag.attrs_end + 2) = rw is (ap (λ t. stop tag.attrs_end ∷ answers_at text t (tag.attrs_end + 2)) (sym (state_outside (tag.attrs_end + 2) names begun))) in
    ap (λ xs. bounded_answers is_whole (length text) open_count xs) (told ∙ ap (λ xs. start place (slice_range text (place + 1) tag.name_end) (slice_range text tag.name_end tag.attrs_end) ∷ xs) more)
    ∙ seen_empty is_whole (length text) open_count place (slice_range text (place + 1) tag.name_end) (slice_range text tag.name_end tag.attrs_end) tag.attrs_end (answers_at text (state_at (tag.attrs_end + 2) names) (tag.attrs_end + 2)) low

-- past a start tag with 256 elements open
pub left_deep : (text : List ℕ) (is_whole : Bool) (names : Names) (open_count place at : ℕ) (s : State) (tag : StartTag) → answers_at text s at ≡ start place (slice_range text (place + 1) tag.name_end) (slice_range text tag.name_end tag.attrs_end) ∷ behind_tag text tag (slice_range text (place + 1) tag.name_end) names → open_count ≡ 256 → bounded_answers is_whole (length text) open_count (answers_at text s at) ≡ depth place ∷ []
left_deep text is_whole names open_count place at s tag told full =
    ap (λ xs. bounded_answers is_whole (length text) open_count xs) told
    ∙ seen_deep is_whole (length text) open_count place (slice_range text (place + 1) tag.name_end) (slice_range text tag.name_end tag.attrs_end) (behind_tag text tag (slice_range text (place + 1) tag.name_end) names) full

-- an end tag stands in an element
pub stop_within : (text : List ℕ) (spans : List (ℕ × ℕ)) (open_count : ℕ) (s : State) (at place end : ℕ) → Leaves text (open_names text spans open_count) s at place end → 1 ≤ open_count
stop_within text spans zero s at place end leaves = absurd leaves
stop_within text spans (suc open_count) s at place end leaves = omega arith

-- past an end tag
pub left_stop : (text : List ℕ) (is_whole : Bool) (spans : List (ℕ × ℕ)) (open_count : ℕ) (s : State) (at place end : ℕ) → Leaves text (open_names text spans open_count) s at place end → 0 < end → bounded_answers is_whole (length text) open_count (answers_at text s at) ≡ stop place ∷ bounded_answers is_whole (length text) (open_count - 1) (answers_at text (state_at end (open_names text spans (open_count - 1))) end)
left_stop text is_whole spans zero s at place end leaves low = absurd leaves
left_stop text is_whole spans (suc open_count) s at place end leaves low =
    let count : suc open_count - 1 ≡ open_count = omega arith in
    ap (λ xs. bounded_answers is_whole (length text) (suc open_count) xs) leaves
    ∙ (seen_stop is_whole (length text) (suc open_count) place (answers_at text (between (level_of_names (open_names text spans open_count))) end)
    ∙ (ap (λ t. stop place ∷ bounded_answers is_whole (length text) (suc open_count - 1) (answers_at text t end)) (sym (state_outside end (open_names text spans open_count) low))
    ∙ ap (λ n. stop place ∷ bounded_answers is_whole (length text) (suc open_count - 1) (answers_at text (state_at end (open_names text spans n)) end)) (sym count)))

-- a token, at another name of the same answer
pub told_at : (text : List ℕ) (names : Names) (s : State) (at : ℕ) (r t : Result Token ℕ) → r ≡ t → Tells text names s at r → Tells text names s at t
told_at text names s at r t is tells = rw is at tells

-- a reader at the start of a text
pub answers_new : (text : List ℕ) (n : ℕ) → n ≡ utf8_front text → n ≤ length text → bounded_answers (eqb n (length text)) (length (take n text)) 0 (answers_at (take n text) fresh 0) ≡ answers text
unfolding answers answers_at
answers_new text n is fits =
    rw (length-take-le n text fits) (by_length (eqb n (length text)) refl)
    ∙ ap (λ k. limit_depth 0 (answers_within text k)) is
  where
    by_length : (t : Bool) → eqb n (length text) ≡ t → limit_depth 0 (cond t (answers_from fresh 0 (take n text)) (cut_short n (answers_from fresh 0 (take n text)))) ≡ limit_depth 0 (cond t (answers_from fresh 0 text) (cut_short n (answers_from fresh 0 (take n text))))
    by_length true e =
        let whole : n ≡ length text = eqb-true n (length text) e in
        ap (λ xs. limit_depth 0 (answers_from fresh 0 xs)) (take_all n text (omega arith))
    by_length false e = refl
