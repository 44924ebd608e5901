-- What one call of `next` does to the answers that a reader has left.
use Rattle.std.proofs.Common.{◌≡◌, ℕ, ◌+◌, ◌-◌, ◌<◌, true, false, List, [], ◌∷◌, length, refl, ap, ◌∙◌, arith, slice_range, slice_set, Result, Ok, Err}
use Rattle.markup_grammar.specs.Answers.{start, words, stop, finish, form, depth}
use Rattle.markup_grammar.specs.Machine.{Names}
use Rattle.markup_scanner.specs.Left.{answers_at}
use Rattle.markup_core.specs.Reader.{bounded_answers, answers_left}
use Rattle.markup_scanner.specs.Spans.{open_names}
use Rattle.markup_scanner.specs.Tokens.{Tells, TokenStands, state_at}
use Rattle.markup_core.specs.declared.reader.Reader.TheInside.{Inside}
use Rattle.markup_scanner.specs.declared.tag.StartTag.{StartTag}
use Rattle.markup_scanner.specs.declared.token.Token.{Token}
use Rattle.markup_scanner.specs.declared.token.Token.TheVariants.{Start, Words, Stop, End}
use Rattle.markup_core.proofs.Left.{seen_words, seen_form, left_start, left_empty, left_deep, left_stop}

-- the names of the elements that are open, and the state that goes with them
abbrev pub names_of : Inside → Names
names_of r = open_names r.text.now r.spans r.depth

abbrev pub TellsNext : Inside → Result Token ℕ → Type 0
TellsNext r t = Tells r.text.now (names_of r) (state_at r.at (names_of r)) r.at t

-- at another name of the same token
pub tells_at : (r : Inside) (t u : Result Token ℕ) → t ≡ u → TellsNext r t → TellsNext r u
tells_at r t u is tells = rw is at tells

pub stands_at : (text : List ℕ) (at : ℕ) (t u : Result Token ℕ) → t ≡ u → TokenStands text at t → TokenStands text at u
stands_at text at t u is stand = rw is at stand

-- behind an empty element
pub next_slash : (r : Inside) → r.is_empty ≡ true → answers_left r ≡ stop r.at ∷ answers_left (record r { at = r.at + 2; is_empty = false })
unfolding answers_left
next_slash r e = rw e refl

pub next_words : (r : Inside) (place end : ℕ) (raw : List ℕ) → r.is_empty ≡ false → TellsNext r (Ok (Words place end)) → raw ≡ slice_range r.text.now place end → answers_left r ≡ words place raw ∷ answers_left (record r { at = end })
unfolding answers_left
next_words r place end raw e tells is =
    rw (e, is)
    (ap (λ xs. bounded_answers r.is_whole (length r.text.now) r.depth xs) tells
    ∙ seen_words r.is_whole (length r.text.now) r.depth place (slice_range r.text.now place end) (answers_at r.text.now (state_at end (names_of r)) end))

pub next_start : (r : Inside) (place : ℕ) (tag : StartTag) (name raw : List ℕ) → r.is_empty ≡ false → TellsNext r (Ok (Start place tag)) → tag.is_empty ≡ false → r.depth < 256 → r.depth < length r.spans → name ≡ slice_range r.text.now (place + 1) tag.name_end → raw ≡ slice_range r.text.now tag.name_end tag.attrs_end → answers_left r ≡ start place name raw ∷ answers_left (record r { at = tag.attrs_end + 1; spans = slice_set r.spans r.depth (place + 1, tag.name_end); depth = r.depth + 1 })
unfolding answers_left
next_start r place tag name raw e tells whole low room is has =
    rw (e, is, has)
    (left_start r.text.now r.is_whole r.spans r.depth place r.at (state_at r.at (names_of r)) tag tells whole low room)

pub next_empty : (r : Inside) (place : ℕ) (tag : StartTag) (name raw : List ℕ) → r.is_empty ≡ false → TellsNext r (Ok (Start place tag)) → tag.is_empty ≡ true → r.depth < 256 → name ≡ slice_range r.text.now (place + 1) tag.name_end → raw ≡ slice_range r.text.now tag.name_end tag.attrs_end → answers_left r ≡ start place name raw ∷ answers_left (record r { at = tag.attrs_end; is_empty = true })
unfolding answers_left
next_empty r place tag name raw e tells empty low is has =
    rw (e, is, has)
    (left_empty r.text.now r.is_whole (names_of r) r.depth place r.at (state_at r.at (names_of r)) tag tells empty low)

pub next_deep : (r : Inside) (place : ℕ) (tag : StartTag) → r.is_empty ≡ false → TellsNext r (Ok (Start place tag)) → r.depth ≡ 256 → answers_left r ≡ depth place ∷ []
unfolding answers_left
next_deep r place tag e tells full =
    rw e (left_deep r.text.now r.is_whole (names_of r) r.depth place r.at (state_at r.at (names_of r)) tag tells full)

pub next_stop : (r : Inside) (place end : ℕ) → r.is_empty ≡ false → TellsNext r (Ok (Stop place end)) → 0 < end → answers_left r ≡ stop place ∷ answers_left (record r { at = end; depth = r.depth - 1 })
unfolding answers_left
next_stop r place end e tells low =
    rw e (left_stop r.text.now r.is_whole r.spans r.depth (state_at r.at (names_of r)) r.at place end tells low)

pub next_refused : (r : Inside) (place : ℕ) → r.is_empty ≡ false → TellsNext r (Err place) → answers_left r ≡ form place ∷ []
unfolding answers_left
next_refused r place e tells =
    rw e
    (ap (λ xs. bounded_answers r.is_whole (length r.text.now) r.depth xs) tells ∙ seen_form r.is_whole (length r.text.now) r.depth place)

-- the end of the whole text, or of a front that is not
pub next_end : (r : Inside) → r.is_empty ≡ false → TellsNext r (Ok End) → r.is_whole ≡ true → answers_left r ≡ finish ∷ []
unfolding answers_left
next_end r e tells whole = rw (e, whole) (ap (λ xs. bounded_answers true (length r.text.now) r.depth xs) tells)

pub next_cut : (r : Inside) → r.is_empty ≡ false → TellsNext r (Ok End) → r.is_whole ≡ false → answers_left r ≡ form (length r.text.now) ∷ []
unfolding answers_left
next_cut r e tells cut = rw (e, cut) (ap (λ xs. bounded_answers false (length r.text.now) r.depth xs) tells)

-- an end tag's end lies behind the text's start
pub stop_low : (text : List ℕ) (at place end : ℕ) → TokenStands text at (Ok (Stop place end)) → 0 < end
stop_low text at place end (le, above, (k, is, stand)) = omega arith
