-- Each piece stands in the text at its place.
use Rattle.std.proofs.Common.{◌≡◌, ℕ, ◌+◌, ◌-◌, ◌≤◌, Bool, true, false, eqb, ltb, cond, List, [], ◌∷◌, ◌++◌, length, take, drop, refl, ap, sym, ◌∙◌, subst, inl, inr, append_assoc, append-nil, length-append, take-append-drop, arith}
use Rattle.markup_grammar.specs.Answers.{Answer, start, words, stop, finish, form, depth, limit_depth, cut_short}
use Rattle.markup_grammar.specs.Machine as m
use Rattle.markup_grammar.specs.Machine.{State, Level, before, within, behind, Names, fresh, between, opened, bang_dash, in_comment, in_instruction, in_words, in_reference, in_name, in_tag, slashed, closing, closed, level_of_names, Turn, on, off, step, ref_step, spot_step, verdict, answers_from}
use Rattle.markup_grammar.specs.Places.{StandAt, IsSlice, AreSlices}
use Rattle.markup_grammar.specs.Reading.{answers_within, answers}
use Rattle.markup_grammar.specs.Utf8.{utf8_front}
use Rattle.markup_grammar.proofs.Edges.{Edges, edges, in_comments, in_instructions, in_runs, in_tags}
use Rattle.markup_grammar.proofs.Steps.{at_end, step_on, step_off}
use Rattle.markup_grammar.proofs.Utf8Fronts.{utf8_fronts}

-- the bytes before this place, and these from it on, are what is past
abbrev pub EndsAt : List ℕ → ℕ → List ℕ → Type 0
EndsAt past place bytes = (front : List ℕ) × (past ≡ front ++ bytes) × (length front ≡ place)

-- what a state has kept of the bytes before it: from its place on they are these
abbrev pub Kept : State → List ℕ → Type 0
Kept (opened p level) past = EndsAt past p (60 ∷ [])
Kept (in_name p acc names) past = EndsAt past p (60 ∷ acc)
Kept (in_tag spot p name raw names) past = EndsAt past p (60 ∷ (name ++ raw))
Kept (slashed slash p name raw names) past = EndsAt past p (60 ∷ (name ++ (raw ++ 47 ∷ []))) × (slash ≡ p + length (60 ∷ (name ++ raw)))
Kept (in_words p raw name names) past = EndsAt past p raw
Kept (in_reference r p raw name names) past = EndsAt past p raw
Kept (closing p rest names) past = (name : List ℕ) × EndsAt past p (60 ∷ 47 ∷ name)
Kept (closed p names) past = (name : List ℕ) × EndsAt past p (60 ∷ 47 ∷ name)
Kept _ past = Unit {0}

-- what a turn's pieces and next state are, of the bytes that are past and those that follow
abbrev pub TurnStands : List ℕ → ℕ → Turn → Type 0
TurnStands past b off = Unit {0}
TurnStands past b (on said next) = ((bytes : List ℕ) → AreSlices (past ++ (b ∷ bytes)) said) × Kept next (past ++ b ∷ [])

abbrev pub StepStands : State → ℕ → ℕ → Turn → Type 0
StepStands s at b turn = (past : List ℕ) → at ≡ length past → Kept s past → TurnStands past b turn

-- one byte more, behind what is kept
longer : (past : List ℕ) (p : ℕ) (kept : List ℕ) (b : ℕ) → EndsAt past p kept → EndsAt (past ++ b ∷ []) p (kept ++ b ∷ [])
longer past p kept b (front, e, count) = (front, ap (λ xs. xs ++ b ∷ []) e ∙ append_assoc front kept (b ∷ []), count)

-- what is kept stands in the text
stands : (past : List ℕ) (p : ℕ) (kept : List ℕ) (b : ℕ) (bytes : List ℕ) → EndsAt past p kept → StandAt (past ++ (b ∷ bytes)) p kept
stands past p kept b bytes (front, e, count) = (front, b ∷ bytes, ap (λ xs. xs ++ (b ∷ bytes)) e ∙ append_assoc front kept (b ∷ bytes), count)

-- and so does the front of it
stands_front : (past : List ℕ) (p : ℕ) (xs ys : List ℕ) (b : ℕ) (bytes : List ℕ) → EndsAt past p (xs ++ ys) → StandAt (past ++ (b ∷ bytes)) p xs
stands_front past p xs ys b bytes (front, e, count) =
    (front, ys ++ (b ∷ bytes), ap (λ zs. zs ++ (b ∷ bytes)) e ∙ (append_assoc front (xs ++ ys) (b ∷ bytes) ∙ ap (λ zs. front ++ zs) (append_assoc xs ys (b ∷ bytes))), count)

along : (past : List ℕ) (p : ℕ) (xs ys : List ℕ) → xs ≡ ys → EndsAt past p xs → EndsAt past p ys
along past p xs ys e h = let P : List ℕ → Type 0 = λ zs. EndsAt past p zs in subst P e h

-- here a `<` or a run of text begins
here : (past : List ℕ) (at b : ℕ) → at ≡ length past → EndsAt (past ++ b ∷ []) at (b ∷ [])
here past at b e = (past, refl, sym e)

kept_between : (level : Level) (past : List ℕ) → Kept (between level) past
kept_between level past = tt

-- a `/` behind what a start tag has kept
slash_kept : (past : List ℕ) (p : ℕ) (name raw : List ℕ) (at : ℕ) → at ≡ length past → EndsAt past p (60 ∷ (name ++ raw)) → EndsAt (past ++ 47 ∷ []) p (60 ∷ (name ++ (raw ++ 47 ∷ []))) × (at ≡ p + length (60 ∷ (name ++ raw)))
slash_kept past p name raw at e (front, is, count) = (
  along (past ++ 47 ∷ []) p _ _ (ap (λ xs. 60 ∷ xs) (append_assoc name raw (47 ∷ []))) (longer past p (60 ∷ (name ++ raw)) 47 (front, is, count)),
  let all : length past ≡ length front + length (60 ∷ (name ++ raw)) = ap length is ∙ simp length-append refl in omega arith,
)

-- the two pieces of an empty element
empty_stands : (past : List ℕ) (p slash : ℕ) (name raw bytes : List ℕ) → EndsAt past p (60 ∷ (name ++ (raw ++ 47 ∷ []))) → slash ≡ p + length (60 ∷ (name ++ raw)) → AreSlices (past ++ (62 ∷ bytes)) (start p name raw ∷ stop slash ∷ [])
empty_stands past p slash name raw bytes (front, is, count) e = (
  stands_front past p (60 ∷ (name ++ raw)) (47 ∷ []) 62 bytes (front, is ∙ ap (λ xs. front ++ (60 ∷ xs)) (sym (append_assoc name raw (47 ∷ []))), count),
  (
    inr (
      front ++ (60 ∷ (name ++ raw)),
      bytes,
      ap (λ xs. xs ++ (62 ∷ bytes)) is ∙ simp append_assoc refl,
      let all : length (front ++ (60 ∷ (name ++ raw))) ≡ length front + length (60 ∷ (name ++ raw)) = length-append front (60 ∷ (name ++ raw)) in omega arith,
    ),
    tt,
  ),
)

-- an end tag
stop_stands : (past : List ℕ) (p : ℕ) (b : ℕ) (bytes : List ℕ) → (name : List ℕ) × EndsAt past p (60 ∷ 47 ∷ name) → AreSlices (past ++ (b ∷ bytes)) (stop p ∷ [])
stop_stands past p b bytes (name, kept) = (inl (stands_front past p (60 ∷ 47 ∷ []) name b bytes kept), tt)

end_longer : (past : List ℕ) (p : ℕ) (b : ℕ) → (name : List ℕ) × EndsAt past p (60 ∷ 47 ∷ name) → (name : List ℕ) × EndsAt (past ++ b ∷ []) p (60 ∷ 47 ∷ name)
end_longer past p b (name, kept) = (name ++ b ∷ [], longer past p (60 ∷ 47 ∷ name) b kept)

stand_edges : Edges StepStands
stand_edges = record {
  refused = λ s at b past e kept. tt;
  fresh_marked = λ at past e kept. (λ bytes. tt, tt);
  fresh_opens = λ at past e kept. (λ bytes. tt, here past at 60 e);
  fresh_space = λ at b h past e kept. (λ bytes. tt, tt);
  marked_one = λ at past e kept. (λ bytes. tt, tt);
  marked_two = λ at past e kept. (λ bytes. tt, tt);
  opens = λ level at past e kept. (λ bytes. tt, here past at 60 e);
  space_before = λ at b h past e kept. (λ bytes. tt, tt);
  space_behind = λ at b h past e kept. (λ bytes. tt, tt);
  words_begin = λ name names at b h past e kept. (λ bytes. tt, here past at b e);
  reference_begins = λ name names at past e kept. (λ bytes. tt, here past at 38 e);
  bangs = λ place level at past e kept. (λ bytes. tt, tt);
  asks = λ place level at past e kept. (λ bytes. tt, tt);
  root_begins = λ place at b h past e kept. (λ bytes. tt, longer past place (60 ∷ []) b kept);
  child_begins = λ place name names at b h past e kept. (λ bytes. tt, longer past place (60 ∷ []) b kept);
  slashes = λ place name names at past e kept. (λ bytes. tt, ([], longer past place (60 ∷ []) 47 kept));
  dash_one = λ level at past e kept. (λ bytes. tt, tt);
  dash_two = λ level at past e kept. (λ bytes. tt, tt);
  comments = λ dashes level at b past e kept. in_comments (λ turn. TurnStands past b turn) dashes level b (λ next. (λ bytes. tt, tt)) (λ bytes. tt, tt);
  instructions = λ asked level at b past e kept. in_instructions (λ turn. TurnStands past b turn) asked level b (λ next. (λ bytes. tt, tt)) (λ bytes. tt, tt);
  words_end = λ place raw name names at past e kept. (λ bytes. (stands past place raw 60 bytes kept, tt), here past at 60 e);
  words_go = λ place raw name names at b h past e kept. (λ bytes. tt, longer past place raw b kept);
  words_refer = λ place raw name names at past e kept. (λ bytes. tt, longer past place raw 38 kept);
  references = λ r place raw name names at b past e kept. in_runs (λ turn. TurnStands past b turn) (ref_step r b) place (raw ++ b ∷ []) name names (λ next. (λ bytes. tt, longer past place raw b kept)) (λ bytes. tt, longer past place raw b kept) tt;
  name_ends = λ place name names at past e kept. (λ bytes. (stands_front past place (60 ∷ (name ++ [])) [] 62 bytes (along past place _ _ (nothing name) kept), tt), tt);
  name_slash = λ place name names at past e kept. (λ bytes. tt, slash_kept past place name [] at e (along past place _ _ (bare name) kept));
  name_goes = λ place name names at b h past e kept. (λ bytes. tt, longer past place (60 ∷ name) b kept);
  name_space = λ place name names at b h past e kept. (λ bytes. tt, longer past place (60 ∷ name) b kept);
  tag_ends = λ spot place name raw names at may past e kept. (λ bytes. (stands past place (60 ∷ (name ++ raw)) 62 bytes kept, tt), tt);
  tag_slash = λ spot place name raw names at may past e kept. (λ bytes. tt, slash_kept past place name raw at e kept);
  tag_goes = λ spot place name raw names at b past e kept. in_tags (λ turn. TurnStands past b turn) (spot_step spot b) place name (raw ++ b ∷ []) names (λ next. (λ bytes. tt, along (past ++ b ∷ []) place _ _ (ap (λ xs. 60 ∷ xs) (append_assoc name raw (b ∷ []))) (longer past place (60 ∷ (name ++ raw)) b kept))) tt;
  empty_ends = λ slash place name raw names at past e kept. (λ bytes. empty_stands past place slash name raw bytes kept.0 kept.1, tt);
  end_ends = λ place names at past e kept. (λ bytes. stop_stands past place 62 bytes kept, tt);
  end_space = λ place names at b h past e kept. (λ bytes. tt, end_longer past place b kept);
  end_goes = λ place c rest names at past e kept. (λ bytes. tt, end_longer past place c kept);
  closed_ends = λ place names at past e kept. (λ bytes. stop_stands past place 62 bytes kept, tt);
  closed_space = λ place names at b h past e kept. (λ bytes. tt, end_longer past place b kept);
}
  where
    bare : (name : List ℕ) → 60 ∷ name ≡ 60 ∷ (name ++ [])
    bare name = ap (λ xs. 60 ∷ xs) (sym (append-nil name))

    nothing : (name : List ℕ) → 60 ∷ name ≡ (60 ∷ (name ++ [])) ++ []
    nothing name = bare name ∙ sym (append-nil (60 ∷ (name ++ [])))

both : (text : List ℕ) (said more : List Answer) → AreSlices text said → AreSlices text more → AreSlices text (said ++ more)
both text [] more s m = m
both text (answer ∷ said) more s m = (s.0, both text said more s.1 m)

slices_along : (text : List ℕ) (xs ys : List Answer) → xs ≡ ys → AreSlices text ys → AreSlices text xs
slices_along text xs ys e h = let P : List Answer → Type 0 = λ list. AreSlices text list in subst P (sym e) h

-- a verdict, by what it may be
pub verdict_by : (P : Answer → Type 0) (s : State) (at : ℕ) → P finish → P (form at) → P (verdict s at)
verdict_by P (between behind) at ends stops = ends
verdict_by P (between before) at ends stops = stops
verdict_by P (between (within name names)) at ends stops = stops
verdict_by P fresh at ends stops = stops
verdict_by P m.mark_one at ends stops = stops
verdict_by P m.mark_two at ends stops = stops
verdict_by P (opened p level) at ends stops = stops
verdict_by P (m.bang level) at ends stops = stops
verdict_by P (bang_dash level) at ends stops = stops
verdict_by P (in_comment dashes level) at ends stops = stops
verdict_by P (in_instruction asked level) at ends stops = stops
verdict_by P (in_words p raw name names) at ends stops = stops
verdict_by P (in_reference r p raw name names) at ends stops = stops
verdict_by P (in_name p name names) at ends stops = stops
verdict_by P (in_tag spot p name raw names) at ends stops = stops
verdict_by P (slashed slash p name raw names) at ends stops = stops
verdict_by P (closing p due names) at ends stops = stops
verdict_by P (closed p names) at ends stops = stops

turn_stands : (s : State) (past : List ℕ) (b : ℕ) (bytes : List ℕ) (turn : Turn) → step s (length past) b ≡ turn → TurnStands past b turn → ((next : State) → Kept next (past ++ b ∷ []) → AreSlices ((past ++ b ∷ []) ++ bytes) (answers_from next (length (past ++ b ∷ [])) bytes)) → AreSlices (past ++ (b ∷ bytes)) (answers_from s (length past) (b ∷ bytes))
turn_stands s past b bytes off is t further =
    slices_along (past ++ (b ∷ bytes)) _ _ (step_off s (length past) b bytes is) (simp length-append (omega arith), tt)
turn_stands s past b bytes (on said next) is t further =
    slices_along (past ++ (b ∷ bytes)) _ _ (step_on s next (length past) b bytes said is)
    (both (past ++ (b ∷ bytes)) said (answers_from next (length past + 1) bytes) (t.0 bytes)
    (let P : List ℕ → Type 0 = λ text. AreSlices text (answers_from next (length past + 1) bytes) in
    subst P (append_assoc past (b ∷ []) bytes)
    (slices_along ((past ++ b ∷ []) ++ bytes) _ _ (ap (λ n. answers_from next n bytes) (let e : length past + 1 ≡ length (past ++ b ∷ []) = simp length-append (omega arith) in e)) (further next t.1))))

-- what is answered from a state on stands in the text
pub slices_from : (s : State) (past bytes : List ℕ) → Kept s past → AreSlices (past ++ bytes) (answers_from s (length past) bytes)
slices_from s past [] kept =
    slices_along (past ++ []) _ _ (at_end s (length past))
    (verdict_by (λ answer. AreSlices (past ++ []) (answer ∷ [])) s (length past) (tt, tt) (simp length-append (omega arith), tt))
slices_from s past (b ∷ bytes) kept =
    turn_stands s past b bytes (step s (length past) b) refl (edges StepStands stand_edges s (length past) b past refl kept) (λ next. slices_from next (past ++ b ∷ []) bytes)

-- what stands in the front of a text stands in the text
stand_longer : (text more : List ℕ) (p : ℕ) (bytes : List ℕ) → StandAt text p bytes → StandAt (text ++ more) p bytes
stand_longer text more p bytes (front, back, e, count) =
    (front, back ++ more, ap (λ xs. xs ++ more) e ∙ (append_assoc front (bytes ++ back) more ∙ ap (λ xs. front ++ xs) (append_assoc bytes back more)), count)

place_longer : (text more : List ℕ) (p : ℕ) → p ≤ length text → p ≤ length (text ++ more)
place_longer text more p le = let all : length (text ++ more) ≡ length text + length more = length-append text more in omega arith

slice_longer : (text more : List ℕ) (answer : Answer) → IsSlice text answer → IsSlice (text ++ more) answer
slice_longer text more (start p name raw) s = stand_longer text more p (60 ∷ (name ++ raw)) s
slice_longer text more (words p raw) s = stand_longer text more p raw s
slice_longer text more (stop p) (inl s) = inl (stand_longer text more p (60 ∷ 47 ∷ []) s)
slice_longer text more (stop p) (inr s) = inr (stand_longer text more p (47 ∷ 62 ∷ []) s)
slice_longer text more finish s = tt
slice_longer text more (form p) s = place_longer text more p s
slice_longer text more (depth p) s = place_longer text more p s

slices_longer : (text more : List ℕ) (list : List Answer) → AreSlices text list → AreSlices (text ++ more) list
slices_longer text more [] s = tt
slices_longer text more (answer ∷ list) s = (slice_longer text more answer s.0, slices_longer text more list s.1)

cut_stands : (text : List ℕ) (n : ℕ) (list : List Answer) → n ≤ length text → AreSlices text list → AreSlices text (cut_short n list)
cut_stands text n [] le s = tt
cut_stands text n (start p name raw ∷ list) le s = (s.0, cut_stands text n list le s.1)
cut_stands text n (words p raw ∷ list) le s = (s.0, cut_stands text n list le s.1)
cut_stands text n (stop p ∷ list) le s = (s.0, cut_stands text n list le s.1)
cut_stands text n (finish ∷ list) le s = (le, cut_stands text n list le s.1)
cut_stands text n (form p ∷ list) le s = (s.0, cut_stands text n list le s.1)
cut_stands text n (depth p ∷ list) le s = (s.0, cut_stands text n list le s.1)

within_stands : (text : List ℕ) (n : ℕ) (whole : Bool) → n ≤ length text → AreSlices text (cond whole (answers_from fresh 0 text) (cut_short n (answers_from fresh 0 (take n text))))
within_stands text n true le = slices_from fresh [] text tt
within_stands text n false le =
    cut_stands text n (answers_from fresh 0 (take n text)) le
    (let P : List ℕ → Type 0 = λ xs. AreSlices xs (answers_from fresh 0 (take n text)) in
    subst P (take-append-drop n text) (slices_longer (take n text) (drop n text) _ (slices_from fresh [] (take n text) tt)))

deep_stands : (text : List ℕ) (room : Bool) (p : ℕ) (name raw : List ℕ) (more : List Answer) → StandAt text p (60 ∷ (name ++ raw)) → AreSlices text more → AreSlices text (cond room (start p name raw ∷ more) (depth p ∷ []))
deep_stands text true p name raw more s m = (s, m)
deep_stands text false p name raw more (front, back, spells, count) m =
    (let all : length text ≡ length front + (length (60 ∷ (name ++ raw)) + length back) = ap length spells ∙ simp length-append refl in omega arith, tt)

limited_stands : (text : List ℕ) (d : ℕ) (list : List Answer) → AreSlices text list → AreSlices text (limit_depth d list)
limited_stands text d [] s = tt
limited_stands text d (start p name raw ∷ more) s = deep_stands text (ltb d 256) p name raw (limit_depth (d + 1) more) s.0 (limited_stands text (d + 1) more s.1)
limited_stands text d (words p raw ∷ more) s = (s.0, limited_stands text d more s.1)
limited_stands text d (stop p ∷ more) s = (s.0, limited_stands text (d - 1) more s.1)
limited_stands text d (finish ∷ more) s = (s.0, limited_stands text d more s.1)
limited_stands text d (form p ∷ more) s = (s.0, limited_stands text d more s.1)
limited_stands text d (depth p ∷ more) s = (s.0, limited_stands text d more s.1)

-- each piece stands in the text at its place
pub slices : (text : List ℕ) → AreSlices text (answers text)
unfolding answers
slices text =
    limited_stands text 0 (answers_within text (utf8_front text))
    (within_stands text (utf8_front text) (eqb (utf8_front text) (length text)) (utf8_fronts text).within)
