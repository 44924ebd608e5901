-- Places rise.
use Rattle.std.proofs.Common.{◌≡◌, ℕ, ◌+◌, ◌-◌, ◌<◌, ◌≤◌, Bool, true, false, eqb, ltb, cond, List, [], ◌∷◌, ◌++◌, length, min, take, refl, sym, subst, length-take, arith}
use Rattle.markup_grammar.specs.Answers.{Answer, start, words, stop, finish, form, depth, limit_depth, cut_short}
use Rattle.markup_grammar.specs.Machine as m
use Rattle.markup_grammar.specs.Machine.{State, Level, before, within, behind, Names, fresh, between, opened, bang_dash, in_comment, in_instruction, in_words, in_reference, in_name, in_tag, slashed, closing, closed, Turn, on, off, step, ref_step, spot_step, verdict, answers_from}
use Rattle.markup_grammar.specs.Places.{AreRising}
use Rattle.markup_grammar.specs.Reading.{answers_within, answers}
use Rattle.markup_grammar.specs.Utf8.{utf8_front}
use Rattle.markup_grammar.proofs.Edges.{Edges, edges, in_comments, in_instructions, in_runs, in_tags}
use Rattle.markup_grammar.proofs.Stand.{verdict_by}
use Rattle.markup_grammar.proofs.Steps.{at_end, step_on, step_off}
use Rattle.markup_grammar.proofs.Utf8Fronts.{utf8_fronts}

-- places rise, and the end of the text lies at this place
abbrev pub RiseTo : ℕ → ℕ → List Answer → Type 0
RiseTo last least [] = Unit {0}
RiseTo last least (start place name raw ∷ answers) = (least ≤ place) × RiseTo last (place + 1) answers
RiseTo last least (words place raw ∷ answers) = (least ≤ place) × RiseTo last (place + 1) answers
RiseTo last least (stop place ∷ answers) = (least ≤ place) × RiseTo last (place + 1) answers
RiseTo last least (finish ∷ answers) = (least ≤ last) × RiseTo last least answers
RiseTo last least (form place ∷ answers) = (least ≤ place) × RiseTo last least answers
RiseTo last least (depth place ∷ answers) = (least ≤ place) × RiseTo last least answers

-- the least place at which a state may give its next piece
abbrev pub Low : State → ℕ → ℕ → Type 0
Low (opened p level) least at = (least ≤ p) × (p < at)
Low (in_name p acc names) least at = (least ≤ p) × (p < at)
Low (in_tag spot p name raw names) least at = (least ≤ p) × (p < at)
Low (slashed slash p name raw names) least at = (least ≤ p) × (p < slash) × (slash < at)
Low (in_words p raw name names) least at = (least ≤ p) × (p < at)
Low (in_reference r p raw name names) least at = (least ≤ p) × (p < at)
Low (closing p rest names) least at = (least ≤ p) × (p < at)
Low (closed p names) least at = (least ≤ p) × (p < at)
Low _ least at = least ≤ at

-- the place above the last of these pieces
abbrev pub above : ℕ → List Answer → ℕ
above least [] = least
above least (start p name raw ∷ more) = above (p + 1) more
above least (words p raw ∷ more) = above (p + 1) more
above least (stop p ∷ more) = above (p + 1) more
above least (_ ∷ more) = above least more

abbrev pub TurnRises : ℕ → ℕ → Turn → Type 0
TurnRises least at off = Unit {0}
TurnRises least at (on said next) = ((last : ℕ) → RiseTo last least said) × Low next (above least said) (at + 1)

abbrev pub StepRises : State → ℕ → ℕ → Turn → Type 0
StepRises s at b turn = (least : ℕ) → Low s least at → TurnRises least at turn

rise_edges : Edges StepRises
rise_edges = record {
  refused = λ s at b least low. tt;
  fresh_marked = λ at least low. (λ last. tt, omega arith);
  fresh_opens = λ at least low. (λ last. tt, (low, omega arith));
  fresh_space = λ at b h least low. (λ last. tt, omega arith);
  marked_one = λ at least low. (λ last. tt, omega arith);
  marked_two = λ at least low. (λ last. tt, omega arith);
  opens = λ level at least low. (λ last. tt, (low, omega arith));
  space_before = λ at b h least low. (λ last. tt, omega arith);
  space_behind = λ at b h least low. (λ last. tt, omega arith);
  words_begin = λ name names at b h least low. (λ last. tt, (low, omega arith));
  reference_begins = λ name names at least low. (λ last. tt, (low, omega arith));
  bangs = λ place level at least low. (λ last. tt, omega arith);
  asks = λ place level at least low. (λ last. tt, omega arith);
  root_begins = λ place at b h least low. (λ last. tt, (low.0, omega arith));
  child_begins = λ place name names at b h least low. (λ last. tt, (low.0, omega arith));
  slashes = λ place name names at least low. (λ last. tt, (low.0, omega arith));
  dash_one = λ level at least low. (λ last. tt, omega arith);
  dash_two = λ level at least low. (λ last. tt, omega arith);
  comments = λ dashes level at b least low. in_comments (TurnRises least at) dashes level b (λ next. (λ last. tt, omega arith)) (λ last. tt, omega arith);
  instructions = λ asked level at b least low. in_instructions (TurnRises least at) asked level b (λ next. (λ last. tt, omega arith)) (λ last. tt, omega arith);
  words_end = λ place raw name names at least low. (λ last. (low.0, tt), (omega arith, omega arith));
  words_go = λ place raw name names at b h least low. (λ last. tt, (low.0, omega arith));
  words_refer = λ place raw name names at least low. (λ last. tt, (low.0, omega arith));
  references = λ r place raw name names at b least low. in_runs (TurnRises least at) (ref_step r b) place (raw ++ b ∷ []) name names (λ next. (λ last. tt, (low.0, omega arith))) (λ last. tt, (low.0, omega arith)) tt;
  name_ends = λ place name names at least low. (λ last. (low.0, tt), omega arith);
  name_slash = λ place name names at least low. (λ last. tt, (low.0, low.1, omega arith));
  name_goes = λ place name names at b h least low. (λ last. tt, (low.0, omega arith));
  name_space = λ place name names at b h least low. (λ last. tt, (low.0, omega arith));
  tag_ends = λ spot place name raw names at may least low. (λ last. (low.0, tt), omega arith);
  tag_slash = λ spot place name raw names at may least low. (λ last. tt, (low.0, low.1, omega arith));
  tag_goes = λ spot place name raw names at b least low. in_tags (TurnRises least at) (spot_step spot b) place name (raw ++ b ∷ []) names (λ next. (λ last. tt, (low.0, omega arith))) tt;
  empty_ends = λ slash place name raw names at least low. (λ last. (low.0, (omega arith, tt)), omega arith);
  end_ends = λ place names at least low. (λ last. (low.0, tt), omega arith);
  end_space = λ place names at b h least low. (λ last. tt, (low.0, omega arith));
  end_goes = λ place c rest names at least low. (λ last. tt, (low.0, omega arith));
  closed_ends = λ place names at least low. (λ last. (low.0, tt), omega arith);
  closed_space = λ place names at b h least low. (λ last. tt, (low.0, omega arith));
}

-- the places of one step's pieces rise
pub rises : (s : State) (least at b : ℕ) → Low s least at → TurnRises least at (step s at b)
rises s least at b low = edges StepRises rise_edges s at b least low

-- no state has a place before the least one
pub low_le : (s : State) (least at : ℕ) → Low s least at → least ≤ at
low_le fresh least at low = low
low_le m.mark_one least at low = low
low_le m.mark_two least at low = low
low_le (between level) least at low = low
low_le (opened p level) least at low = omega arith
low_le (m.bang level) least at low = low
low_le (bang_dash level) least at low = low
low_le (in_comment dashes level) least at low = low
low_le (in_instruction asked level) least at low = low
low_le (in_words p raw name names) least at low = omega arith
low_le (in_reference r p raw name names) least at low = omega arith
low_le (in_name p name names) least at low = omega arith
low_le (in_tag spot p name raw names) least at low = omega arith
low_le (slashed slash p name raw names) least at low = omega arith
low_le (closing p due names) least at low = omega arith
low_le (closed p names) least at low = omega arith

rising_both : (last least : ℕ) (said more : List Answer) → RiseTo last least said → RiseTo last (above least said) more → RiseTo last least (said ++ more)
rising_both last least [] more s m = m
rising_both last least (start p name raw ∷ said) more s m = (s.0, rising_both last (p + 1) said more s.1 m)
rising_both last least (words p raw ∷ said) more s m = (s.0, rising_both last (p + 1) said more s.1 m)
rising_both last least (stop p ∷ said) more s m = (s.0, rising_both last (p + 1) said more s.1 m)
rising_both last least (finish ∷ said) more s m = (s.0, rising_both last least said more s.1 m)
rising_both last least (form p ∷ said) more s m = (s.0, rising_both last least said more s.1 m)
rising_both last least (depth p ∷ said) more s m = (s.0, rising_both last least said more s.1 m)

rising_along : (last least : ℕ) (xs ys : List Answer) → xs ≡ ys → RiseTo last least ys → RiseTo last least xs
rising_along last least xs ys e h = let P : List Answer → Type 0 = λ list. RiseTo last least list in subst P (sym e) h

verdict_rises : (s : State) (least at : ℕ) → least ≤ at → RiseTo at least (verdict s at ∷ [])
verdict_rises s least at le = verdict_by (λ answer. RiseTo at least (answer ∷ [])) s at (le, tt) (le, tt)

turn_rises : (s : State) (least at b : ℕ) (bytes : List ℕ) (last : ℕ) (turn : Turn) → step s at b ≡ turn → least ≤ at → TurnRises least at turn → ((next : State) (low : ℕ) → Low next low (at + 1) → RiseTo last low (answers_from next (at + 1) bytes)) → RiseTo last least (answers_from s at (b ∷ bytes))
turn_rises s least at b bytes last off is le t further = rising_along last least _ _ (step_off s at b bytes is) (le, tt)
turn_rises s least at b bytes last (on said next) is le t further =
    rising_along last least _ _ (step_on s next at b bytes said is)
    (rising_both last least said (answers_from next (at + 1) bytes) (t.0 last) (further next (above least said) t.1))

-- the places of what is answered from a state on rise
pub rising_from : (s : State) (least at : ℕ) (bytes : List ℕ) (last : ℕ) → last ≡ at + length bytes → Low s least at → RiseTo last least (answers_from s at bytes)
rising_from s least at [] last e low =
    rising_along last least _ _ (at_end s at)
    (let P : ℕ → Type 0 = λ n. RiseTo n least (verdict s at ∷ []) in
    subst P (let same : at ≡ last = omega arith in same) (verdict_rises s least at (low_le s least at low)))
rising_from s least at (b ∷ bytes) last e low =
    turn_rises s least at b bytes last (step s at b) refl (low_le s least at low) (rises s least at b low)
    (λ next least'. rising_from next least' (at + 1) bytes last (omega arith))

rise_all : (last least : ℕ) (list : List Answer) → RiseTo last least list → AreRising least list
rise_all last least [] r = tt
rise_all last least (start p name raw ∷ list) r = (r.0, rise_all last (p + 1) list r.1)
rise_all last least (words p raw ∷ list) r = (r.0, rise_all last (p + 1) list r.1)
rise_all last least (stop p ∷ list) r = (r.0, rise_all last (p + 1) list r.1)
rise_all last least (finish ∷ list) r = rise_all last least list r.1
rise_all last least (form p ∷ list) r = (r.0, rise_all last least list r.1)
rise_all last least (depth p ∷ list) r = (r.0, rise_all last least list r.1)

rise_short : (last least : ℕ) (list : List Answer) → RiseTo last least list → AreRising least (cut_short last list)
rise_short last least [] r = tt
rise_short last least (start p name raw ∷ list) r = (r.0, rise_short last (p + 1) list r.1)
rise_short last least (words p raw ∷ list) r = (r.0, rise_short last (p + 1) list r.1)
rise_short last least (stop p ∷ list) r = (r.0, rise_short last (p + 1) list r.1)
rise_short last least (finish ∷ list) r = (r.0, rise_short last least list r.1)
rise_short last least (form p ∷ list) r = (r.0, rise_short last least list r.1)
rise_short last least (depth p ∷ list) r = (r.0, rise_short last least list r.1)

rise_within : (text : List ℕ) (n : ℕ) (whole : Bool) → n ≤ length text → AreRising 0 (cond whole (answers_from fresh 0 text) (cut_short n (answers_from fresh 0 (take n text))))
rise_within text n true le = rise_all (length text) 0 _ (rising_from fresh 0 0 text (length text) (omega arith) (omega arith))
rise_within text n false le =
    let cut : length (take n text) ≡ min n (length text) = length-take n text in
    rise_short n 0 (answers_from fresh 0 (take n text)) (rising_from fresh 0 0 (take n text) n (omega arith) (omega arith))

rise_cut : (least : ℕ) (room : Bool) (p : ℕ) (name raw : List ℕ) (more : List Answer) → least ≤ p → AreRising (p + 1) more → AreRising least (cond room (start p name raw ∷ more) (depth p ∷ []))
rise_cut least true p name raw more le r = (le, r)
rise_cut least false p name raw more le r = (le, tt)

rise_limited : (least d : ℕ) (list : List Answer) → AreRising least list → AreRising least (limit_depth d list)
rise_limited least d [] r = tt
rise_limited least d (start p name raw ∷ more) r = rise_cut least (ltb d 256) p name raw (limit_depth (d + 1) more) r.0 (rise_limited (p + 1) (d + 1) more r.1)
rise_limited least d (words p raw ∷ more) r = (r.0, rise_limited (p + 1) d more r.1)
rise_limited least d (stop p ∷ more) r = (r.0, rise_limited (p + 1) (d - 1) more r.1)
rise_limited least d (finish ∷ more) r = rise_limited least d more r
rise_limited least d (form p ∷ more) r = (r.0, rise_limited least d more r.1)
rise_limited least d (depth p ∷ more) r = (r.0, rise_limited least d more r.1)

-- places rise
pub rising_places : (text : List ℕ) → AreRising 0 (answers text)
unfolding answers
rising_places text =
    rise_limited 0 0 (answers_within text (utf8_front text))
    (rise_within text (utf8_front text) (eqb (utf8_front text) (length text)) (utf8_fronts text).within)
