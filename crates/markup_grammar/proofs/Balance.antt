-- The answers on a text end as many elements as they begin: none ends where none is open, and the text ends where none is.
use Rattle.std.proofs.Common.{◌≡◌, ℕ, zero, suc, ◌+◌, ◌-◌, Bool, true, false, eqb, ltb, cond, List, [], ◌∷◌, ◌++◌, length, take, refl, ap, sym, subst, ◌∙◌, arith}
use Rattle.markup_grammar.specs.Answers.{Answer, start, words, stop, finish, form, depth, limit_depth, cut_short}
use Rattle.markup_grammar.specs.Machine as m
use Rattle.markup_grammar.specs.Machine.{State, Names, Turn, on, off, step, ref_step, spot_step, level_of_names, before, within, behind, fresh, between, opened, bang_dash, in_comment, in_instruction, in_words, in_reference, in_name, in_tag, slashed, closing, closed, verdict, answers_from}
use Rattle.markup_grammar.specs.Reading.{answers_within, answers}
use Rattle.markup_grammar.specs.Utf8.{utf8_front}
use Rattle.markup_grammar.proofs.Edges.{Edges, edges, in_comments, in_instructions, in_runs, in_tags}
use Rattle.markup_grammar.proofs.Opens.{open_count}
use Rattle.markup_grammar.proofs.Steps.{at_end, step_on, step_off}

-- answers where so many elements are open
abbrev pub Balanced : ℕ → List Answer → Type 0
Balanced count [] = ⊥
Balanced count (start place name raw ∷ more) = Balanced (suc count) more
Balanced count (words place raw ∷ more) = Balanced count more
Balanced zero (stop place ∷ more) = ⊥
Balanced (suc count) (stop place ∷ more) = Balanced count more
Balanced count (finish ∷ more) = (count ≡ 0) × (more ≡ [])
Balanced count (form place ∷ more) = Unit {0}
Balanced count (depth place ∷ more) = Unit {0}

-- ---- each byte

abbrev BalancedTurn : State → Turn → Type 0
BalancedTurn s off = Unit {0}
BalancedTurn s (on said next) = (more : List Answer) → Balanced (open_count next) more → Balanced (open_count s) (said ++ more)

outside_count : (names : Names) → open_count (between (level_of_names names)) ≡ length names
outside_count [] = refl
outside_count (name ∷ names) = refl

after_end : (names : Names) (more : List Answer) → Balanced (open_count (between (level_of_names names))) more → Balanced (length names) more
after_end names more h = subst (λ (count : ℕ). Balanced count more) (outside_count names) h

balanced_edges : Edges (λ s at b turn. BalancedTurn s turn)
balanced_edges = record {
  refused = λ s at b. tt;
  fresh_marked = λ at more h. h;
  fresh_opens = λ at more h. h;
  fresh_space = λ at b is more h. h;
  marked_one = λ at more h. h;
  marked_two = λ at more h. h;
  opens = λ level at more h. h;
  space_before = λ at b is more h. h;
  space_behind = λ at b is more h. h;
  words_begin = λ name names at b is more h. h;
  reference_begins = λ name names at more h. h;
  bangs = λ place level at more h. h;
  asks = λ place level at more h. h;
  root_begins = λ place at b is more h. h;
  child_begins = λ place name names at b is more h. h;
  slashes = λ place name names at more h. h;
  dash_one = λ level at more h. h;
  dash_two = λ level at more h. h;
  comments = λ dashes level at b. in_comments (BalancedTurn (in_comment dashes level)) dashes level b (λ next more h. h) (λ more h. h);
  instructions = λ asked level at b. in_instructions (BalancedTurn (in_instruction asked level)) asked level b (λ next more h. h) (λ more h. h);
  words_end = λ place raw name names at more h. h;
  words_go = λ place raw name names at b is more h. h;
  words_refer = λ place raw name names at more h. h;
  references = λ r place raw name names at b. in_runs (BalancedTurn (in_reference r place raw name names)) (ref_step r b) place (raw ++ b ∷ []) name names (λ next more h. h) (λ more h. h) tt;
  name_ends = λ place name names at more h. h;
  name_slash = λ place name names at more h. h;
  name_goes = λ place name names at b is more h. h;
  name_space = λ place name names at b is more h. h;
  tag_ends = λ spot place name raw names at may more h. h;
  tag_slash = λ spot place name raw names at may more h. h;
  tag_goes = λ spot place name raw names at b. in_tags (BalancedTurn (in_tag spot place name raw names)) (spot_step spot b) place name (raw ++ b ∷ []) names (λ next more h. h) tt;
  empty_ends = λ slash place name raw names at more h. after_end names more h;
  end_ends = λ place names at more h. after_end names more h;
  end_space = λ place names at b is more h. h;
  end_goes = λ place c rest names at more h. h;
  closed_ends = λ place names at more h. after_end names more h;
  closed_space = λ place names at b is more h. h;
}

turns : (s : State) (at b : ℕ) → BalancedTurn s (step s at b)
turns = edges (λ s at b turn. BalancedTurn s turn) balanced_edges

-- ---- all bytes

ends : (s : State) (at : ℕ) → Balanced (open_count s) (verdict s at ∷ [])
ends fresh at = tt
ends m.mark_one at = tt
ends m.mark_two at = tt
ends (between before) at = tt
ends (between (within name names)) at = tt
ends (between behind) at = (refl, refl)
ends (opened place level) at = tt
ends (m.bang level) at = tt
ends (bang_dash level) at = tt
ends (in_comment dashes level) at = tt
ends (in_instruction asked level) at = tt
ends (in_words place raw name names) at = tt
ends (in_reference r place raw name names) at = tt
ends (in_name place name names) at = tt
ends (in_tag spot place name raw names) at = tt
ends (slashed slash place name raw names) at = tt
ends (closing place rest names) at = tt
ends (closed place names) at = tt

along : (count : ℕ) (xs ys : List Answer) → xs ≡ ys → Balanced count ys → Balanced count xs
along count xs ys e h = subst (Balanced count) (sym e) h

turned : (s : State) (at b : ℕ) (bytes : List ℕ) (turn : Turn) → step s at b ≡ turn → BalancedTurn s turn
    → ((next : State) → Balanced (open_count next) (answers_from next (at + 1) bytes))
    → Balanced (open_count s) (answers_from s at (b ∷ bytes))
turned s at b bytes off is keeps further = along (open_count s) _ _ (step_off s at b bytes is) tt
turned s at b bytes (on said next) is keeps further =
    along (open_count s) _ _ (step_on s next at b bytes said is) (keeps (answers_from next (at + 1) bytes) (further next))

from_state : (s : State) (at : ℕ) (bytes : List ℕ) → Balanced (open_count s) (answers_from s at bytes)
from_state s at [] = along (open_count s) _ _ (at_end s at) (ends s at)
from_state s at (b ∷ bytes) = turned s at b bytes (step s at b) refl (turns s at b) (λ next. from_state next (at + 1) bytes)

-- ---- what UTF-8 and the limit cut off

short : (n count : ℕ) (list : List Answer) → Balanced count list → Balanced count (cut_short n list)
short n count [] h = h
short n count (start place name raw ∷ more) h = short n (suc count) more h
short n count (words place raw ∷ more) h = short n count more h
short n zero (stop place ∷ more) h = h
short n (suc count) (stop place ∷ more) h = short n count more h
short n count (finish ∷ more) h = tt
short n count (form place ∷ more) h = tt
short n count (depth place ∷ more) h = tt

within_front : (text : List ℕ) (n : ℕ) (whole : Bool)
    → Balanced 0 (cond whole (answers_from fresh 0 text) (cut_short n (answers_from fresh 0 (take n text))))
within_front text n true = from_state fresh 0 text
within_front text n false = short n 0 (answers_from fresh 0 (take n text)) (from_state fresh 0 (take n text))

limited_start : (room : Bool) (count place : ℕ) (name raw : List ℕ) (more : List Answer) → Balanced (suc count) more
    → Balanced count (cond room (start place name raw ∷ more) (depth place ∷ []))
limited_start true count place name raw more h = h
limited_start false count place name raw more h = tt

one_more : (count : ℕ) → count + 1 ≡ suc count
one_more count = omega arith

one_less : (count : ℕ) → suc count - 1 ≡ count
one_less count = omega arith

within_limit : (count : ℕ) (list : List Answer) → Balanced count list → Balanced count (limit_depth count list)
within_limit count [] h = h
within_limit count (start place name raw ∷ more) h =
    limited_start (ltb count 256) count place name raw (limit_depth (count + 1) more)
    (along (suc count) _ _ (ap (λ n. limit_depth n more) (one_more count)) (within_limit (suc count) more h))
within_limit count (words place raw ∷ more) h = within_limit count more h
within_limit zero (stop place ∷ more) h = h
within_limit (suc count) (stop place ∷ more) h =
    along count _ _ (ap (λ n. limit_depth n more) (one_less count)) (within_limit count more h)
within_limit count (finish ∷ more) h = (h.0, ap (λ list. limit_depth count list) h.1)
within_limit count (form place ∷ more) h = tt
within_limit count (depth place ∷ more) h = tt

-- the answers on any text
pub balanced_text : (text : List ℕ) → Balanced 0 (answers text)
unfolding answers
balanced_text text =
    within_limit 0 (answers_within text (utf8_front text)) (within_front text (utf8_front text) (eqb (utf8_front text) (length text)))
