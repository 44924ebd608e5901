-- Pieces are made of names, attributes and runs of text.
use Rattle.std.proofs.Common.{◌≡◌, ◌≢◌, ℕ, ◌+◌, ◌-◌, Bool, true, false, eqb, ltb, cond, List, [], ◌∷◌, ◌++◌, length, take, refl, ap, sym, ◌∙◌, subst, append_assoc, append-nil}
use Rattle.markup_grammar.specs.Answers.{Answer, start, words, stop, finish, form, depth, limit_depth, cut_short}
use Rattle.markup_grammar.specs.Bytes.{is_name_byte, is_text, IsName}
use Rattle.markup_grammar.specs.Kinds.{IsMade, AreMade}
use Rattle.markup_grammar.specs.Machine.{State, Names, Ref, begun, RefTurn, ref_on, ref_ends, ref_off, ref_step, Spot, valued, SpotTurn, spot_on, spot_off, spot_step, fresh, in_words, in_reference, in_name, in_tag, slashed, in_run, tag_turn, Turn, on, off, step, answers_from}
use Rattle.markup_grammar.specs.Reading.{answers_within, answers}
use Rattle.markup_grammar.specs.References.{reference_body}
use Rattle.markup_grammar.specs.Runs.{Bit, plain, reference, spelled_bits, AreBits, IsRun}
use Rattle.markup_grammar.specs.Tags.{IsTagText}
use Rattle.markup_grammar.specs.Utf8.{utf8_front}
use Rattle.markup_grammar.proofs.Edges.{Edges, edges, in_comments, in_instructions}
use Rattle.markup_grammar.proofs.Refs.{turn_ends, RefEnds}
use Rattle.markup_grammar.proofs.Spots.{Leads, leads_append}
use Rattle.markup_grammar.proofs.Stand.{verdict_by}
use Rattle.markup_grammar.proofs.Steps.{at_end, step_on, step_off}
use Rattle.markup_grammar.proofs.TagTexts.{run_empty, run_plain, run_reference, no_text, all_append, rests}

bits_append : (test : ℕ → Bool) (xs ys : List Bit) → AreBits test xs → AreBits test ys → AreBits test (xs ++ ys)
bits_append test [] ys all more = more
bits_append test (plain b ∷ xs) ys all more = (all.0, bits_append test xs ys all.1 more)
bits_append test (reference r ∷ xs) ys all more = (all.0, bits_append test xs ys all.1 more)

spelled_bits-append : (xs ys : List Bit) → spelled_bits (xs ++ ys) ≡ spelled_bits xs ++ spelled_bits ys
spelled_bits-append [] ys = refl
spelled_bits-append (plain b ∷ xs) ys = ap (λ zs. b ∷ zs) (spelled_bits-append xs ys)
spelled_bits-append (reference r ∷ xs) ys =
    ap (λ zs. 38 ∷ (reference_body r ++ (59 ∷ zs))) (spelled_bits-append xs ys)
    ∙ ap (λ zs. 38 ∷ zs) (sym (append_assoc (reference_body r) (59 ∷ spelled_bits xs) (spelled_bits ys)))

-- two runs are one
pub run_append : (test : ℕ → Bool) (xs ys : List ℕ) → IsRun test xs → IsRun test ys → IsRun test (xs ++ ys)
run_append test xs ys first more = record {
  bits = first.bits ++ more.bits;
  are_bits = bits_append test first.bits more.bits first.are_bits more.are_bits;
  spells = ap (λ zs. zs ++ ys) first.spells ∙ (ap (λ zs. spelled_bits first.bits ++ zs) more.spells ∙ sym (spelled_bits-append first.bits more.bits));
}

-- what a turn leads to, where it does not end a reference
abbrev pub turn_refers : RefTurn → (Ref → Type 0) → Type 0
turn_refers (ref_on r) more = more r
turn_refers ref_ends more = ⊥
turn_refers ref_off more = ⊥

-- the bytes lead from one place in a reference to another
abbrev pub RefLeads : List ℕ → Ref → Ref → Type 0
RefLeads [] r s = r ≡ s
RefLeads (b ∷ bytes) r s = turn_refers (ref_step r b) (λ next. RefLeads bytes next s)

-- one byte more
refers_on : (bytes : List ℕ) (b : ℕ) (r s next : Ref) → RefLeads bytes r s → ref_step s b ≡ ref_on next → RefLeads (bytes ++ b ∷ []) r next
refers_on [] b r s next same goes =
    let P : RefTurn → Type 0 = λ turn. turn_refers turn (λ x. x ≡ next) in
    subst P (sym (ap (λ x. ref_step x b) same ∙ goes)) refl
refers_on (c ∷ bytes) b r s next leads goes = by_turn (ref_step r c) (λ x h. refers_on bytes b x s next h goes) leads
  where
    by_turn : (turn : RefTurn) → ((x : Ref) → RefLeads bytes x s → RefLeads (bytes ++ b ∷ []) x next) → turn_refers turn (λ x. RefLeads bytes x s) → turn_refers turn (λ x. RefLeads (bytes ++ b ∷ []) x next)
    by_turn (ref_on x) further h = further x h
    by_turn ref_ends further h = absurd h
    by_turn ref_off further h = absurd h

-- the last byte
refers_end : (bytes : List ℕ) (b : ℕ) (r s : Ref) → RefLeads bytes r s → ref_step s b ≡ ref_ends → RefEnds (bytes ++ b ∷ []) r
refers_end [] b r s same goes =
    let P : RefTurn → Type 0 = λ turn. turn_ends turn [] (λ x. RefEnds [] x) in
    subst P (sym (ap (λ x. ref_step x b) same ∙ goes)) refl
refers_end (c ∷ bytes) b r s leads goes = by_turn (ref_step r c) (λ x h. refers_end bytes b x s h goes) leads
  where
    by_turn : (turn : RefTurn) → ((x : Ref) → RefLeads bytes x s → RefEnds (bytes ++ b ∷ []) x) → turn_refers turn (λ x. RefLeads bytes x s) → turn_ends turn (bytes ++ b ∷ []) (λ x. RefEnds (bytes ++ b ∷ []) x)
    by_turn (ref_on x) further h = further x h
    by_turn ref_ends further h = absurd h
    by_turn ref_off further h = absurd h

-- a run, and then a reference as far as it has come
abbrev pub Referring : List ℕ → Ref → Type 0
Referring raw r =
    (run body : List ℕ) × IsRun is_text run × (raw ≡ run ++ (38 ∷ body)) × RefLeads body begun r

-- what a state has kept
abbrev pub Made : State → Type 0
Made (in_words p raw name names) = (raw ≢ []) × IsRun is_text raw
Made (in_reference r p raw name names) = Referring raw r
Made (in_name p acc names) = IsName acc
Made (in_tag spot p name raw names) = IsName name × Leads raw valued spot
Made (slashed slash p name raw names) = IsName name × IsTagText raw
Made _ = Unit {0}

abbrev pub TurnMade : Turn → Type 0
TurnMade off = Unit {0}
TurnMade (on said next) = AreMade said × Made next

abbrev pub StepMade : State → ℕ → ℕ → Turn → Type 0
StepMade s at b turn = Made s → TurnMade turn

not_nil : (xs : List ℕ) (b : ℕ) → xs ++ b ∷ [] ≢ []
not_nil [] b e = cc
not_nil (x ∷ xs) b e = cc

-- one byte of text more
words_more : (raw : List ℕ) (b : ℕ) → is_text b ≡ true → IsRun is_text raw → ((raw ++ b ∷ []) ≢ []) × IsRun is_text (raw ++ b ∷ [])
words_more raw b h run = (not_nil raw b, run_append is_text raw (b ∷ []) run (run_plain is_text b [] h (run_empty is_text)))

-- a byte of a reference in text
reference_made : (r : Ref) (p : ℕ) (raw name : List ℕ) (names : Names) (b : ℕ) (turn : RefTurn) → ref_step r b ≡ turn → Referring raw r → TurnMade (in_run turn p (raw ++ b ∷ []) name names)
reference_made r p raw name names b (ref_on next) goes (run, body, is, e, leads) =
    (tt, (run, body ++ b ∷ [], is, ap (λ xs. xs ++ b ∷ []) e ∙ append_assoc run (38 ∷ body) (b ∷ []), refers_on body b begun r next leads goes))
reference_made r p raw name names b ref_ends goes (run, body, is, e, leads) = (
  tt,
  (
    not_nil raw b,
    (let P : List ℕ → Type 0 = λ xs. IsRun is_text xs in
        subst P (ap (λ xs. run ++ (38 ∷ xs)) (append-nil (body ++ b ∷ [])) ∙ (sym (append_assoc run (38 ∷ body) (b ∷ [])) ∙ ap (λ xs. xs ++ b ∷ []) (sym e)))
        (run_append is_text run (38 ∷ ((body ++ b ∷ []) ++ [])) is (run_reference is_text (body ++ b ∷ []) [] (refers_end body b begun r leads goes) (run_empty is_text)))),
  ),
)
reference_made r p raw name names b ref_off goes kept = tt

-- a byte of the attributes
spot_made : (spot : Spot) (p : ℕ) (name raw : List ℕ) (names : Names) (b : ℕ) (turn : SpotTurn) → spot_step spot b ≡ turn → IsName name → Leads raw valued spot → TurnMade (tag_turn turn p name (raw ++ b ∷ []) names)
spot_made spot p name raw names b (spot_on next) goes is leads =
    (tt, (is, leads_append raw (b ∷ []) valued spot next leads (rw goes refl)))
spot_made spot p name raw names b spot_off goes is leads = tt

name_more : (name : List ℕ) (b : ℕ) → IsName name → is_name_byte b ≡ true → IsName (name ++ b ∷ [])
name_more [] b is h = absurd is
name_more (c ∷ name) b is h = (is.0, all_append is_name_byte name (b ∷ []) is.1 (h, tt))

made_edges : Edges StepMade
made_edges = record {
  refused = λ s at b kept. tt;
  fresh_marked = λ at kept. (tt, tt);
  fresh_opens = λ at kept. (tt, tt);
  fresh_space = λ at b h kept. (tt, tt);
  marked_one = λ at kept. (tt, tt);
  marked_two = λ at kept. (tt, tt);
  opens = λ level at kept. (tt, tt);
  space_before = λ at b h kept. (tt, tt);
  space_behind = λ at b h kept. (tt, tt);
  words_begin = λ name names at b h kept. (tt, words_more [] b h (run_empty is_text));
  reference_begins = λ name names at kept. (tt, ([], [], run_empty is_text, refl, refl));
  bangs = λ place level at kept. (tt, tt);
  asks = λ place level at kept. (tt, tt);
  root_begins = λ place at b h kept. (tt, (h, tt));
  child_begins = λ place name names at b h kept. (tt, (h, tt));
  slashes = λ place name names at kept. (tt, tt);
  dash_one = λ level at kept. (tt, tt);
  dash_two = λ level at kept. (tt, tt);
  comments = λ dashes level at b kept. in_comments TurnMade dashes level b (λ next. (tt, tt)) (tt, tt);
  instructions = λ asked level at b kept. in_instructions TurnMade asked level b (λ next. (tt, tt)) (tt, tt);
  words_end = λ place raw name names at kept. ((kept, tt), tt);
  words_go = λ place raw name names at b h kept. (tt, words_more raw b h kept.1);
  words_refer = λ place raw name names at kept. (tt, (raw, [], kept.1, refl, refl));
  references = λ r place raw name names at b kept. reference_made r place raw name names b (ref_step r b) refl kept;
  name_ends = λ place name names at kept. (((kept, no_text), tt), tt);
  name_slash = λ place name names at kept. (tt, (kept, no_text));
  name_goes = λ place name names at b h kept. (tt, name_more name b kept h);
  name_space = λ place name names at b h kept. (tt, (kept, rw h refl));
  tag_ends = λ spot place name raw names at may kept. (((kept.0, rests raw valued spot may kept.1), tt), tt);
  tag_slash = λ spot place name raw names at may kept. (tt, (kept.0, rests raw valued spot may kept.1));
  tag_goes = λ spot place name raw names at b kept. spot_made spot place name raw names b (spot_step spot b) refl kept.0 kept.1;
  empty_ends = λ slash place name raw names at kept. ((kept, (tt, tt)), tt);
  end_ends = λ place names at kept. ((tt, tt), tt);
  end_space = λ place names at b h kept. (tt, tt);
  end_goes = λ place c rest names at kept. (tt, tt);
  closed_ends = λ place names at kept. ((tt, tt), tt);
  closed_space = λ place names at b h kept. (tt, tt);
}

made_both : (said more : List Answer) → AreMade said → AreMade more → AreMade (said ++ more)
made_both [] more s h = h
made_both (answer ∷ said) more s h = (s.0, made_both said more s.1 h)

made_along : (xs ys : List Answer) → xs ≡ ys → AreMade ys → AreMade xs
made_along xs ys e h = subst AreMade (sym e) h

made_turn : (s : State) (at b : ℕ) (bytes : List ℕ) (turn : Turn) → step s at b ≡ turn → TurnMade turn → ((next : State) → Made next → AreMade (answers_from next (at + 1) bytes)) → AreMade (answers_from s at (b ∷ bytes))
made_turn s at b bytes off is t further = made_along _ _ (step_off s at b bytes is) (tt, tt)
made_turn s at b bytes (on said next) is t further =
    made_along _ _ (step_on s next at b bytes said is) (made_both said (answers_from next (at + 1) bytes) t.0 (further next t.1))

-- the pieces from a state on
pub made_from : (s : State) (at : ℕ) (bytes : List ℕ) → Made s → AreMade (answers_from s at bytes)
made_from s at [] kept = made_along _ _ (at_end s at) (verdict_by (λ answer. AreMade (answer ∷ [])) s at (tt, tt) (tt, tt))
made_from s at (b ∷ bytes) kept =
    made_turn s at b bytes (step s at b) refl (edges StepMade made_edges s at b kept) (λ next. made_from next (at + 1) bytes)

made_short : (n : ℕ) (list : List Answer) → AreMade list → AreMade (cut_short n list)
made_short n [] h = tt
made_short n (start p name raw ∷ list) h = (h.0, made_short n list h.1)
made_short n (words p raw ∷ list) h = (h.0, made_short n list h.1)
made_short n (stop p ∷ list) h = (tt, made_short n list h.1)
made_short n (finish ∷ list) h = (tt, made_short n list h.1)
made_short n (form p ∷ list) h = (tt, made_short n list h.1)
made_short n (depth p ∷ list) h = (tt, made_short n list h.1)

made_within : (text : List ℕ) (n : ℕ) (whole : Bool) → AreMade (cond whole (answers_from fresh 0 text) (cut_short n (answers_from fresh 0 (take n text))))
made_within text n true = made_from fresh 0 text tt
made_within text n false = made_short n (answers_from fresh 0 (take n text)) (made_from fresh 0 (take n text) tt)

made_cut : (room : Bool) (p : ℕ) (name raw : List ℕ) (more : List Answer) → IsMade (start p name raw) → AreMade more → AreMade (cond room (start p name raw ∷ more) (depth p ∷ []))
made_cut true p name raw more s h = (s, h)
made_cut false p name raw more s h = (tt, tt)

made_limited : (d : ℕ) (list : List Answer) → AreMade list → AreMade (limit_depth d list)
made_limited d [] h = tt
made_limited d (start p name raw ∷ more) h = made_cut (ltb d 256) p name raw (limit_depth (d + 1) more) h.0 (made_limited (d + 1) more h.1)
made_limited d (words p raw ∷ more) h = (h.0, made_limited d more h.1)
made_limited d (stop p ∷ more) h = (tt, made_limited (d - 1) more h.1)
made_limited d (finish ∷ more) h = (tt, made_limited d more h.1)
made_limited d (form p ∷ more) h = (tt, made_limited d more h.1)
made_limited d (depth p ∷ more) h = (tt, made_limited d more h.1)

-- the pieces of a text are made of names, attributes and runs
pub made : (text : List ℕ) → AreMade (answers text)
unfolding answers
made text = made_limited 0 (answers_within text (utf8_front text)) (made_within text (utf8_front text) (eqb (utf8_front text) (length text)))
