-- How the byte-wise reader goes over one byte of a text and over runs of bytes.
use Rattle.std.proofs.Common.{◌≡◌, ℕ, suc, ◌+◌, ◌-◌, ◌<◌, ◌≤◌, ◌⊎◌, inl, inr, Bool, true, false, cond, eqb, List, [], ◌∷◌, ◌++◌, length, take, drop, get_or, refl, ap, sym, ◌∙◌, drop-drop, one-add, arith, length-drop, ne_eqb, slice_range}
use Rattle.std.proofs.lemmas.List.{take_more, get_or-drop}
use Rattle.std.specs.List.{prefix_len}
use Rattle.markup_grammar.specs.Answers.{Answer, form}
use Rattle.markup_grammar.specs.Machine.{State, Turn, on, off, step, verdict, answers_of_turn, answers_from, Ref, RefTurn, ref_on, ref_ends, ref_off, ref_step, in_run, in_value, tag_turn}
use Rattle.markup_scanner.specs.Left.{answers_at, StandsAt, BeginsWithout, FailsFirst}
use Rattle.markup_scanner.specs.Scans.{run_end, Host, of_run, of_value, host_begin, host_state, host_reference}

-- the end of the text
pub left_end : (text : List ℕ) (s : State) (at : ℕ) → drop at text ≡ [] → answers_at text s at ≡ verdict s at ∷ []
unfolding answers_at answers_from
left_end text s at e = ap (λ xs. answers_from s at xs) e

-- a good byte
pub left_on : (text : List ℕ) (s next : State) (at b : ℕ) (said : List Answer) → StandsAt text at b → step s at b ≡ on said next → answers_at text s at ≡ said ++ answers_at text next (at + 1)
unfolding answers_at answers_from
left_on text s next at b said stands e =
    ap (λ xs. answers_from s at xs) stands ∙ ap (λ t. answers_of_turn t at (λ n. answers_from n (at + 1) (drop (at + 1) text))) e

-- a refused byte
pub left_off : (text : List ℕ) (s : State) (at b : ℕ) → StandsAt text at b → step s at b ≡ off → answers_at text s at ≡ form at ∷ []
unfolding answers_at answers_from
left_off text s at b stands e =
    ap (λ xs. answers_from s at xs) stands ∙ ap (λ t. answers_of_turn t at (λ n. answers_from n (at + 1) (drop (at + 1) text))) e

-- two states that go on alike from a byte on
pub left_same : (text : List ℕ) (s t : State) (at b : ℕ) → StandsAt text at b → step s at b ≡ step t at b → answers_at text s at ≡ answers_at text t at
unfolding answers_at answers_from
left_same text s t at b stands e =
    ap (λ xs. answers_from s at xs) stands
    ∙ (ap (λ u. answers_of_turn u at (λ n. answers_from n (at + 1) (drop (at + 1) text))) e ∙ ap (λ xs. answers_from t at xs) (sym stands))

-- the byte that a place's rest begins with
pub stands : (text : List ℕ) (at b : ℕ) (bs : List ℕ) → drop at text ≡ b ∷ bs → StandsAt text at b
stands text at b bs e =
    let more : drop (at + 1) text ≡ bs = sym (drop-drop 1 at text) ∙ ap (λ xs. drop 1 xs) e in
    e ∙ ap (λ xs. b ∷ xs) (sym more)

-- at a place the text ends, or a byte stands
pub at_place : (text : List ℕ) (at : ℕ) → (drop at text ≡ []) ⊎ ((b : ℕ) × StandsAt text at b)
at_place text at = by_rest (drop at text) refl
  where
    by_rest : (xs : List ℕ) → drop at text ≡ xs → (drop at text ≡ []) ⊎ ((b : ℕ) × StandsAt text at b)
    by_rest [] e = inl e
    by_rest (b ∷ bs) e = inr (b, stands text at b bs e)

-- neither an end nor a byte that is there is good
pub refused : (text : List ℕ) (s : State) (at : ℕ) → (drop at text ≡ [] → verdict s at ≡ form at) → ((b : ℕ) → StandsAt text at b → step s at b ≡ off) → answers_at text s at ≡ form at ∷ []
refused text s at ends offs =
    elim (at_place text at) as (λ _. answers_at text s at ≡ form at ∷ []) [
      | inl e ↦ left_end text s at e ∙ ap (λ a. a ∷ []) (ends e)
      | inr w ↦ left_off text s at w.0 w.1 (offs w.0 w.1)
    ]

-- the same answers of two states that neither end otherwise nor go on otherwise
pub alike : (text : List ℕ) (s t : State) (at : ℕ) → (drop at text ≡ [] → verdict s at ≡ verdict t at) → ((b : ℕ) → StandsAt text at b → step s at b ≡ step t at b) → answers_at text s at ≡ answers_at text t at
alike text s t at ends same =
    elim (at_place text at) as (λ _. answers_at text s at ≡ answers_at text t at) [
      | inl e ↦ left_end text s at e ∙ (ap (λ a. a ∷ []) (ends e) ∙ sym (left_end text t at e))
      | inr w ↦ left_same text s t at w.0 w.1 (same w.0 w.1)
    ]

-- a byte that stands is not the one that the text is without
pub other_byte : (text : List ℕ) (at b c : ℕ) → StandsAt text at b → BeginsWithout c (drop at text) → eqb b c ≡ false
other_byte text at b c stand bare = ne_eqb b c (let other = rw stand at bare in other)

-- a byte that stands fails the test that the text fails
pub fails_there : (test : ℕ → Bool) (text : List ℕ) (at b : ℕ) → StandsAt text at b → FailsFirst test (drop at text) → test b ≡ false
fails_there test text at b stand fails = rw stand at fails

-- a place at which a byte stands is within the text
pub stands_within : (text : List ℕ) (at b : ℕ) → StandsAt text at b → at < length text
stands_within text at b stand =
    let e : length (drop at text) ≡ suc (length (drop (at + 1) text)) = ap length stand in
    let n : length (drop at text) ≡ length text - at = length-drop at text in
    omega arith

-- a part of the text, and the byte behind it
pub slice_more : (text : List ℕ) (from at b : ℕ) → from ≤ at → StandsAt text at b → slice_range text from (at + 1) ≡ slice_range text from at ++ b ∷ []
slice_more text from at b le stand =
    let within : at < length text = stands_within text at b stand in
    let room : at - from < length (drop from text) = rw length-drop (omega arith) in
    let count : at + 1 - from ≡ at - from + 1 = omega arith in
    let place : from + (at - from) ≡ at = omega arith in
    let there : get_or text at 0 ≡ b = ap (λ n. get_or text n 0) (let e : at ≡ at + 0 = omega arith in e) ∙ (sym (get_or-drop at text 0 0) ∙ ap (λ xs. get_or xs 0 0) stand) in
    ap (λ n. take n (drop from text)) count
    ∙ (take_more (drop from text) (at - from) 0 room
    ∙ ap (λ c. take (at - from) (drop from text) ++ c ∷ [])
    (get_or-drop from text (at - from) 0 ∙ (ap (λ n. get_or text n 0) place ∙ there)))

-- no part
pub slice_none : (text : List ℕ) (at : ℕ) → slice_range text at at ≡ []
slice_none text at = ap (λ n. take n (drop at text)) (let e : at - at ≡ 0 = omega arith in e)

no_more : (at : ℕ) → at + 0 ≡ at
no_more at = omega arith

one_more : (at k : ℕ) → at + 1 + k ≡ at + (1 + k)
one_more at k = omega arith

-- one byte of a run, or none
run_step : (text : List ℕ) (test : ℕ → Bool) (s : ℕ → State) (at b k : ℕ) → StandsAt text at b → (test b ≡ true → step (s at) at b ≡ on [] (s (at + 1))) → answers_at text (s (at + 1)) (at + 1) ≡ answers_at text (s (at + 1 + k)) (at + 1 + k) → (t : Bool) → test b ≡ t → answers_at text (s at) at ≡ answers_at text (s (at + cond t (1 + k) 0)) (at + cond t (1 + k) 0)
run_step text test s at b k stand turn more true pass =
    left_on text (s at) (s (at + 1)) at b [] stand (turn pass) ∙ (more ∙ ap (λ n. answers_at text (s n) n) (one_more at k))
run_step text test s at b k stand turn more false fail = ap (λ n. answers_at text (s n) n) (sym (no_more at))

run_over : (text : List ℕ) (test : ℕ → Bool) (s : ℕ → State) (least : ℕ) → ((at b : ℕ) → least ≤ at → StandsAt text at b → test b ≡ true → step (s at) at b ≡ on [] (s (at + 1))) → (xs : List ℕ) (at : ℕ) → least ≤ at → drop at text ≡ xs → answers_at text (s at) at ≡ answers_at text (s (at + prefix_len test xs)) (at + prefix_len test xs)
run_over text test s least turn [] at le e = ap (λ n. answers_at text (s n) n) (sym (no_more at))
run_over text test s least turn (b ∷ bs) at le e =
    let stand : StandsAt text at b = stands text at b bs e in
    let rest : drop (at + 1) text ≡ bs = sym (drop-drop 1 at text) ∙ ap (λ xs. drop 1 xs) e in
    let above : least ≤ at + 1 = omega arith in
    run_step text test s at b (prefix_len test bs) stand (turn at b le stand) (run_over text test s least turn bs (at + 1) above rest) (test b) refl

-- a run of bytes each of which leads from its place's state to that of the next place
pub run_left : (text : List ℕ) (test : ℕ → Bool) (s : ℕ → State) (least : ℕ) → ((at b : ℕ) → least ≤ at → StandsAt text at b → test b ≡ true → step (s at) at b ≡ on [] (s (at + 1))) → (at : ℕ) → least ≤ at → answers_at text (s at) at ≡ answers_at text (s (run_end test text at)) (run_end test text at)
run_left text test s least turn at le = run_over text test s least turn (drop at text) at le refl

ends_step : (test : ℕ → Bool) (b : ℕ) (bs : List ℕ) (k : ℕ) (t : Bool) → test b ≡ t → FailsFirst test (drop k bs) → FailsFirst test (drop (cond t (1 + k) 0) (b ∷ bs))
ends_step test b bs k true e ends = rw one-add ends
ends_step test b bs k false e ends = e

prefix_stops : (test : ℕ → Bool) (bs : List ℕ) → FailsFirst test (drop (prefix_len test bs) bs)
prefix_stops test [] = tt
prefix_stops test (b ∷ bs) = ends_step test b bs (prefix_len test bs) (test b) refl (prefix_stops test bs)

-- where a run ends, no byte passes
pub run_stops : (test : ℕ → Bool) (text : List ℕ) (at : ℕ) → FailsFirst test (drop (run_end test text at) text)
run_stops test text at = rw (← drop-drop (prefix_len test (drop at text)) at text) (prefix_stops test (drop at text))

-- the same of an end that is told
pub stops_at : (test : ℕ → Bool) (text : List ℕ) (at end : ℕ) → end ≡ run_end test text at → FailsFirst test (drop end text)
stops_at test text at end e = rw e (run_stops test text at)

-- a byte of a reference, as its host takes it
abbrev pub host_turn : List ℕ → Host → ℕ → RefTurn → Turn
host_turn text h at (ref_on r) = on [] (host_reference text h r at)
host_turn text h at ref_ends = on [] (host_state text h at)
host_turn text h at ref_off = off

pub host_step : (text : List ℕ) (h : Host) (r : Ref) (at b : ℕ) → host_begin h ≤ at → StandsAt text at b → step (host_reference text h r at) at b ≡ host_turn text h (at + 1) (ref_step r b)
host_step text (of_run place name names) r at b le stand =
    ap (λ raw. in_run (ref_step r b) place raw name names) (sym (slice_more text place at b le stand)) ∙ by_turn (ref_step r b)
  where
    by_turn : (t : RefTurn) → in_run t place (slice_range text place (at + 1)) name names ≡ host_turn text (of_run place name names) (at + 1) t
    by_turn (ref_on r) = refl
    by_turn ref_ends = refl
    by_turn ref_off = refl
host_step text (of_value quote place name from names) r at b le stand =
    ap (λ raw. tag_turn (in_value quote (ref_step r b)) place name raw names) (sym (slice_more text from at b le stand)) ∙ by_turn (ref_step r b)
  where
    by_turn : (t : RefTurn) → tag_turn (in_value quote t) place name (slice_range text from (at + 1)) names ≡ host_turn text (of_value quote place name from names) (at + 1) t
    by_turn (ref_on r) = refl
    by_turn ref_ends = refl
    by_turn ref_off = refl
