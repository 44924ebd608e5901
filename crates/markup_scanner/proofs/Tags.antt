-- How the byte-wise reader goes through tags and their attributes.
use Rattle.std.proofs.Common.{◌≡◌, ℕ, zero, suc, ◌+◌, ◌-◌, ◌≤◌, ◌<◌, Bool, true, false, cond, eqb, List, [], ◌∷◌, ◌++◌, length, drop, length-drop, refl, ap, sym, ◌∙◌, arith, slice_range, inl, inr, Result, Ok, Err}
use Rattle.std.proofs.lemmas.Bool.Decides.{nat_tests}
use Rattle.std.specs.List.{prefix_len}
use Rattle.markup_grammar.specs.Answers.{start, stop, form}
use Rattle.markup_grammar.specs.Bytes.{is_space, is_digit, begins_name, is_name_byte}
use Rattle.markup_grammar.specs.Machine.{State, Names, between, within, level_of_names, in_name, in_tag, Spot, spaced, naming, named, equalled, valuing, valued, slashed, closing, closed, spot_on, spot_off, tag_turn, step, on, off}
use Rattle.markup_scanner.specs.Left.{answers_at, StandsAt, BeginsWithout, FailsFirst}
use Rattle.markup_scanner.specs.Scans.{run_end, NameEnds, Await, IsPast}
use Rattle.markup_scanner.specs.Tags.{EndsStartTag, EndsNoTag, IsOpened, ClosesTag, AsciiAt}
use Rattle.markup_scanner.proofs.Steps.{left_on, left_same, refused, alike, at_place, other_byte, fails_there, slice_more, slice_none, run_left, stops_at, stands_within}
use Rattle.markup_scanner.proofs.Numbers.{differ}

space_not_more : is_space 62 ≡ false
unfolding is_space
space_not_more = refl

space_not_slash : is_space 47 ≡ false
unfolding is_space
space_not_slash = refl

space_not_equals : is_space 61 ≡ false
unfolding is_space
space_not_equals = refl

space_not_double : is_space 34 ≡ false
unfolding is_space
space_not_double = refl

space_not_single : is_space 39 ≡ false
unfolding is_space
space_not_single = refl

name_not_more : begins_name 62 ≡ false
unfolding begins_name
name_not_more = refl

name_not_slash : begins_name 47 ≡ false
unfolding begins_name
name_not_slash = refl

in_name_not_more : is_name_byte 62 ≡ false
unfolding is_name_byte begins_name is_digit
in_name_not_more = refl

in_name_not_slash : is_name_byte 47 ≡ false
unfolding is_name_byte begins_name is_digit
in_name_not_slash = refl

name_not_space : (b : ℕ) → begins_name b ≡ true → is_space b ≡ false
unfolding begins_name is_space
name_not_space b holds = grind (arith, nat_tests)

-- a byte that is in no name is one of ASCII
pub no_name_low : (b : ℕ) → is_name_byte b ≡ false → b < 128
unfolding is_name_byte begins_name
no_name_low b fails = grind (arith, nat_tests)

-- the state in a start tag behind its name
abbrev pub tag_state : List ℕ → ℕ → List ℕ → ℕ → Names → Spot → ℕ → State
tag_state text place name from names spot at = in_tag spot place name (slice_range text from at) names

-- one byte of a start tag
pub tag_on : (text : List ℕ) (place : ℕ) (name : List ℕ) (from : ℕ) (names : Names) (spot next : Spot) (at end b : ℕ) → from ≤ at → ((raw : List ℕ) → step (in_tag spot place name raw names) at b ≡ on [] (in_tag next place name (raw ++ b ∷ []) names)) → (end ≡ at + 1) × StandsAt text at b → answers_at text (tag_state text place name from names spot at) at ≡ answers_at text (tag_state text place name from names next end) end
tag_on text place name from names spot next at end b le turn is =
    left_on text (tag_state text place name from names spot at) (tag_state text place name from names next (at + 1)) at b [] is.1
    (turn (slice_range text from at) ∙ ap (λ raw. on [] (in_tag next place name raw names)) (sym (slice_more text from at b le is.1)))
    ∙ ap (λ n. answers_at text (tag_state text place name from names next n) n) (sym is.0)

-- a run of bytes of a start tag
tag_run : (text : List ℕ) (place : ℕ) (name : List ℕ) (from : ℕ) (names : Names) (spot : Spot) (test : ℕ → Bool) → ((raw : List ℕ) (at b : ℕ) → test b ≡ true → step (in_tag spot place name raw names) at b ≡ on [] (in_tag spot place name (raw ++ b ∷ []) names)) → (at end : ℕ) → from ≤ at → end ≡ run_end test text at → answers_at text (tag_state text place name from names spot at) at ≡ answers_at text (tag_state text place name from names spot end) end
tag_run text place name from names spot test turn at end le is =
    run_left text test (tag_state text place name from names spot) from
    (λ n b above stand holds. turn (slice_range text from n) n b holds ∙ ap (λ raw. on [] (in_tag spot place name raw names)) (sym (slice_more text from n b above stand)))
    at le
    ∙ ap (λ n. answers_at text (tag_state text place name from names spot n) n) (sym is)

naming_named : (place : ℕ) (name raw : List ℕ) (names : Names) (at b : ℕ) → is_name_byte b ≡ false → step (in_tag naming place name raw names) at b ≡ step (in_tag named place name raw names) at b
naming_named place name raw names at b none = rw none refl

-- an attribute's name and the white space behind it
pub attribute_named : (text : List ℕ) (place : ℕ) (name : List ℕ) (from : ℕ) (names : Names) (at end sign : ℕ) → from ≤ at → at ≤ end → NameEnds text at (Ok end) → sign ≡ run_end is_space text end → answers_at text (tag_state text place name from names spaced at) at ≡ answers_at text (tag_state text place name from names named sign) sign
attribute_named text place name from names at end sign le after is signs =
    let more : begins_name is.0 ≡ true = is.2 in
    let above : from ≤ at + 1 = omega arith in
    let behind : from ≤ end = omega arith in
    tag_on text place name from names spaced naming at (at + 1) is.0 le
    (λ raw. rw (differ begins_name is.0 62 more name_not_more, differ begins_name is.0 47 more name_not_slash, name_not_space is.0 more, more) refl)
    (refl, is.1)
    ∙ (tag_run text place name from names naming is_name_byte (λ raw n b holds. rw holds refl) (at + 1) end above is.3
    ∙ (alike text (tag_state text place name from names naming end) (tag_state text place name from names named end) end (λ _. refl)
    (λ b stand. naming_named place name (slice_range text from end) names end b (fails_there is_name_byte text end b stand (stops_at is_name_byte text (at + 1) end is.3)))
    ∙ tag_run text place name from names named is_space (λ raw n b holds. rw holds refl) end sign behind signs))

-- the `=` and the white space behind it
pub attribute_equalled : (text : List ℕ) (place : ℕ) (name : List ℕ) (from : ℕ) (names : Names) (sign after opening : ℕ) → from ≤ sign → (after ≡ sign + 1) × StandsAt text sign 61 → opening ≡ run_end is_space text after → answers_at text (tag_state text place name from names named sign) sign ≡ answers_at text (tag_state text place name from names equalled opening) opening
attribute_equalled text place name from names sign after opening le is opens =
    let behind : from ≤ after = omega (arith, is.0) in
    tag_on text place name from names named equalled sign after 61 le (λ raw. rw space_not_equals refl) is
    ∙ tag_run text place name from names equalled is_space (λ raw n b holds. rw holds refl) after opening behind opens

-- an opening quote
pub attribute_double : (text : List ℕ) (place : ℕ) (name : List ℕ) (from : ℕ) (names : Names) (opening value : ℕ) → from ≤ opening → (value ≡ opening + 1) × StandsAt text opening 34 → answers_at text (tag_state text place name from names equalled opening) opening ≡ answers_at text (tag_state text place name from names (valuing 34) value) value
attribute_double text place name from names opening value le is =
    tag_on text place name from names equalled (valuing 34) opening value 34 le (λ raw. rw space_not_double refl) is

pub attribute_single : (text : List ℕ) (place : ℕ) (name : List ℕ) (from : ℕ) (names : Names) (opening value : ℕ) → from ≤ opening → (value ≡ opening + 1) × StandsAt text opening 39 → answers_at text (tag_state text place name from names equalled opening) opening ≡ answers_at text (tag_state text place name from names (valuing 39) value) value
attribute_single text place name from names opening value le is =
    tag_on text place name from names equalled (valuing 39) opening value 39 le (λ raw. rw space_not_single refl) is

-- no attribute's name begins there
pub attribute_nameless : (text : List ℕ) (place : ℕ) (name : List ℕ) (from : ℕ) (names : Names) (at p : ℕ) → FailsFirst is_space (drop at text) → EndsNoTag text at → NameEnds text at (Err p) → answers_at text (tag_state text place name from names spaced at) at ≡ form p ∷ []
attribute_nameless text place name from names at p fails none is =
    refused text (tag_state text place name from names spaced at) at (λ _. refl)
    (λ b stand. let more : eqb b 62 ≡ false = other_byte text at b 62 stand none.0 in
    let slash : eqb b 47 ≡ false = other_byte text at b 47 stand none.1 in
    let space : is_space b ≡ false = fails_there is_space text at b stand fails in
    let begins : begins_name b ≡ false = fails_there begins_name text at b stand is.1 in
    rw (more, slash, space, begins) refl)
    ∙ ap (λ n. form n ∷ []) (sym is.0)

-- no `=` stands there
pub attribute_signless : (text : List ℕ) (place : ℕ) (name : List ℕ) (from : ℕ) (names : Names) (at p : ℕ) → FailsFirst is_space (drop at text) → (p ≡ at) × BeginsWithout 61 (drop at text) → answers_at text (tag_state text place name from names named at) at ≡ form p ∷ []
attribute_signless text place name from names at p fails is =
    refused text (tag_state text place name from names named at) at (λ _. refl)
    (λ b stand. let sign : eqb b 61 ≡ false = other_byte text at b 61 stand is.1 in
    let space : is_space b ≡ false = fails_there is_space text at b stand fails in
    rw (space, sign) refl)
    ∙ ap (λ n. form n ∷ []) (sym is.0)

-- no quote stands there
pub attribute_valueless : (text : List ℕ) (place : ℕ) (name : List ℕ) (from : ℕ) (names : Names) (at p : ℕ) → FailsFirst is_space (drop at text) → BeginsWithout 34 (drop at text) → (p ≡ at) × BeginsWithout 39 (drop at text) → answers_at text (tag_state text place name from names equalled at) at ≡ form p ∷ []
attribute_valueless text place name from names at p fails double is =
    refused text (tag_state text place name from names equalled at) at (λ _. refl)
    (λ b stand. let one : eqb b 34 ≡ false = other_byte text at b 34 stand double in
    let other : eqb b 39 ≡ false = other_byte text at b 39 stand is.1 in
    let space : is_space b ≡ false = fails_there is_space text at b stand fails in
    rw (space, one, other) refl)
    ∙ ap (λ n. form n ∷ []) (sym is.0)

-- a run that is not empty begins with a byte that passes
first_passes : (test : ℕ → Bool) (text : List ℕ) (at : ℕ) → at < run_end test text at → (b : ℕ) × StandsAt text at b × (test b ≡ true)
first_passes test text at low =
    elim (at_place text at) as (λ _. (b : ℕ) × StandsAt text at b × (test b ≡ true)) [
      | inl e ↦ absurd (let h : at < at + 0 = rw e at low in omega arith)
      | inr w ↦ (w.0, w.1, by_test w.0 (prefix_len test (drop (at + 1) text)) (test w.0) refl (rw w.1 at low))
    ]
  where
    by_test : (b k : ℕ) (t : Bool) → test b ≡ t → at < at + cond (test b) (1 + k) 0 → test b ≡ true
    by_test b k true e h = e
    by_test b k false e h = absurd (let g : at < at + 0 = rw e at h in omega arith)

-- behind a value, white space leads on as behind white space
valued_space : (text : List ℕ) (place : ℕ) (name : List ℕ) (from : ℕ) (names : Names) (at b : ℕ) → StandsAt text at b → is_space b ≡ true → answers_at text (tag_state text place name from names valued at) at ≡ answers_at text (tag_state text place name from names spaced at) at
valued_space text place name from names at b stand holds =
    left_same text (tag_state text place name from names valued at) (tag_state text place name from names spaced at) at b stand (rw holds refl)

valued_end : (text : List ℕ) (place : ℕ) (name : List ℕ) (from : ℕ) (names : Names) (at : ℕ) → EndsStartTag text at → answers_at text (tag_state text place name from names valued at) at ≡ answers_at text (tag_state text place name from names spaced at) at
valued_end text place name from names at (inl more) =
    left_same text (tag_state text place name from names valued at) (tag_state text place name from names spaced at) at 62 more refl
valued_end text place name from names at (inr slash) =
    left_same text (tag_state text place name from names valued at) (tag_state text place name from names spaced at) at 47 slash refl

-- white space behind the tag's name or a value
pub attributes_spaced : (text : List ℕ) (place : ℕ) (name : List ℕ) (from : ℕ) (names : Names) (at end : ℕ) → from ≤ at → at < end → end ≡ run_end is_space text at → answers_at text (tag_state text place name from names valued at) at ≡ answers_at text (tag_state text place name from names spaced end) end
attributes_spaced text place name from names at end le low is =
    let w = first_passes is_space text at (rw is at low) in
    valued_space text place name from names at w.0 w.1 w.2
    ∙ tag_run text place name from names spaced is_space
    (λ raw n b holds. rw (differ is_space b 62 holds space_not_more, differ is_space b 47 holds space_not_slash, holds) refl) at end le is

-- the end of the attributes
pub attributes_over : (text : List ℕ) (place : ℕ) (name : List ℕ) (from : ℕ) (names : Names) (at end : ℕ) → from ≤ at → at ≤ end → end ≡ run_end is_space text at → EndsStartTag text end → answers_at text (tag_state text place name from names valued at) at ≡ answers_at text (tag_state text place name from names spaced end) end
attributes_over text place name from names at end le above is ends = by_run (prefix_len is_space (drop at text)) is
  where
    by_run : (k : ℕ) → end ≡ at + k → answers_at text (tag_state text place name from names valued at) at ≡ answers_at text (tag_state text place name from names spaced end) end
    by_run zero e =
        let same : end ≡ at = omega arith in
        rw same (valued_end text place name from names at (rw same at ends))
    by_run (suc k) e = attributes_spaced text place name from names at end le (omega arith) is

-- neither white space nor the tag's end behind its name or a value
pub attributes_off : (text : List ℕ) (place : ℕ) (name : List ℕ) (from : ℕ) (names : Names) (at end : ℕ) → end ≡ at → end ≡ run_end is_space text at → EndsNoTag text end → answers_at text (tag_state text place name from names valued at) at ≡ form end ∷ []
attributes_off text place name from names at end same is none =
    refused text (tag_state text place name from names valued at) at (λ _. refl)
    (λ b stand. let more : eqb b 62 ≡ false = other_byte text at b 62 stand (rw same at none.0) in
    let slash : eqb b 47 ≡ false = other_byte text at b 47 stand (rw same at none.1) in
    let space : is_space b ≡ false = fails_there is_space text at b stand (rw same at (stops_at is_space text at end is)) in
    rw (more, slash, space) refl)
    ∙ ap (λ n. form n ∷ []) (sym same)

name_turn : (text : List ℕ) (place from : ℕ) (names : Names) (at b : ℕ) → from ≤ at → StandsAt text at b → is_name_byte b ≡ true → step (in_name place (slice_range text from at) names) at b ≡ on [] (in_name place (slice_range text from (at + 1)) names)
name_turn text place from names at b le stand holds =
    rw (differ is_name_byte b 62 holds in_name_not_more, differ is_name_byte b 47 holds in_name_not_slash, holds)
    (ap (λ name. on [] (in_name place name names)) (sym (slice_more text from at b le stand)))

named_valued : (place : ℕ) (name : List ℕ) (names : Names) (at b : ℕ) → is_name_byte b ≡ false → step (in_name place name names) at b ≡ step (in_tag valued place name [] names) at b
named_valued place name names at b none = rw none (by_space (is_space b))
  where
    by_space : (t : Bool) → cond (eqb b 62) (on (start place name [] ∷ []) (between (within name names))) (cond (eqb b 47) (on [] (slashed at place name [] names)) (cond t (on [] (in_tag spaced place name (b ∷ []) names)) off)) ≡ cond (eqb b 62) (on (start place name [] ∷ []) (between (within name names))) (cond (eqb b 47) (on [] (slashed at place name [] names)) (tag_turn (cond t (spot_on spaced) spot_off) place name ([] ++ b ∷ []) names))
    by_space true = refl
    by_space false = refl

-- a start tag's name
pub name_opened : (text : List ℕ) (s : State) (place : ℕ) (names : Names) (at end : ℕ) → IsOpened text s place names at → NameEnds text at (Ok end) → answers_at text s at ≡ answers_at text (tag_state text place (slice_range text at end) end names valued end) end
name_opened text s place names at end opened is =
    let more : begins_name is.0 ≡ true = is.2 in
    let above : at ≤ at + 1 = omega arith in
    let here : at ≤ at = omega arith in
    let one : slice_range text at (at + 1) ≡ is.0 ∷ [] = slice_more text at at is.0 here is.1 ∙ ap (λ xs. xs ++ is.0 ∷ []) (slice_none text at) in
    left_on text s (in_name place (is.0 ∷ []) names) at is.0 [] is.1 (opened.turns is.0 is.1 ∙ rw more refl)
    ∙ (ap (λ name. answers_at text (in_name place name names) (at + 1)) (sym one)
    ∙ (run_left text is_name_byte (λ n. in_name place (slice_range text at n) names) at (λ n b le stand holds. name_turn text place at names n b le stand holds) (at + 1) above
    ∙ (ap (λ n. answers_at text (in_name place (slice_range text at n) names) n) (sym is.3)
    ∙ (alike text (in_name place (slice_range text at end) names) (in_tag valued place (slice_range text at end) [] names) end (λ _. refl)
    (λ b stand. named_valued place (slice_range text at end) names end b (fails_there is_name_byte text end b stand (stops_at is_name_byte text (at + 1) end is.3)))
    ∙ ap (λ raw. answers_at text (in_tag valued place (slice_range text at end) raw names) end) (sym (slice_none text end))))))

-- no name begins there
pub name_missing : (text : List ℕ) (s : State) (place : ℕ) (names : Names) (at p : ℕ) → IsOpened text s place names at → NameEnds text at (Err p) → answers_at text s at ≡ form p ∷ []
name_missing text s place names at p opened is =
    refused text s at opened.ends
    (λ b stand. opened.turns b stand ∙ (let begins : begins_name b ≡ false = fails_there begins_name text at b stand is.1 in rw begins refl))
    ∙ ap (λ n. form n ∷ []) (sym is.0)

-- `>` behind the attributes
pub tag_over : (text : List ℕ) (place : ℕ) (name : List ℕ) (from : ℕ) (names : Names) (at : ℕ) → StandsAt text at 62 → answers_at text (tag_state text place name from names spaced at) at ≡ start place name (slice_range text from at) ∷ answers_at text (between (within name names)) (at + 1)
tag_over text place name from names at stand =
    left_on text (tag_state text place name from names spaced at) (between (within name names)) at 62 (start place name (slice_range text from at) ∷ []) stand refl

-- `/` there
pub tag_slashed : (text : List ℕ) (place : ℕ) (name : List ℕ) (from : ℕ) (names : Names) (at : ℕ) → StandsAt text at 47 → answers_at text (tag_state text place name from names spaced at) at ≡ answers_at text (slashed at place name (slice_range text from at) names) (at + 1)
tag_slashed text place name from names at stand =
    left_on text (tag_state text place name from names spaced at) (slashed at place name (slice_range text from at) names) at 47 [] stand refl

two_on : (at : ℕ) → at + 1 + 1 ≡ at + 2
two_on at = omega arith

-- and `>` behind it
pub empty_over : (text : List ℕ) (slash place : ℕ) (name raw : List ℕ) (names : Names) → StandsAt text (slash + 1) 62 → answers_at text (slashed slash place name raw names) (slash + 1) ≡ start place name raw ∷ stop slash ∷ answers_at text (between (level_of_names names)) (slash + 2)
empty_over text slash place name raw names stand =
    left_on text (slashed slash place name raw names) (between (level_of_names names)) (slash + 1) 62 (start place name raw ∷ stop slash ∷ []) stand refl
    ∙ ap (λ n. start place name raw ∷ stop slash ∷ answers_at text (between (level_of_names names)) n) (two_on slash)

-- or something else
pub empty_off : (text : List ℕ) (slash place : ℕ) (name raw : List ℕ) (names : Names) (p : ℕ) → (p ≡ slash + 1) × BeginsWithout 62 (drop (slash + 1) text) → answers_at text (slashed slash place name raw names) (slash + 1) ≡ form p ∷ []
empty_off text slash place name raw names p is =
    refused text (slashed slash place name raw names) (slash + 1) (λ _. refl)
    (λ b stand. let more : eqb b 62 ≡ false = other_byte text (slash + 1) b 62 stand is.1 in rw more refl)
    ∙ ap (λ n. form n ∷ []) (sym is.0)

-- the name of an end tag
pub await_closing : (text : List ℕ) (place : ℕ) (names : Names) (at : ℕ) → Await text (λ xs _. closing place xs names) at
await_closing text place names at = record { turns = λ c more n b le stand. refl; ends = λ c more n. refl }

-- the white space behind it
pub closing_spaced : (text : List ℕ) (place : ℕ) (names : Names) (at end : ℕ) → end ≡ run_end is_space text at → answers_at text (closing place [] names) at ≡ answers_at text (closed place names) end
closing_spaced text place names at end is =
    alike text (closing place [] names) (closed place names) at (λ _. refl) (λ b stand. refl)
    ∙ (run_left text is_space (λ _. closed place names) 0 (λ n b _ stand holds. rw (differ is_space b 62 holds space_not_more, holds) refl) at (omega arith)
    ∙ ap (λ n. answers_at text (closed place names) n) (sym is))

-- and its `>`
pub closed_by : (text : List ℕ) (place : ℕ) (name : List ℕ) (names : Names) (at behind : ℕ) (r : Result ℕ ℕ) → answers_at text (closing place name names) at ≡ answers_at text (closed place names) behind → FailsFirst is_space (drop behind text) → IsPast text behind 62 r → ClosesTag text place name names at r
closed_by text place name names at behind (Ok end) e fails is =
    e ∙ (left_on text (closed place names) (between (level_of_names names)) behind 62 (stop place ∷ []) is.1 refl
    ∙ ap (λ n. stop place ∷ answers_at text (between (level_of_names names)) n) (sym is.0))
closed_by text place name names at behind (Err p) e fails is =
    e ∙ (refused text (closed place names) behind (λ _. refl)
    (λ b stand. let more : eqb b 62 ≡ false = other_byte text behind b 62 stand is.1 in
    let space : is_space b ≡ false = fails_there is_space text behind b stand fails in
    rw (more, space) refl)
    ∙ ap (λ n. form n ∷ []) (sym is.0))

-- where the attributes end and no `>` stands, a `/` does
pub slash_there : (text : List ℕ) (at : ℕ) → EndsStartTag text at → BeginsWithout 62 (drop at text) → StandsAt text at 47
slash_there text at (inl more) bare = absurd ((let other = rw more at bare in other) refl)
slash_there text at (inr slash) bare = slash

-- the attributes end within the text
pub ends_low : (text : List ℕ) (at : ℕ) → EndsStartTag text at → at < length text
ends_low text at (inl more) = stands_within text at 62 more
ends_low text at (inr slash) = stands_within text at 47 slash

-- a name ends before a byte of ASCII
pub name_before_ascii : (text : List ℕ) (at end : ℕ) → end ≡ run_end is_name_byte text at → end < length text → AsciiAt text end
name_before_ascii text at end is low =
    elim (at_place text end) as (λ _. AsciiAt text end) [
      | inl e ↦ absurd (let none : length (drop end text) ≡ 0 = ap length e in
          let n : length (drop end text) ≡ length text - end = length-drop end text in
          omega arith)
      | inr w ↦ (w.0, w.1, no_name_low w.0 (fails_there is_name_byte text end w.0 w.1 (stops_at is_name_byte text at end is)))
    ]
