-- How the reader goes over start tags, end tags and runs of text.
use Rattle.std.proofs.Common.{◌≡◌, ℕ, ◌+◌, Bool, true, false, eqb, cond, List, [], ◌∷◌, ◌++◌, length, refl, ap, sym, ◌∙◌, subst, append_assoc, append-nil, length-append, arith, eqb-true, rules}
use Rattle.std.proofs.lemmas.Bool.{false_from_ne_true}
use Rattle.markup_grammar.specs.Answers.{start, words, stop}
use Rattle.markup_grammar.specs.Bytes.{is_space, begins_name, is_name_byte, is_text, AllAre, IsName}
use Rattle.markup_grammar.specs.Machine.{Level, before, within, behind, Names, Ref, begun, RefTurn, ref_on, ref_ends, ref_off, ref_step, Spot, spaced, naming, named, equalled, valuing, referring, valued, SpotTurn, spot_on, spot_off, spot_step, on, off, step, tag_turn, in_run, or_ends, between, opened, in_name, in_tag, in_words, in_reference, slashed, closing, closed, level_of_names, answers_of_turn, answers_from}
use Rattle.markup_grammar.specs.References.{reference_body}
use Rattle.markup_grammar.specs.Runs.{Bit, plain, reference, spelled_bits, AreBits, IsRun}
use Rattle.markup_grammar.specs.Tags.{IsTagText}
use Rattle.markup_grammar.specs.Tree.{words_at}
use Rattle.markup_grammar.proofs.Classes.{space_not_close, begins_not_close, begins_not_slash, begins_not_bang, begins_not_question, name_not_close, name_not_slash, text_not_open, text_not_and, space_not_slash, space_not_name}
use Rattle.markup_grammar.proofs.Edges.{MayEnd}
use Rattle.markup_grammar.proofs.Refs.{turn_ends, RefEnds, reference_ends}
use Rattle.markup_grammar.proofs.Spots.{turn_leads, Leads, tag_text_leads}
use Rattle.markup_grammar.proofs.Steps.{differ, step_on, at_place, on_bytes, run_on}

-- the names of the elements that are open
abbrev pub open_names : Level → Names
open_names before = []
open_names (within name names) = name ∷ names
open_names behind = []

-- an element may begin
abbrev pub IsOpen : Level → Type 0
IsOpen behind = ⊥
IsOpen _ = Unit {0}

-- a byte that goes on is none that ends a tag
not_end : (s next : Spot) (b c : ℕ) → spot_step s c ≡ spot_off → spot_step s b ≡ spot_on next → eqb b c ≡ false
not_end s next b c stops goes =
    false_from_ne_true (eqb b c) (λ same. clash (sym (ap (λ n. spot_step s n) (eqb-true b c same) ∙ stops) ∙ goes))
  where
    clash : spot_off ≡ spot_on next → ⊥
    clash e = cc

-- a step of the attributes
pub spot_goes : (s next : Spot) (place : ℕ) (name raw : List ℕ) (names : Names) (at b : ℕ) → spot_step s b ≡ spot_on next → step (in_tag s place name raw names) at b ≡ on [] (in_tag next place name (raw ++ b ∷ []) names)
spot_goes spaced next place name raw names at b goes =
    rw (not_end spaced next b 62 (rw (space_not_close, begins_not_close) refl) goes, not_end spaced next b 47 (rw (space_not_slash, begins_not_slash) refl) goes)
    (ap (λ t. tag_turn t place name (raw ++ b ∷ []) names) goes)
spot_goes valued next place name raw names at b goes =
    rw (not_end valued next b 62 (rw space_not_close refl) goes, not_end valued next b 47 (rw space_not_slash refl) goes)
    (ap (λ t. tag_turn t place name (raw ++ b ∷ []) names) goes)
spot_goes naming next place name raw names at b goes = ap (λ t. tag_turn t place name (raw ++ b ∷ []) names) goes
spot_goes named next place name raw names at b goes = ap (λ t. tag_turn t place name (raw ++ b ∷ []) names) goes
spot_goes equalled next place name raw names at b goes = ap (λ t. tag_turn t place name (raw ++ b ∷ []) names) goes
spot_goes (valuing quote) next place name raw names at b goes = ap (λ t. tag_turn t place name (raw ++ b ∷ []) names) goes
spot_goes (referring quote r) next place name raw names at b goes = ap (λ t. tag_turn t place name (raw ++ b ∷ []) names) goes

-- bytes that lead from one spot to another
pub tag_on : (bytes : List ℕ) (s t : Spot) (place : ℕ) (name raw : List ℕ) (names : Names) (rest : List ℕ) (at : ℕ) → Leads bytes s t → answers_from (in_tag s place name raw names) at (bytes ++ rest) ≡ answers_from (in_tag t place name (raw ++ bytes) names) (at + length bytes) rest
tag_on [] s t place name raw names rest at same =
    ap (λ x. answers_from (in_tag x place name raw names) at rest) same
    ∙ (ap (λ xs. answers_from (in_tag t place name xs names) at rest) (sym (append-nil raw)) ∙ at_place (in_tag t place name (raw ++ []) names) at (at + 0) rest (omega arith))
tag_on (b ∷ bytes) s t place name raw names rest at leads =
    by_turn (spot_step s b) refl (λ next g. tag_on bytes next t place name (raw ++ b ∷ []) names rest (at + 1) g) leads
  where
    by_turn : (turn : SpotTurn) → spot_step s b ≡ turn → ((next : Spot) → Leads bytes next t → answers_from (in_tag next place name (raw ++ b ∷ []) names) (at + 1) (bytes ++ rest) ≡ answers_from (in_tag t place name ((raw ++ b ∷ []) ++ bytes) names) (at + 1 + length bytes) rest) → turn_leads turn (λ next. Leads bytes next t) → answers_from (in_tag s place name raw names) at (b ∷ (bytes ++ rest)) ≡ answers_from (in_tag t place name (raw ++ (b ∷ bytes)) names) (at + length (b ∷ bytes)) rest
    by_turn (spot_on next) goes further h =
        run_on (in_tag s place name raw names) (in_tag next place name (raw ++ b ∷ []) names) (in_tag t place name (raw ++ (b ∷ bytes)) names) at b bytes rest
        (spot_goes s next place name raw names at b goes)
        (further next h ∙ ap (λ xs. answers_from (in_tag t place name xs names) (at + 1 + length bytes) rest) (append_assoc raw (b ∷ []) bytes))
    by_turn spot_off goes further h = absurd h

same_turn : (test : Bool) (place : ℕ) (name : List ℕ) (b : ℕ) (names : Names) → cond test (on [] (in_tag spaced place name (b ∷ []) names)) off ≡ tag_turn (cond test (spot_on spaced) spot_off) place name (b ∷ []) names
same_turn true place name b names = refl
same_turn false place name b names = refl

-- behind a name a tag goes on as behind an attribute
pub as_valued : (place : ℕ) (name : List ℕ) (names : Names) (at b : ℕ) (rest : List ℕ) → is_name_byte b ≡ false → answers_from (in_name place name names) at (b ∷ rest) ≡ answers_from (in_tag valued place name [] names) at (b ∷ rest)
unfolding answers_from
as_valued place name names at b rest other =
    rw other (ap (λ t. answers_of_turn (or_ends at b place name [] names t) at (λ next. answers_from next (at + 1) rest)) (same_turn (is_space b) place name b names))

-- the text of a tag, up to the byte that ends it
tag_text_on : (raw : List ℕ) (e : ℕ) (place : ℕ) (name : List ℕ) (names : Names) (rest : List ℕ) (at : ℕ) (t : Spot) → is_name_byte e ≡ false → Leads raw valued t → answers_from (in_name place name names) at (raw ++ (e ∷ rest)) ≡ answers_from (in_tag t place name raw names) (at + length raw) (e ∷ rest)
tag_text_on [] e place name names rest at t other leads =
    as_valued place name names at e rest other ∙ tag_on [] valued t place name [] names (e ∷ rest) at leads
tag_text_on (b ∷ raw) e place name names rest at t other leads =
    as_valued place name names at b (raw ++ (e ∷ rest)) (by_space (is_space b) refl leads) ∙ tag_on (b ∷ raw) valued t place name [] names (e ∷ rest) at leads
  where
    by_space : (test : Bool) → is_space b ≡ test → turn_leads (cond test (spot_on spaced) spot_off) (λ next. Leads raw next t) → is_name_byte b ≡ false
    by_space true blank h = space_not_name b blank
    by_space false blank h = absurd h

ends_here : (t : Spot) (place : ℕ) (name raw : List ℕ) (names : Names) (at : ℕ) → MayEnd t → step (in_tag t place name raw names) at 62 ≡ on (start place name raw ∷ []) (between (within name names))
ends_here spaced place name raw names at may = refl
ends_here valued place name raw names at may = refl
ends_here naming place name raw names at may = absurd may
ends_here named place name raw names at may = absurd may
ends_here equalled place name raw names at may = absurd may
ends_here (valuing quote) place name raw names at may = absurd may
ends_here (referring quote r) place name raw names at may = absurd may

slash_here : (t : Spot) (place : ℕ) (name raw : List ℕ) (names : Names) (at : ℕ) → MayEnd t → step (in_tag t place name raw names) at 47 ≡ on [] (slashed at place name raw names)
slash_here spaced place name raw names at may = refl
slash_here valued place name raw names at may = refl
slash_here naming place name raw names at may = absurd may
slash_here named place name raw names at may = absurd may
slash_here equalled place name raw names at may = absurd may
slash_here (valuing quote) place name raw names at may = absurd may
slash_here (referring quote r) place name raw names at may = absurd may

-- a start tag behind its name
pub start_ends : (raw : List ℕ) (place : ℕ) (name : List ℕ) (names : Names) (rest : List ℕ) (at : ℕ) → IsTagText raw → answers_from (in_name place name names) at (raw ++ (62 ∷ rest)) ≡ start place name raw ∷ answers_from (between (within name names)) (at + (length raw + 1)) rest
start_ends raw place name names rest at is = by_leads (tag_text_leads raw is)
  where
    by_leads : (t : Spot) × MayEnd t × Leads raw valued t → answers_from (in_name place name names) at (raw ++ (62 ∷ rest)) ≡ start place name raw ∷ answers_from (between (within name names)) (at + (length raw + 1)) rest
    by_leads (t, may, leads) =
        tag_text_on raw 62 place name names rest at t name_not_close leads
        ∙ (step_on (in_tag t place name raw names) (between (within name names)) (at + length raw) 62 rest (start place name raw ∷ []) (ends_here t place name raw names (at + length raw) may)
        ∙ ap (λ xs. start place name raw ∷ xs) (at_place (between (within name names)) (at + length raw + 1) (at + (length raw + 1)) rest (omega arith)))

-- an empty element behind its name
pub empty_ends : (raw : List ℕ) (place : ℕ) (name : List ℕ) (names : Names) (rest : List ℕ) (at : ℕ) → IsTagText raw → answers_from (in_name place name names) at (raw ++ (47 ∷ 62 ∷ rest)) ≡ start place name raw ∷ stop (at + length raw) ∷ answers_from (between (level_of_names names)) (at + (length raw + 2)) rest
empty_ends raw place name names rest at is = by_leads (tag_text_leads raw is)
  where
    by_leads : (t : Spot) × MayEnd t × Leads raw valued t → answers_from (in_name place name names) at (raw ++ (47 ∷ 62 ∷ rest)) ≡ start place name raw ∷ stop (at + length raw) ∷ answers_from (between (level_of_names names)) (at + (length raw + 2)) rest
    by_leads (t, may, leads) =
        tag_text_on raw 47 place name names (62 ∷ rest) at t name_not_slash leads
        ∙ (step_on (in_tag t place name raw names) (slashed (at + length raw) place name raw names) (at + length raw) 47 (62 ∷ rest) [] (slash_here t place name raw names (at + length raw) may)
        ∙ (step_on (slashed (at + length raw) place name raw names) (between (level_of_names names)) (at + length raw + 1) 62 rest (start place name raw ∷ stop (at + length raw) ∷ []) refl
        ∙ ap (λ xs. start place name raw ∷ stop (at + length raw) ∷ xs) (at_place (between (level_of_names names)) (at + length raw + 1 + 1) (at + (length raw + 2)) rest (omega arith))))

-- a `<` and the first byte of a name
pub begins_here : (place : ℕ) (level : Level) (at b : ℕ) → IsOpen level → begins_name b ≡ true → step (opened place level) at b ≡ on [] (in_name place (b ∷ []) (open_names level))
begins_here place before at b is h = rw (differ begins_name b 33 h begins_not_bang, differ begins_name b 63 h begins_not_question, h) refl
begins_here place (within name names) at b is h = rw (differ begins_name b 33 h begins_not_bang, differ begins_name b 63 h begins_not_question, differ begins_name b 47 h begins_not_slash, h) refl
begins_here place behind at b is h = absurd is

name_step : (place : ℕ) (name : List ℕ) (names : Names) (at b : ℕ) → is_name_byte b ≡ true → step (in_name place name names) at b ≡ on [] (in_name place (name ++ b ∷ []) names)
name_step place name names at b h = rw (differ is_name_byte b 62 h name_not_close, differ is_name_byte b 47 h name_not_slash, h) refl

-- bytes of a start tag's name
names_on : (place : ℕ) (acc : List ℕ) (names : Names) (bytes rest : List ℕ) (at : ℕ) → AllAre is_name_byte bytes → answers_from (in_name place acc names) at (bytes ++ rest) ≡ answers_from (in_name place (acc ++ bytes) names) (at + length bytes) rest
names_on place acc names [] rest at all =
    ap (λ a. answers_from (in_name place a names) at rest) (sym (append-nil acc)) ∙ at_place (in_name place (acc ++ []) names) at (at + 0) rest (omega arith)
names_on place acc names (b ∷ bytes) rest at all =
    run_on (in_name place acc names) (in_name place (acc ++ b ∷ []) names) (in_name place (acc ++ (b ∷ bytes)) names) at b bytes rest
    (name_step place acc names at b all.0)
    (names_on place (acc ++ b ∷ []) names bytes rest (at + 1) all.1
    ∙ ap (λ a. answers_from (in_name place a names) (at + 1 + length bytes) rest) (append_assoc acc (b ∷ []) bytes))

-- behind a `<`, a name
pub name_on : (place : ℕ) (level : Level) (name rest : List ℕ) (at : ℕ) → IsOpen level → IsName name → answers_from (opened place level) at (name ++ rest) ≡ answers_from (in_name place name (open_names level)) (at + length name) rest
name_on place level [] rest at is is_name = absurd is_name
name_on place level (b ∷ bytes) rest at is is_name =
    run_on (opened place level) (in_name place (b ∷ []) (open_names level)) (in_name place (b ∷ bytes) (open_names level)) at b bytes rest
    (begins_here place level at b is is_name.0)
    (names_on place (b ∷ []) (open_names level) bytes rest (at + 1) is_name.1)

eqb_self : (b : ℕ) → eqb b b ≡ true
eqb_self b = search rules

-- an end tag's name
closing_on : (place : ℕ) (names : Names) (bytes rest : List ℕ) (at : ℕ) → answers_from (closing place bytes names) at (bytes ++ rest) ≡ answers_from (closing place [] names) (at + length bytes) rest
closing_on place names [] rest at = at_place (closing place [] names) at (at + 0) rest (omega arith)
closing_on place names (b ∷ bytes) rest at =
    run_on (closing place (b ∷ bytes) names) (closing place bytes names) (closing place [] names) at b bytes rest (rw (eqb_self b) refl) (closing_on place names bytes rest (at + 1))

-- white space in an end tag, and its `>`
closed_on : (place : ℕ) (names : Names) (space rest : List ℕ) (at : ℕ) → AllAre is_space space → answers_from (closed place names) at (space ++ (62 ∷ rest)) ≡ stop place ∷ answers_from (between (level_of_names names)) (at + (length space + 1)) rest
closed_on place names [] rest at all =
    step_on (closed place names) (between (level_of_names names)) at 62 rest (stop place ∷ []) refl
    ∙ ap (λ xs. stop place ∷ xs) (at_place (between (level_of_names names)) (at + 1) (at + (0 + 1)) rest (omega arith))
closed_on place names (b ∷ space) rest at all =
    let blank : is_space b ≡ true = all.0 in
    step_on (closed place names) (closed place names) at b (space ++ (62 ∷ rest)) [] (rw (differ is_space b 62 blank space_not_close, blank) refl)
    ∙ (closed_on place names space rest (at + 1) all.1
    ∙ ap (λ xs. stop place ∷ xs) (at_place (between (level_of_names names)) (at + 1 + (length space + 1)) (at + (length (b ∷ space) + 1)) rest (omega arith)))

-- an end tag behind its name
end_space_on : (place : ℕ) (names : Names) (space rest : List ℕ) (at : ℕ) → AllAre is_space space → answers_from (closing place [] names) at (space ++ (62 ∷ rest)) ≡ stop place ∷ answers_from (between (level_of_names names)) (at + (length space + 1)) rest
end_space_on place names [] rest at all =
    step_on (closing place [] names) (between (level_of_names names)) at 62 rest (stop place ∷ []) refl
    ∙ ap (λ xs. stop place ∷ xs) (at_place (between (level_of_names names)) (at + 1) (at + (0 + 1)) rest (omega arith))
end_space_on place names (b ∷ space) rest at all =
    let blank : is_space b ≡ true = all.0 in
    step_on (closing place [] names) (closed place names) at b (space ++ (62 ∷ rest)) [] (rw (differ is_space b 62 blank space_not_close, blank) refl)
    ∙ (closed_on place names space rest (at + 1) all.1
    ∙ ap (λ xs. stop place ∷ xs) (at_place (between (level_of_names names)) (at + 1 + (length space + 1)) (at + (length (b ∷ space) + 1)) rest (omega arith)))

-- the rest of an end tag
pub end_on : (place : ℕ) (name : List ℕ) (names : Names) (space rest : List ℕ) (at : ℕ) → AllAre is_space space → answers_from (closing place name names) at (name ++ (space ++ (62 ∷ rest))) ≡ stop place ∷ answers_from (between (level_of_names names)) (at + (length name + (length space + 1))) rest
end_on place name names space rest at all =
    closing_on place names name (space ++ (62 ∷ rest)) at
    ∙ (end_space_on place names space rest (at + length name) all
    ∙ ap (λ xs. stop place ∷ xs) (at_place (between (level_of_names names)) (at + length name + (length space + 1)) (at + (length name + (length space + 1))) rest (omega arith)))

-- the rest of a reference in a run of text
refers_on : (bytes : List ℕ) (r : Ref) (place : ℕ) (raw name : List ℕ) (names : Names) (rest : List ℕ) (at : ℕ) → RefEnds bytes r → answers_from (in_reference r place raw name names) at (bytes ++ rest) ≡ answers_from (in_words place (raw ++ bytes) name names) (at + length bytes) rest
refers_on [] r place raw name names rest at h = absurd h
refers_on (b ∷ bytes) r place raw name names rest at h =
    by_turn (ref_step r b) refl (λ next g. refers_on bytes next place (raw ++ b ∷ []) name names rest (at + 1) g) h
  where
    by_turn : (turn : RefTurn) → ref_step r b ≡ turn → ((next : Ref) → RefEnds bytes next → answers_from (in_reference next place (raw ++ b ∷ []) name names) (at + 1) (bytes ++ rest) ≡ answers_from (in_words place ((raw ++ b ∷ []) ++ bytes) name names) (at + 1 + length bytes) rest) → turn_ends turn bytes (λ next. RefEnds bytes next) → answers_from (in_reference r place raw name names) at (b ∷ (bytes ++ rest)) ≡ answers_from (in_words place (raw ++ (b ∷ bytes)) name names) (at + length (b ∷ bytes)) rest
    by_turn (ref_on next) goes further g =
        run_on (in_reference r place raw name names) (in_reference next place (raw ++ b ∷ []) name names) (in_words place (raw ++ (b ∷ bytes)) name names) at b bytes rest
        (ap (λ t. in_run t place (raw ++ b ∷ []) name names) goes)
        (further next g ∙ ap (λ xs. answers_from (in_words place xs name names) (at + 1 + length bytes) rest) (append_assoc raw (b ∷ []) bytes))
    by_turn ref_ends goes further g =
        let P : List ℕ → Type 0 = λ xs. answers_from (in_reference r place raw name names) at (b ∷ (xs ++ rest)) ≡ answers_from (in_words place (raw ++ (b ∷ xs)) name names) (at + length (b ∷ xs)) rest in
        subst P (sym g)
        (run_on (in_reference r place raw name names) (in_words place (raw ++ b ∷ []) name names) (in_words place (raw ++ b ∷ []) name names) at b [] rest
        (ap (λ t. in_run t place (raw ++ b ∷ []) name names) goes)
        (at_place (in_words place (raw ++ b ∷ []) name names) (at + 1) (at + 1 + 0) rest (omega arith)))
    by_turn ref_off goes further g = absurd g

-- the body of a reference, its `;`, and what follows
body_split : (body rest more : List ℕ) → (body ++ (59 ∷ rest)) ++ more ≡ (body ++ 59 ∷ []) ++ (rest ++ more)
body_split body rest more = simp append_assoc refl

text_step : (place : ℕ) (raw name : List ℕ) (names : Names) (at b : ℕ) → is_text b ≡ true → step (in_words place raw name names) at b ≡ on [] (in_words place (raw ++ b ∷ []) name names)
text_step place raw name names at b h = rw (differ is_text b 60 h text_not_open, differ is_text b 38 h text_not_and, h) refl

text_begins : (name : List ℕ) (names : Names) (at b : ℕ) → is_text b ≡ true → step (between (within name names)) at b ≡ on [] (in_words at (b ∷ []) name names)
text_begins name names at b h = rw (differ is_text b 60 h text_not_open, differ is_text b 38 h text_not_and, h) refl

-- a run of text that has begun
bits_on : (bits : List Bit) (place : ℕ) (raw name : List ℕ) (names : Names) (rest : List ℕ) (at : ℕ) → AreBits is_text bits → answers_from (in_words place raw name names) at (spelled_bits bits ++ rest) ≡ answers_from (in_words place (raw ++ spelled_bits bits) name names) (at + length (spelled_bits bits)) rest
bits_on [] place raw name names rest at are =
    ap (λ xs. answers_from (in_words place xs name names) at rest) (sym (append-nil raw)) ∙ at_place (in_words place (raw ++ []) name names) at (at + 0) rest (omega arith)
bits_on (plain b ∷ bits) place raw name names rest at are =
    run_on (in_words place raw name names) (in_words place (raw ++ b ∷ []) name names) (in_words place (raw ++ (b ∷ spelled_bits bits)) name names) at b (spelled_bits bits) rest
    (text_step place raw name names at b are.0)
    (bits_on bits place (raw ++ b ∷ []) name names rest (at + 1) are.1
    ∙ ap (λ xs. answers_from (in_words place xs name names) (at + 1 + length (spelled_bits bits)) rest) (append_assoc raw (b ∷ []) (spelled_bits bits)))
bits_on (reference r ∷ bits) place raw name names rest at are =
    step_on (in_words place raw name names) (in_reference begun place (raw ++ 38 ∷ []) name names) at 38 _ [] refl
    ∙ (on_bytes (in_reference begun place (raw ++ 38 ∷ []) name names) (at + 1) _ _ (body_split (reference_body r) (spelled_bits bits) rest)
    ∙ (refers_on (reference_body r ++ 59 ∷ []) begun place (raw ++ 38 ∷ []) name names (spelled_bits bits ++ rest) (at + 1) (reference_ends r are.0)
    ∙ (bits_on bits place ((raw ++ 38 ∷ []) ++ (reference_body r ++ 59 ∷ [])) name names rest (at + 1 + length (reference_body r ++ 59 ∷ [])) are.1
    ∙ (ap (λ xs. answers_from (in_words place xs name names) (at + 1 + length (reference_body r ++ 59 ∷ []) + length (spelled_bits bits)) rest) (let e : ((raw ++ 38 ∷ []) ++ (reference_body r ++ 59 ∷ [])) ++ spelled_bits bits ≡ raw ++ spelled_bits (reference r ∷ bits) = simp append_assoc refl in e)
    ∙ at_place (in_words place (raw ++ spelled_bits (reference r ∷ bits)) name names) _ _ rest (let e : at + 1 + length (reference_body r ++ 59 ∷ []) + length (spelled_bits bits) ≡ at + length (spelled_bits (reference r ∷ bits)) = simp length-append (omega arith) in e)))))

-- text, and then a `<`
bits_open : (bits : List Bit) (name : List ℕ) (names : Names) (rest : List ℕ) (at : ℕ) → AreBits is_text bits → answers_from (between (within name names)) at (spelled_bits bits ++ (60 ∷ rest)) ≡ words_at at (spelled_bits bits) ++ answers_from (opened (at + length (spelled_bits bits)) (within name names)) (at + length (spelled_bits bits) + 1) rest
bits_open [] name names rest at are =
    step_on (between (within name names)) (opened at (within name names)) at 60 rest [] refl
    ∙ ap (λ n. answers_from (opened n (within name names)) (n + 1) rest) (let e : at ≡ at + 0 = omega arith in e)
bits_open (plain b ∷ bits) name names rest at are =
    run_on (between (within name names)) (in_words at (b ∷ []) name names) (in_words at (b ∷ spelled_bits bits) name names) at b (spelled_bits bits) (60 ∷ rest)
    (text_begins name names at b are.0) (bits_on bits at (b ∷ []) name names (60 ∷ rest) (at + 1) are.1)
    ∙ step_on (in_words at (b ∷ spelled_bits bits) name names) (opened (at + length (b ∷ spelled_bits bits)) (within name names)) (at + length (b ∷ spelled_bits bits)) 60 rest (words at (b ∷ spelled_bits bits) ∷ []) refl
bits_open (reference r ∷ bits) name names rest at are =
    same_as_words
    ∙ (bits_on (reference r ∷ bits) at [] name names (60 ∷ rest) at are
    ∙ step_on (in_words at (spelled_bits (reference r ∷ bits)) name names) (opened (at + length (spelled_bits (reference r ∷ bits))) (within name names)) (at + length (spelled_bits (reference r ∷ bits))) 60 rest (words at (spelled_bits (reference r ∷ bits)) ∷ []) refl)
  where
    same_as_words : answers_from (between (within name names)) at (spelled_bits (reference r ∷ bits) ++ (60 ∷ rest)) ≡ answers_from (in_words at [] name names) at (spelled_bits (reference r ∷ bits) ++ (60 ∷ rest))
    same_as_words =
        step_on (between (within name names)) (in_reference begun at (38 ∷ []) name names) at 38 _ [] refl
        ∙ sym (step_on (in_words at [] name names) (in_reference begun at (38 ∷ []) name names) at 38 _ [] refl)

-- a run of text, and then a `<`
pub text_open : (text name : List ℕ) (names : Names) (rest : List ℕ) (at : ℕ) → IsRun is_text text → answers_from (between (within name names)) at (text ++ (60 ∷ rest)) ≡ words_at at text ++ answers_from (opened (at + length text) (within name names)) (at + length text + 1) rest
text_open text name names rest at run =
    let P : List ℕ → Type 0 = λ xs. answers_from (between (within name names)) at (xs ++ (60 ∷ rest)) ≡ words_at at xs ++ answers_from (opened (at + length xs) (within name names)) (at + length xs + 1) rest in
    subst P (sym run.spells) (bits_open run.bits name names rest at run.are_bits)
