use Rattle.std.proofs.Common.{◌≡◌, ◌≤◌, ◌-◌, ◌+◌, ◌&&◌, ℕ, List, [], ◌∷◌, ◌++◌, length, take, drop, refl, sym, ◌∙◌, ap, subst, arith, Bool, true, false, Option, Some, Result, Ok, Err, take_all}
use Rattle.std.specs.Prelude.{OnOk}
use Rattle.std.specs.List.{list_all}
use Rattle.std.specs.Str.{is_utf8}
use Rattle.std.proofs.lemmas.List.{length-append, map_push}
use Rattle.std.proofs.lemmas.List.Folds.{list_all-append}
use Rattle.secret_core.specs.Secret.{SecretBuffer}
use Rattle.cli_messages.specs.Phases.{RefusesAskedStream, RefusesStream, ReturnsAskedStream, StreamAnswer, TellsStream}
use Rattle.cli_messages.specs.declared.answers.Stop.{Stop}
use Rattle.cli_needs.specs.Needs.{is_filled}
use Rattle.cli_lines.specs.Lines.{field_lines, line_of}
use Rattle.cli_lines.specs.SeenLines.{values_seen}
use Rattle.cli_lines.proofs.Inputs.{asked_stops, first_stops, kept_later, later_returns, left_so, stops_later, told_by}
use Rattle.cli_lines.proofs.lines.+read_fields.Goals as goal

-- the names after the first
abbrev after_first : List (List ℕ) → List (List ℕ)
after_first names = take (length names - 1) (drop 1 names)

rest_is : (name : List ℕ) (names : List (List ℕ)) → after_first (name ∷ names) ≡ names
rest_is name names = take_all (length (name ∷ names) - 1) names (omega arith)

values_push : (old pushed : List SecretBuffer) (line : SecretBuffer) → pushed ≡ old ++ line ∷ [] → values_seen pushed ≡ values_seen old ++ line.bytes ∷ []
values_push old pushed line is = ap values_seen is ∙ map_push (λ line. line.bytes) old line

asked_of : (names : List (List ℕ)) (before : Option (List ℕ)) (input : List ℕ) → 1 ≤ length names → TellsStream (is_filled names) before input
    → before ≡ Some input
asked_of [] before input some t = absurd (omega (arith, some))
asked_of (name ∷ names) before input some t = told_by true before input refl t

tells_left : (asked : Bool) (mid : Option (List ℕ)) (left : List ℕ) → mid ≡ Some left → TellsStream asked mid left
tells_left asked mid left is = subst (λ (n : Option (List ℕ)). TellsStream asked n left) (sym is) refl

given_more : {X : Type 0} (result : Result X Stop) (names old pushed new : List (List ℕ)) (line : List ℕ) → 1 ≤ length names → pushed ≡ old ++ line ∷ []
    → OnOk result (length new ≡ length pushed + length (after_first names)) → OnOk result (length new ≡ length old + length names)
given_more result [] old pushed new line some is h = absurd (omega (arith, some))
given_more (Ok x) (name ∷ names) old pushed new line some is h =
    omega (arith, h, ap length is, length-append old (line ∷ []), ap length (rest_is name names))
given_more (Err stop) (name ∷ names) old pushed new line some is h = tt

and_nothing : (b : Bool) → (b && true) ≡ b
and_nothing true = refl
and_nothing false = refl

text_more : {X : Type 0} (result : Result X Stop) (old pushed new : List (List ℕ)) (line : List ℕ) → pushed ≡ old ++ line ∷ [] → is_utf8 line ≡ true
    → OnOk result (list_all is_utf8 new ≡ list_all is_utf8 pushed) → OnOk result (list_all is_utf8 new ≡ list_all is_utf8 old)
text_more (Ok x) old pushed new line is text h =
    h
    ∙ ap (list_all is_utf8) is
    ∙ list_all-append is_utf8 old (line ∷ [])
    ∙ ap (λ (b : Bool). list_all is_utf8 old && (b && true)) text
    ∙ and_nothing (list_all is_utf8 old)
text_more (Err stop) old pushed new line is text h = tt

told_more : {X : Type 0} (result : Result X Stop) (names : List (List ℕ)) (number next : ℕ) (old pushed new : List (List ℕ)) (line : List ℕ)
    (before mid now : Option (List ℕ)) (input : List ℕ) → 1 ≤ length names → next ≡ number + 1 → pushed ≡ old ++ line ∷ [] → before ≡ Some input
    → (line_of number input).answer ≡ Ok line → mid ≡ Some (line_of number input).left
    → ReturnsAskedStream (λ x. new) result mid now (field_lines (after_first names) next pushed (line_of number input).left)
    → ReturnsAskedStream (λ x. new) result before now (field_lines names number old input)
told_more result [] number next old pushed new line before mid now input some n p e answer is h = absurd (omega (arith, some))
told_more result (name ∷ names) number next old pushed new line before mid now input some n p e answer is h =
    let left = (line_of number input).left in
    let same : field_lines (after_first (name ∷ names)) next pushed left ≡ field_lines names (number + 1) (old ++ line ∷ []) left =
    ap (λ (ns : List (List ℕ)). field_lines ns next pushed left) (rest_is name names)
    ∙ ap (λ (k : ℕ). field_lines names k pushed left) n
    ∙ ap (λ (ls : List (List ℕ)). field_lines names (number + 1) ls left) p in
    later_returns (λ x. new) result before mid now (line_of number input) line (λ l end. field_lines names (number + 1) (old ++ l ∷ []) end) answer
    (left_so before mid input left e is)
    (subst (λ (t : StreamAnswer (List (List ℕ))). ReturnsAskedStream (λ x. new) result mid now t) same h)

told_stop : (stop : Stop) (names : List (List ℕ)) (number : ℕ) (old : List (List ℕ)) (before now : Option (List ℕ)) (input : List ℕ) → 1 ≤ length names
    → before ≡ Some input → RefusesStream stop now (line_of number input) → RefusesAskedStream stop before now (field_lines names number old input)
told_stop stop [] number old before now input some e h = absurd (omega (arith, some))
told_stop stop (name ∷ names) number old before now input some e h =
    first_stops stop before now (line_of number input) (λ l end. field_lines names (number + 1) (old ++ l ∷ []) end)
    (asked_stops stop before now input (line_of number input) e h)

pub returns-clause-told : goal.returns-clause-told
returns-clause-told g t c = λ truthful i tells.
    let asked = asked_of c.args.names.now _ i c.in-len1-up.len_at_least tells in
    let first = c.in_ok-line.ensures.told (c.read_fields.ensures.truthful truthful) i asked in
    let left = (line_of c.args.number i).left in
    told_more c.read_fields.result c.args.names.now c.args.number c.in-Ok.next (values_seen c.args.lines.now) (values_seen c.push.new.self)
    (values_seen c.read_fields.new.lines) c.in_ok-line.line.bytes _ _ _ i c.in-len1-up.len_at_least c.in-Ok.ensures
    (values_push c.args.lines.now c.push.new.self c.in_ok-line.line c.in_default-push.ensures.ok) asked first.0 first.1
    (c.read_fields.ensures.told truthful left (tells_left (is_filled (after_first c.args.names.now)) _ left first.1))

pub returns-clause-given : goal.returns-clause-given
returns-clause-given g t c =
    given_more c.read_fields.result c.args.names.now (values_seen c.args.lines.now) (values_seen c.push.new.self) (values_seen c.read_fields.new.lines)
    c.in_ok-line.line.bytes c.in-len1-up.len_at_least
    (values_push c.args.lines.now c.push.new.self c.in_ok-line.line c.in_default-push.ensures.ok) c.read_fields.ensures.given

pub returns-clause-text : goal.returns-clause-text
returns-clause-text g t c =
    text_more c.read_fields.result (values_seen c.args.lines.now) (values_seen c.push.new.self) (values_seen c.read_fields.new.lines)
    c.in_ok-line.line.bytes (values_push c.args.lines.now c.push.new.self c.in_ok-line.line c.in_default-push.ensures.ok)
    c.in_ok-line.ensures.text c.read_fields.ensures.text

pub returns-clause-cause : goal.returns-clause-cause
returns-clause-cause g t c = stops_later c.read_fields.result _ _ _ c.in_ok-line.ensures.faults c.read_fields.ensures.cause

pub returns-clause-faultless : goal.returns-clause-faultless
returns-clause-faultless g t c = kept_later c.read_fields.result _ _ _ c.in_ok-line.ensures.faultless c.read_fields.ensures.faultless
