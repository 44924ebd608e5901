use Rattle.std.proofs.Common.{◌≡◌, ◌≤◌, ◌-◌, ℕ, List, [], ◌∷◌, ◌++◌, length, take, drop, map, refl, sym, ◌∙◌, ap, subst, arith, Bool, Option, Some, None, Result, Ok, Err, take_all}
use Rattle.std.specs.Prelude.{IfOk, OnOk, is_some}
use Rattle.std.proofs.lemmas.List.{map_push}
use Rattle.cli_messages.specs.Phases.{IsLeft, ReturnsAskedStream, StreamAnswer, TellsStream}
use Rattle.cli_messages.specs.declared.answers.Stop.{Stop}
use Rattle.cli_lines.specs.Lines.{line_if, lines_from, number_after, number_after_all}
use Rattle.cli_lines.specs.SeenLines.{line_seen}
use Rattle.cli_lines.proofs.Having.{one_more}
use Rattle.cli_lines.proofs.Inputs.{kept_later, later_returns, stops_later}
use Rattle.cli_lines.proofs.lines.+read_sources.Goals as goal

tells_on : (due : Bool) (before mid : Option (List ℕ)) (input left : List ℕ) → TellsStream due before input → IsLeft before mid left → TellsStream due mid left
tells_on due (Some l) mid input left t is = subst (λ (n : Option (List ℕ)). TellsStream due n left) (sym is) refl
tells_on due None mid input left t is = subst (λ (n : Option (List ℕ)). TellsStream due n left) (sym is) t

-- the names after the first
abbrev after_first : List (List ℕ) → List (List ℕ)
after_first names = take (length names - 1) (drop 1 names)

rest_is : (name : List ℕ) (names : List (List ℕ)) → after_first (name ∷ names) ≡ names
rest_is name names = take_all (length (name ∷ names) - 1) names (omega arith)

next_more : (result : Result ℕ Stop) (due : Bool) (names : List (List ℕ)) (number next : ℕ) → 1 ≤ length names → next ≡ number_after due number
    → IfOk result (λ n. n ≡ number_after_all due (after_first names) next) → IfOk result (λ n. n ≡ number_after_all due names number)
next_more result due [] number next some is h = absurd (omega (arith, some))
next_more (Ok n) due (name ∷ names) number next some is h =
    h ∙ ap (λ (ns : List (List ℕ)). number_after_all due ns next) (rest_is name names) ∙ ap (number_after_all due names) is
next_more (Err stop) due (name ∷ names) number next some is h = tt

given_more : (result : Result ℕ Stop) (due : Bool) (names : List (List ℕ)) (old pushed new : List (Option (List ℕ))) (line : Option (List ℕ)) → 1 ≤ length names
    → pushed ≡ old ++ line ∷ [] → is_some line ≡ due → OnOk result (map is_some new ≡ map is_some pushed ++ map (λ name. due) (after_first names))
    → OnOk result (map is_some new ≡ map is_some old ++ map (λ name. due) names)
given_more result due [] old pushed new line some is has h = absurd (omega (arith, some))
given_more (Ok n) due (name ∷ names) old pushed new line some is has h =
    h
    ∙ ap (λ (ls : List (Option (List ℕ))). map is_some ls ++ map (λ name. due) (after_first (name ∷ names))) is
    ∙ one_more old line due (map (λ name. due) (after_first (name ∷ names))) has
    ∙ ap (λ (ns : List (List ℕ)). map is_some old ++ due ∷ map (λ name. due) ns) (rest_is name names)
given_more (Err stop) due (name ∷ names) old pushed new line some is has h = h

told_more : (result : Result ℕ Stop) (due : Bool) (names : List (List ℕ)) (number next : ℕ) (old pushed new : List (Option (List ℕ))) (line : Option (List ℕ))
    (before mid now : Option (List ℕ)) (input : List ℕ) → 1 ≤ length names → next ≡ number_after due number → pushed ≡ old ++ line ∷ []
    → (line_if due number input).answer ≡ Ok line → IsLeft before mid (line_if due number input).left
    → ReturnsAskedStream (λ n. new) result mid now (lines_from due (after_first names) next pushed (line_if due number input).left)
    → ReturnsAskedStream (λ n. new) result before now (lines_from due names number old input)
told_more result due [] number next old pushed new line before mid now input some n p answer is h = absurd (omega (arith, some))
told_more result due (name ∷ names) number next old pushed new line before mid now input some n p answer is h =
    let left = (line_if due number input).left in
    let same : lines_from due (after_first (name ∷ names)) next pushed left ≡ lines_from due names (number_after due number) (old ++ line ∷ []) left =
    ap (λ (ns : List (List ℕ)). lines_from due ns next pushed left) (rest_is name names)
    ∙ ap (λ (k : ℕ). lines_from due names k pushed left) n
    ∙ ap (λ (ls : List (Option (List ℕ))). lines_from due names (number_after due number) ls left) p in
    later_returns (λ n. new) result before mid now (line_if due number input) line (λ l end. lines_from due names (number_after due number) (old ++ l ∷ []) end) answer is
    (subst (λ (t : StreamAnswer (List (Option (List ℕ)))). ReturnsAskedStream (λ n. new) result mid now t) same h)

pub returns-clause-next : goal.returns-clause-next
returns-clause-next g t c =
    next_more c.read_sources.result c.args.due c.args.names.now c.args.number c.in-Ok.next c.in-len1-up.len_at_least c.in-Ok.ensures c.read_sources.ensures.next

pub returns-clause-told : goal.returns-clause-told
returns-clause-told g t c = λ truthful i tells.
    let first = c.in_ok-line.ensures.told (c.read_sources.ensures.truthful truthful) i tells in
    let left = (line_if c.args.due c.args.number i).left in
    told_more c.read_sources.result c.args.due c.args.names.now c.args.number c.in-Ok.next (map line_seen c.args.lines.now) (map line_seen c.push.new.self)
    (map line_seen c.read_sources.new.lines) (line_seen c.in_ok-line.line) _ _ _ i c.in-len1-up.len_at_least c.in-Ok.ensures
    (ap (map line_seen) c.in_default-push.ensures.ok ∙ map_push line_seen c.args.lines.now c.in_ok-line.line) first.0 first.1
    (c.read_sources.ensures.told truthful left (tells_on c.args.due _ _ i left tells first.1))

pub returns-clause-given : goal.returns-clause-given
returns-clause-given g t c =
    given_more c.read_sources.result c.args.due c.args.names.now (map line_seen c.args.lines.now) (map line_seen c.push.new.self)
    (map line_seen c.read_sources.new.lines) (line_seen c.in_ok-line.line) c.in-len1-up.len_at_least
    (ap (map line_seen) c.in_default-push.ensures.ok ∙ map_push line_seen c.args.lines.now c.in_ok-line.line) c.in_ok-line.ensures.given
    c.read_sources.ensures.given

pub returns-clause-cause : goal.returns-clause-cause
returns-clause-cause g t c = stops_later c.read_sources.result _ _ _ c.in_ok-line.ensures.faults c.read_sources.ensures.cause

pub returns-clause-faultless : goal.returns-clause-faultless
returns-clause-faultless g t c = kept_later c.read_sources.result _ _ _ c.in_ok-line.ensures.faultless c.read_sources.ensures.faultless
