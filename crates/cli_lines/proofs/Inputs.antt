-- What is left of the input, where it reports that or where no line is due.
use Rattle.std.proofs.Common.{◌≡◌, ◌≤◌, ℕ, List, [], refl, inl, inr, sym, ◌∙◌, ap, subst, arith, Bool, true, false, ◌||◌, Option, Some, None, option_map, Result, Ok, Err}
use Rattle.std.specs.Prelude.{IfErr, IfOk, OnOk}
use Rattle.outside_core.specs.Counts.{Increased}
use Rattle.cli_messages.specs.declared.answers.Refusal.{Refusal}
use Rattle.cli_messages.specs.declared.answers.Stop.{Stop}
use Rattle.cli_messages.specs.declared.answers.Stop.TheVariants.{Refused, FileFault, InputFault, NoMemory}
use Rattle.outside_core.specs.Results.{◌>>=◌}
use Rattle.cli_messages.specs.Phases.{StreamAnswer, IsLeft, IsStreamStop, RefusesAskedStream, RefusesStream, ReturnsAskedStream, TellsStream, then_left, with_left}
use Rattle.cli_needs.specs.Needs.{Needs}
use Rattle.cli_lines.specs.Lines.{LastLines, Lines, after_otp, after_passwords, field_lines, last_lines, line_if, line_of, lines_with, number_of_more}

-- An input that is not read.
pub left_alone : (asked : Bool) (before : Option (List ℕ)) (input : List ℕ) → TellsStream asked before input → IsLeft before before input
left_alone asked (Some left) input t = ap Some t
left_alone asked None input t = refl

-- An input of which a line is due reports what is left.
pub told_by : (asked : Bool) (before : Option (List ℕ)) (input : List ℕ) → asked ≡ true → TellsStream asked before input → before ≡ Some input
told_by asked (Some left) input e t = ap Some t
told_by asked None input e t = let same : true ≡ false = sym e ∙ t in cc

-- What is left of an input that reports it.
pub left_so : (before now : Option (List ℕ)) (input left : List ℕ) → before ≡ Some input → now ≡ Some left → IsLeft before now left
left_so before now input left e h = h ∙ sym (ap (option_map (λ (l : List ℕ). left)) e)

-- An input that is asked, and was refused.
pub asked_stops : {A : Type 0} (stop : Stop) (before now : Option (List ℕ)) (input : List ℕ) (taken : StreamAnswer A) → before ≡ Some input
    → RefusesStream stop now taken → RefusesAskedStream stop before now taken
asked_stops (Refused refusal) before now input taken e h = (h.0, left_so before now input taken.left e h.1)
asked_stops (FileFault name) before now input taken e h = tt
asked_stops InputFault before now input taken e h = tt
asked_stops NoMemory before now input taken e h = tt

-- A line that is due is refused.
pub line_stops : (stop : Stop) (before now : Option (List ℕ)) (input : List ℕ) (due : Bool) (number : ℕ) → due ≡ true → before ≡ Some input
    → RefusesStream stop now (line_of number input) → RefusesAskedStream stop before now (line_if due number input)
line_stops (Refused refusal) before now input due number a e h =
    subst (λ (b : Bool). RefusesAskedStream (Refused refusal) before now (line_if b number input)) (sym a)
    (ap (λ (r : Result (List ℕ) Refusal). r >>= (λ line. Ok (Some line))) h.0, left_so before now input (line_of number input).left e h.1)
line_stops (FileFault name) before now input due number a e h = tt
line_stops InputFault before now input due number a e h = tt
line_stops NoMemory before now input due number a e h = tt

-- Of two questions the first is asked, and the second of what is left.
pub tells_first : (a b : Bool) (before : Option (List ℕ)) (input : List ℕ) → TellsStream (a || b) before input → TellsStream a before input
tells_first a b (Some left) input t = t
tells_first true b None input t = t
tells_first false b None input t = refl

pub tells_second : (a b : Bool) (before now : Option (List ℕ)) (input left : List ℕ) → TellsStream (a || b) before input
    → IsLeft before now left → TellsStream b now left
tells_second a b (Some l) now input left t is = subst (λ (n : Option (List ℕ)). TellsStream b n left) (sym is) refl
tells_second true b None now input left t is = let no : true ≡ false = t in cc
tells_second false b None now input left t is = subst (λ (n : Option (List ℕ)). TellsStream b n left) (sym is) t

-- What is left after two phases.
pub left_after : (before mid now : Option (List ℕ)) (left rest : List ℕ) → IsLeft before mid left → IsLeft mid now rest → IsLeft before now rest
left_after (Some l) mid now left rest p q = q ∙ ap (option_map (λ (l : List ℕ). rest)) p
left_after None mid now left rest p q = q ∙ ap (option_map (λ (l : List ℕ). rest)) p

-- The first phase was refused.
pub first_stops : {A B : Type 0} (stop : Stop) (before now : Option (List ℕ)) (taken : StreamAnswer A) (next : A → List ℕ → StreamAnswer B)
    → RefusesAskedStream stop before now taken → RefusesAskedStream stop before now (then_left taken next)
first_stops (Refused refusal) before now taken next h =
    subst (λ (r : Result _ Refusal). RefusesAskedStream (Refused refusal) before now (then_left (with_left r taken.left) next)) (sym h.0) (refl, h.1)
first_stops (FileFault name) before now taken next h = tt
first_stops InputFault before now taken next h = tt
first_stops NoMemory before now taken next h = tt

-- The first phase gave this.
pub first_gave : {A B : Type 0} (taken : StreamAnswer A) (a : A) (next : A → List ℕ → StreamAnswer B) → taken.answer ≡ Ok a
    → then_left taken next ≡ next a taken.left
first_gave taken a next h = ap (λ (r : Result _ Refusal). then_left (with_left r taken.left) next) h

-- A later phase was refused.
pub later_stops : {A : Type 0} (stop : Stop) (before mid now : Option (List ℕ)) (left : List ℕ) (taken : StreamAnswer A)
    → IsLeft before mid left → RefusesAskedStream stop mid now taken → RefusesAskedStream stop before now taken
later_stops (Refused refusal) before mid now left taken is h = (h.0, left_after before mid now left taken.left is h.1)
later_stops (FileFault name) before mid now left taken is h = tt
later_stops InputFault before mid now left taken is h = tt
later_stops NoMemory before mid now left taken is h = tt

-- A phase after one that gave this was refused.
pub second_stops : {A B : Type 0} (stop : Stop) (before mid now : Option (List ℕ)) (taken : StreamAnswer A) (a : A) (next : A → List ℕ → StreamAnswer B)
    → taken.answer ≡ Ok a → IsLeft before mid taken.left → RefusesAskedStream stop mid now (next a taken.left)
    → RefusesAskedStream stop before now (then_left taken next)
second_stops stop before mid now taken a next p is h =
    subst (λ (t : StreamAnswer _). RefusesAskedStream stop before now t) (sym (first_gave taken a next p))
    (later_stops stop before mid now taken.left (next a taken.left) is h)

-- A phase after one that gave this gave what is defined, or was refused.
pub later_returns : {X Y A : Type 0} (seen : X → Y) (result : Result X Stop) (before mid now : Option (List ℕ)) (taken : StreamAnswer A) (a : A)
    (next : A → List ℕ → StreamAnswer Y) → taken.answer ≡ Ok a → IsLeft before mid taken.left → ReturnsAskedStream seen result mid now (next a taken.left)
    → ReturnsAskedStream seen result before now (then_left taken next)
later_returns seen (Ok x) before mid now taken a next p is h =
    subst (λ (t : StreamAnswer _). ReturnsAskedStream seen (Ok x) before now t) (sym (first_gave taken a next p))
    (h.0, left_after before mid now taken.left (next a taken.left).left is h.1)
later_returns seen (Err stop) before mid now taken a next p is h = second_stops stop before mid now taken a next p is h

-- The values of fields were read, after the lines before them.
pub fields_given : (number : ℕ) (needs : Needs) (more otp : Option (List ℕ)) (before now : Option (List ℕ)) (input : List ℕ) (fields : List (List ℕ))
    → (field_lines needs.fields number [] input).answer ≡ Ok fields → IsLeft before now (field_lines needs.fields number [] input).left
    → ((after_otp number needs more otp input).answer ≡ Ok (record { more = more; otp = otp; fields = fields }))
    × IsLeft before now (after_otp number needs more otp input).left
fields_given number needs more otp before now input fields p is =
    subst (λ (t : StreamAnswer LastLines). (t.answer ≡ Ok (record { more = more; otp = otp; fields = fields })) × IsLeft before now t.left)
    (sym (first_gave (field_lines needs.fields number [] input) fields
    (λ fs end. with_left (Ok (record { more = more; otp = otp; fields = fs })) end) p)) (refl, is)

-- The lines after all passwords were read.
pub lines_given : (needs : Needs) (password : Option (List ℕ)) (sources : List (Option (List ℕ))) (before now : Option (List ℕ)) (input : List ℕ) (last : LastLines)
    → (last_lines (number_of_more needs) needs input).answer ≡ Ok last → IsLeft before now (last_lines (number_of_more needs) needs input).left
    → ((after_passwords needs password sources input).answer ≡ Ok (lines_with password sources last))
    × IsLeft before now (after_passwords needs password sources input).left
lines_given needs password sources before now input last p is =
    subst (λ (t : StreamAnswer Lines). (t.answer ≡ Ok (lines_with password sources last)) × IsLeft before now t.left)
    (sym (first_gave (last_lines (number_of_more needs) needs input) last (λ l end. with_left (Ok (lines_with password sources l)) end) p)) (refl, is)

-- What holds of a line holds of it where a later phase hands it on.
pub handed_on : {X : Type 0} (P : Option (List ℕ) → Type 0) (part : X → Option (List ℕ)) (result : Result X Stop) (line : Option (List ℕ)) → P line
    → IfOk result (λ x. part x ≡ line) → IfOk result (λ x. P (part x))
handed_on P part (Ok x) line p h = subst P (sym h) p
handed_on P part (Err stop) line p h = tt

-- ---- causes

rose_before : (before mid now : ℕ) → before ≤ mid → Increased mid now → Increased before now
rose_before before mid now h (inl less) = inl (omega arith)
rose_before before mid now h (inr last) = inr last

-- A stop at the input in a later phase.
pub stops_later : {X : Type 0} (result : Result X Stop) (before mid now : ℕ) → before ≤ mid → IfErr result (IsStreamStop mid now)
    → IfErr result (IsStreamStop before now)
stops_later (Ok x) before mid now p h = tt
stops_later (Err (Refused refusal)) before mid now p h = h
stops_later (Err (FileFault name)) before mid now p h = h
stops_later (Err InputFault) before mid now p h = rose_before before mid now p h
stops_later (Err NoMemory) before mid now p h = tt

-- A count that a phase kept, and a later phase where it went well.
pub kept_later : {X : Type 0} (result : Result X Stop) (before mid now : ℕ) → mid ≡ before → OnOk result (now ≡ mid)
    → OnOk result (now ≡ before)
kept_later (Ok x) before mid now same h = h ∙ same
kept_later (Err stop) before mid now same h = tt
