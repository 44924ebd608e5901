-- Lines that are taken from the input are there exactly where they are due.
use Rattle.std.proofs.Common.{◌≡◌, ℕ, ◌+◌, List, [], ◌∷◌, ◌++◌, length, map, refl, sym, ◌∙◌, ap, subst, arith, append_assoc, append-nil, Bool, true, false, Option, Some, None, Result, Ok, Err}
use Rattle.std.specs.Prelude.{is_some}
use Rattle.std.proofs.lemmas.List.{length-append, map-append}
use Rattle.outside_core.specs.Results.{◌>>=◌}
use Rattle.cli_messages.specs.declared.answers.Refusal.{Refusal}
use Rattle.cli_messages.specs.Phases.{StreamAnswer, after_left, with_left}
use Rattle.cli_needs.specs.Needs.{Needs, asks_password, asks_passwords_from}
use Rattle.cli_lines.specs.Lines.{HasLines, LastLines, Lines, after_more, after_otp, field_lines, last_lines, lines_with, after_password, after_passwords, line_if, line_of, lines_from, lines_of, number_after, number_from, number_of_more}

ok_is : {A : Type 0} (a b : A) → ◌≡◌ {A = Result A Refusal} (Ok a) (Ok b) → a ≡ b
ok_is a b h = cc

-- Of two phases that gave this, what the first gave.
after_given : {A B : Type 0} (r : Result A Refusal) (left : List ℕ) (next : A → List ℕ → StreamAnswer B) (b : B) → (after_left r left next).answer ≡ Ok b
    → (a : A) × ((r ≡ Ok a) × ((next a left).answer ≡ Ok b))
after_given (Ok a) left next b h = (a, (refl, h))
after_given (Err refusal) left next b h = cc

some_given : (r : Result (List ℕ) Refusal) (line : Option (List ℕ)) → (r >>= (λ l. Ok (Some l))) ≡ Ok line → is_some line ≡ true
some_given (Ok l) line h = ap is_some (sym (ok_is (Some l) line h))
some_given (Err refusal) line h = cc

-- A line is there if it is due.
line_has : (due : Bool) (number : ℕ) (input : List ℕ) (line : Option (List ℕ)) → (line_if due number input).answer ≡ Ok line → is_some line ≡ due
line_has true number input line h = some_given (line_of number input).answer line h
line_has false number input line h = ap is_some (sym (ok_is None line h))

pub one_more : (read : List (Option (List ℕ))) (line : Option (List ℕ)) (due : Bool) (more : List Bool) → is_some line ≡ due
    → map is_some (read ++ line ∷ []) ++ more ≡ map is_some read ++ due ∷ more
one_more read line due more h =
    ap (λ (bs : List Bool). bs ++ more) (map-append is_some read (line ∷ []))
    ∙ append_assoc (map is_some read) (is_some line ∷ []) more
    ∙ ap (λ (b : Bool). map is_some read ++ b ∷ more) h

-- The lines of sources, each there if it is due.
sources_have : (due : Bool) (names : List (List ℕ)) (number : ℕ) (read : List (Option (List ℕ))) (input : List ℕ) (lines : List (Option (List ℕ)))
    → (lines_from due names number read input).answer ≡ Ok lines → map is_some lines ≡ map is_some read ++ map (λ name. due) names
sources_have due [] number read input lines h = ap (map is_some) (sym (ok_is read lines h)) ∙ sym (append-nil (map is_some read))
sources_have due (name ∷ names) number read input lines h =
    let taken = line_if due number input in
    let c = after_given taken.answer taken.left (λ line left. lines_from due names (number_after due number) (read ++ line ∷ []) left) lines h in
    sources_have due names (number_after due number) (read ++ c.0 ∷ []) taken.left lines c.1.1
    ∙ one_more read c.0 due (map (λ name. due) names) (line_has due number input c.0 c.1.0)

-- The values of fields, one for each.
fields_have : (names : List (List ℕ)) (number : ℕ) (read : List (List ℕ)) (input : List ℕ) (lines : List (List ℕ))
    → (field_lines names number read input).answer ≡ Ok lines → length lines ≡ length read + length names
fields_have [] number read input lines h =
    let same : length lines ≡ length read = ap length (sym (ok_is read lines h)) in
    omega (arith, same)
fields_have (name ∷ names) number read input lines h =
    let taken = line_of number input in
    let c = after_given taken.answer taken.left (λ line left. field_lines names (number + 1) (read ++ line ∷ []) left) lines h in
    let more = fields_have names (number + 1) (read ++ c.0 ∷ []) taken.left lines c.1.1 in
    omega (arith, more, length-append read (c.0 ∷ []))

values_have : (names : List (List ℕ)) (number : ℕ) (input : List ℕ) (lines : List (List ℕ))
    → (field_lines names number [] input).answer ≡ Ok lines → length lines ≡ length names
values_have names number input lines h =
    let count = fields_have names number [] input lines h in
    omega (arith, count)

-- The lines after all passwords.
record HaveLast (needs : Needs) (last : LastLines) : Type 0 where
  has_more : is_some last.more ≡ needs.has_line
  has_otp : is_some last.otp ≡ needs.has_otp
  has_fields : length last.fields ≡ length needs.fields

last_have : (number : ℕ) (needs : Needs) (input : List ℕ) (last : LastLines) → (last_lines number needs input).answer ≡ Ok last → HaveLast needs last
last_have number needs input last h =
    let otp = number_after needs.has_line number in
    let fields = number_after needs.has_otp otp in
    let line = line_if needs.has_line number input in
    let m = after_given line.answer line.left (after_more otp needs) last h in
    let code = line_if needs.has_otp otp line.left in
    let o = after_given code.answer code.left (after_otp fields needs m.0) last m.1.1 in
    let values = field_lines needs.fields fields [] code.left in
    let f = after_given values.answer values.left (λ fields end. with_left (Ok (record { more = m.0; otp = o.0; fields = fields })) end) last o.1.1 in
    subst (HaveLast needs) (ok_is (record { more = m.0; otp = o.0; fields = f.0 }) last f.1.1)
    (record {
      has_more = line_has needs.has_line number input m.0 m.1.0;
      has_otp = line_has needs.has_otp otp line.left o.0 o.1.0;
      has_fields = values_have needs.fields fields code.left f.0 f.1.0;
    })

-- The lines of a call.
pub lines_have : (needs : Needs) (input : List ℕ) (lines : Lines) → (lines_of needs input).answer ≡ Ok lines → HasLines needs lines
lines_have needs input lines h =
    let first = line_if (asks_password needs.access) 1 input in
    let p = after_given first.answer first.left (after_password needs) lines h in
    let sources = lines_from (asks_passwords_from needs) needs.sources (number_from needs) [] first.left in
    let s = after_given sources.answer sources.left (after_passwords needs p.0) lines p.1.1 in
    let last = last_lines (number_of_more needs) needs sources.left in
    let l = after_given last.answer last.left (λ last end. with_left (Ok (lines_with p.0 s.0 last)) end) lines s.1.1 in
    let have = last_have (number_of_more needs) needs sources.left l.0 l.1.0 in
    subst (HasLines needs) (ok_is (lines_with p.0 s.0 l.0) lines l.1.1)
    (record {
      has_password = line_has (asks_password needs.access) 1 input p.0 p.1.0;
      have_passwords = sources_have (asks_passwords_from needs) needs.sources (number_from needs) [] first.left s.0 s.1.0;
      has_more = have.has_more;
      has_otp = have.has_otp;
      has_fields = have.has_fields;
    })
