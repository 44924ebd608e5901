-- Parameters, one on.
use Rattle.std.proofs.Common.{◌≡◌, ℕ, ◌+◌, List, [], ◌∷◌, length, refl, sym, ap, ◌∙◌, arith, None, Some, Result, Ok, Err}
use Rattle.otp_core.specs.declared.fails.OtpFail.{OtpFail}
use Rattle.otp_core.specs.declared.fails.OtpFail.TheVariants.{NoOtp, OtpForm, OtpUnknown, OtpLimit, NoMemory}
use Rattle.otp_core.specs.Answers.{AnswersBy}
use Rattle.otp_core.specs.Reading.{BareParameters, prefix_before, suffix_after, parts_between, with_parameter, with_parameters}
use Rattle.otp_core.proofs.Parts.{split, more, last_part, next_part}

goes_on : ℕ → List ℕ → List (List ℕ) → Result BareParameters OtpFail → Result BareParameters OtpFail
goes_on at p ps first = elim first as (λ _. Result BareParameters OtpFail) [
  | Err fail ↦ Err fail
  | Ok after_it ↦ with_parameters (at + length p + 1) ps after_it
]

first_one : (at : ℕ) (p : List ℕ) (ps : List (List ℕ)) (found : BareParameters) → with_parameters at (p ∷ ps) found ≡ goes_on at p ps (with_parameter at p found)
unfolding with_parameters goes_on
first_one at p ps found = refl

goes_ok : (at : ℕ) (p : List ℕ) (ps : List (List ℕ)) (t : BareParameters) → goes_on at p ps (Ok t) ≡ with_parameters (at + length p + 1) ps t
unfolding goes_on
goes_ok at p ps t = refl

goes_err : (at : ℕ) (p : List ℕ) (ps : List (List ℕ)) (e : OtpFail) → goes_on at p ps (Err e) ≡ Err e
unfolding goes_on
goes_err at p ps e = refl

no_more : (at : ℕ) (t : BareParameters) → with_parameters at [] t ≡ Ok t
unfolding with_parameters
no_more at t = refl

module _ (at : ℕ) (rest : List ℕ) (found : BareParameters) where
  last : (t : BareParameters) → suffix_after 38 rest ≡ None → with_parameter at (prefix_before 38 rest) found ≡ Ok t → with_parameters at (parts_between 38 rest) found ≡ Ok t
  last t none ok = ap (λ (ps : List (List ℕ)). with_parameters at ps found) (last_part 38 rest none) ∙ first_one at _ _ found
      ∙ ap (goes_on at (prefix_before 38 rest) []) ok ∙ goes_ok at (prefix_before 38 rest) [] t ∙ no_more _ t

  next : (t : BareParameters) (following : List ℕ) → suffix_after 38 rest ≡ Some following → with_parameter at (prefix_before 38 rest) found ≡ Ok t
      → with_parameters at (parts_between 38 rest) found ≡ with_parameters (at + length (prefix_before 38 rest) + 1) (parts_between 38 following) t
  next t following some ok = ap (λ (ps : List (List ℕ)). with_parameters at ps found) (next_part 38 rest following some) ∙ first_one at _ _ found
      ∙ ap (goes_on at (prefix_before 38 rest) (parts_between 38 following)) ok ∙ goes_ok at (prefix_before 38 rest) (parts_between 38 following) t

  fails : (e : OtpFail) → with_parameter at (prefix_before 38 rest) found ≡ Err e → with_parameters at (parts_between 38 rest) found ≡ Err e
  fails e err = ap (λ (ps : List (List ℕ)). with_parameters at ps found) (split 38 rest) ∙ first_one at _ _ found
      ∙ ap (goes_on at (prefix_before 38 rest) (more 38 (suffix_after 38 rest))) err ∙ goes_err at (prefix_before 38 rest) (more 38 (suffix_after 38 rest)) e

-- The same with the part as the code has it, from the beginning on.
module _ (whole : Result BareParameters OtpFail) (at : ℕ) (rest part : List ℕ) (found t : BareParameters)
    (so_far : whole ≡ with_parameters at (parts_between 38 rest) found) (is : part ≡ prefix_before 38 rest) where
  pub ends : suffix_after 38 rest ≡ None → with_parameter at part found ≡ Ok t → whole ≡ Ok t
  ends none ok = so_far ∙ last at rest found t none (ap (λ (p : List ℕ). with_parameter at p found) (sym is) ∙ ok)

  pub goes : (following : List ℕ) → suffix_after 38 rest ≡ Some following → with_parameter at part found ≡ Ok t
      → whole ≡ with_parameters (at + (length part + 1)) (parts_between 38 following) t
  goes following some ok =
      let e : at + length part + 1 ≡ at + (length part + 1) = omega arith in
      so_far ∙ next at rest found t following some (ap (λ (p : List ℕ). with_parameter at p found) (sym is) ∙ ok)
      ∙ ap (λ (p : List ℕ). with_parameters (at + length p + 1) (parts_between 38 following) t) (sym is)
      ∙ ap (λ (n : ℕ). with_parameters n (parts_between 38 following) t) e

  stops : (e : OtpFail) → with_parameter at part found ≡ Err e → whole ≡ Err e
  stops e err = so_far ∙ fails at rest found e (ap (λ (p : List ℕ). with_parameter at p found) (sym is) ∙ err)

  pub refused : (e : OtpFail) → AnswersBy {A = Unit {0}} (with_parameter at part found) t (Err e) → AnswersBy {A = Unit {0}} whole t (Err e)
  refused NoMemory answer = tt
  refused NoOtp answer = stops NoOtp answer
  refused (OtpForm n) answer = stops (OtpForm n) answer
  refused (OtpUnknown n) answer = stops (OtpUnknown n) answer
  refused (OtpLimit n) answer = stops (OtpLimit n) answer
