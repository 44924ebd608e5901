use Rattle.std.proofs.Common.{◌≡◌, ◌+◌, ◌*◌, ◌∙◌, ap, sym, refl, arith, length, ◌∷◌, [], get_or}
use Rattle.std.proofs.lemmas.List.{drop_more, drop_all}
use Rattle.markup_grammar.specs.Answers.{form}
use Rattle.markup_grammar.specs.Bytes.{digit_value}
use Rattle.markup_scanner.specs.Numbers.{radix_of, number_at}
use Rattle.markup_scanner.specs.Scans.{host_reference}
use Rattle.markup_scanner.proofs.Numbers.{digit_is_hex, number_goes, number_past, number_ends_there, reference_ends}
use Rattle.markup_scanner.proofs.Steps.{left_end}
use Rattle.markup_scanner.proofs.reference.number_end.Goals as goal

pub digit_value-requires : goal.digit_value-requires
digit_value-requires c =
    digit_is_hex c.args.base (get_or c.args.text.now c.loop-place.place 0) (sym c.is_digit.ensures ∙ c.if-is_digit.true)

pub returns-then-value-gt-LAST_CHARACTER-clause-number : goal.returns-then-value-gt-LAST_CHARACTER-clause-number
returns-then-value-gt-LAST_CHARACTER-clause-number c =
    let next : c.loop-place.value * c.radix.result + c.digit_value.result ≡ c.loop-place.value * radix_of c.args.base + digit_value (get_or c.args.text.now c.loop-place.place 0) = rw (c.radix.ensures.value, c.digit_value.ensures.value) refl in
    λ h kept. c.loop-place.invariant.2 h kept
    ∙ number_past c.args.text.now h c.args.base c.args.at c.loop-place.place c.loop-place.value (get_or c.args.text.now c.loop-place.place 0) (c.loop-place.value * c.radix.result + c.digit_value.result) kept c.loop-place.auto.place c.loop-place.invariant.1
    (drop_more c.args.text.now c.loop-place.place 0 (omega arith)) (sym c.is_digit.ensures ∙ c.if-is_digit.true) next (omega arith)

pub returns-then-ends_number-clause-number : goal.returns-then-ends_number-clause-number
returns-then-ends_number-clause-number c =
    λ h kept. c.loop-place.invariant.2 h kept
    ∙ rw c.if-ends_number.true at
    (number_ends_there c.args.text.now h c.args.base c.args.at c.loop-place.place c.loop-place.value (get_or c.args.text.now c.loop-place.place 0) c.ends_number.result kept c.loop-place.auto.place c.requires.no_base
    (drop_more c.args.text.now c.loop-place.place 0 (omega arith)) (sym c.is_digit.ensures ∙ c.if-is_digit.false) c.ends_number.ensures)

pub returns-else-ends_number-clause-number : goal.returns-else-ends_number-clause-number
returns-else-ends_number-clause-number c =
    λ h kept. c.loop-place.invariant.2 h kept
    ∙ rw c.if-ends_number.false at
    (number_ends_there c.args.text.now h c.args.base c.args.at c.loop-place.place c.loop-place.value (get_or c.args.text.now c.loop-place.place 0) c.ends_number.result kept c.loop-place.auto.place c.requires.no_base
    (drop_more c.args.text.now c.loop-place.place 0 (omega arith)) (sym c.is_digit.ensures ∙ c.if-is_digit.false) c.ends_number.ensures)

pub loop-place-preserved : goal.loop-place-preserved
loop-place-preserved c =
    let next : c.loop-place.value * c.radix.result + c.digit_value.result ≡ c.loop-place.value * radix_of c.args.base + digit_value (get_or c.args.text.now c.loop-place.place 0) = rw (c.radix.ensures.value, c.digit_value.ensures.value) refl in (
      omega arith,
      λ same. absurd (omega arith),
      λ h kept. c.loop-place.invariant.2 h kept
          ∙ number_goes c.args.text.now h c.args.base c.args.at c.loop-place.place c.loop-place.value (get_or c.args.text.now c.loop-place.place 0) (c.loop-place.value * c.radix.result + c.digit_value.result) kept c.loop-place.auto.place c.loop-place.invariant.1
          (drop_more c.args.text.now c.loop-place.place 0 (omega arith)) (sym c.is_digit.ensures ∙ c.if-is_digit.true) next (omega arith),
    )

pub returns-clause-number : goal.returns-clause-number
returns-clause-number c =
    let over : length c.args.text.now ≡ c.loop-place.place = omega arith in
    λ h kept. c.loop-place.invariant.2 h kept
    ∙ (left_end c.args.text.now (host_reference c.args.text.now h (number_at c.args.base c.args.at c.loop-place.place c.loop-place.value) c.loop-place.place) c.loop-place.place (drop_all c.loop-place.place c.args.text.now (omega arith))
    ∙ (ap (λ a. a ∷ []) (reference_ends c.args.text.now h (number_at c.args.base c.args.at c.loop-place.place c.loop-place.value) c.loop-place.place)
    ∙ ap (λ n. form n ∷ []) (sym over)))
