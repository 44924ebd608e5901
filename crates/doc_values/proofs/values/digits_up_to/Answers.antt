use Rattle.std.proofs.Common.{◌∙◌, sym, arith, get_or}
use Rattle.doc_values.proofs.Numbers.{too_much, digit_is}
use Rattle.doc_values.proofs.values.digits_up_to.Goals as goal

pub returns-in_err-checked_mul : goal.returns-in_err-checked_mul
returns-in_err-checked_mul c =
    c.from_residual.ensures
    ∙ sym (too_much c.args.most c.loop-digit.digit-index c.loop-digit.number c.args.digits.now c.loop-digit-test.true c.loop-digit.invariant.value
    (omega (arith, c.ranges.most.fits, c.in_err-checked_mul.ensures)))

pub returns-in_err-number : goal.returns-in_err-number
returns-in_err-number c =
    c.from_residual-in_err-number.ensures
    ∙ sym (too_much c.args.most c.loop-digit.digit-index c.loop-digit.number c.args.digits.now c.loop-digit-test.true c.loop-digit.invariant.value
    (omega (
      arith,
      c.ranges.most.fits,
      c.in_err-number.ensures,
      c.in_ok-checked_mul.ensures,
      digit_is (get_or c.args.digits.now c.loop-digit.digit-index 0) (sym c.if-not-is_ascii_digit.ensures.value),
    )))

pub returns-then-number-most : goal.returns-then-number-most
returns-then-number-most c =
    sym (too_much c.args.most c.loop-digit.digit-index c.loop-digit.number c.args.digits.now c.loop-digit-test.true c.loop-digit.invariant.value
    (omega (
      arith,
      c.if-number-most.true,
      c.in_ok-number.ensures,
      c.in_ok-checked_mul.ensures,
      digit_is (get_or c.args.digits.now c.loop-digit.digit-index 0) (sym c.if-not-is_ascii_digit.ensures.value),
    )))
