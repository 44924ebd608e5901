use Rattle.std.proofs.Common.{sym, ◌∙◌, arith, eqb-true, length}
use Rattle.std.proofs.lemmas.Bool.{eqb-false}
use Rattle.text_core.proofs.Digits.{no_digits, wrong_digit, past_last, all_digits}
use Rattle.text_core.proofs.raw_markup.numbered.Goals as goal

pub returns-then-is_empty-clause-value : goal.returns-then-is_empty-clause-value
returns-then-is_empty-clause-value c =
    sym (no_digits c.args.radix c.args.digits.now (eqb-true (length c.args.digits.now) 0 (sym c.is_empty.ensures ∙ c.if-is_empty.true)))

pub returns-in_err-number-clause-value : goal.returns-in_err-number-clause-value
returns-in_err-number-clause-value c =
    c.from_residual.ensures
    ∙ sym (wrong_digit c.args.radix c.loop-digit.digit-index c.args.digits.now c.loop-digit-test.true c.in_err-number.ensures.value)

pub returns-then-number-clause-value : goal.returns-then-number-clause-value
returns-then-number-clause-value c =
    sym (past_last c.args.radix c.loop-digit.digit-index c.loop-digit.number c.args.digits.now c.requires.some c.loop-digit-test.true c.loop-digit.invariant.value
    (omega (arith, c.in_ok-number.ensures.value.1, c.if-number.true)))

pub returns-clause-value : goal.returns-clause-value
returns-clause-value c =
    all_digits c.args.radix c.loop-digit.digit-index c.loop-digit.number c.args.digits.now c.from_u32.result
    (omega (arith, eqb-false (length c.args.digits.now) 0 (sym c.is_empty.ensures ∙ c.if-is_empty.false)))
    c.loop-digit-test.false c.loop-digit.invariant.value c.loop-digit.invariant.all c.from_u32.ensures.value
