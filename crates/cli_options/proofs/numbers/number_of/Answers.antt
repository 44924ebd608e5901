use Rattle.std.proofs.Common.{arith}
use Rattle.cli_options.proofs.Digits.{one_more}
use Rattle.cli_options.proofs.numbers.number_of.Goals as goal

pub overflow_mul-number : goal.overflow_mul-number
overflow_mul-number c =
    omega (
      arith,
      one_more c.loop-b.number c.loop-b.b-index c.args.most c.loop-b.invariant.small
          (omega (arith, c.loop-b-test.true, c.if-digits-most.false)) c.requires,
    )

pub overflow_add-number : goal.overflow_add-number
overflow_add-number c =
    omega (
      arith,
      c.from.ensures,
      c.if-b-gt57.false,
      one_more c.loop-b.number c.loop-b.b-index c.args.most c.loop-b.invariant.small
          (omega (arith, c.loop-b-test.true, c.if-digits-most.false)) c.requires,
    )
