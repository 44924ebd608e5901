use Rattle.std.proofs.Common.{◌∙◌, arith}
use Rattle.std.proofs.lemmas.Result.{err_from_is_err_and}
use Rattle.markup_scanner.proofs.Literals.{literal_stops, literal_goes}
use Rattle.markup_scanner.proofs.run.literal_end.Goals as goal

pub returns-in_err-place-clause-bytes : goal.returns-in_err-place-clause-bytes
returns-in_err-place-clause-bytes c =
    let p = err_from_is_err_and c.from_residual.result c.from_residual.ensures.1 in
    λ s await. rw (p.1, p.2)
    (c.loop-byte.invariant.2 s await
    ∙ literal_stops c.args.text.now s c.args.at c.args.bytes.now c.loop-byte.place c.loop-byte.byte-index c.in_err-place.field-0.0 await c.loop-byte.invariant.0 c.loop-byte-test.true c.in_err-place.ensures.byte)

pub loop-byte-preserved : goal.loop-byte-preserved
loop-byte-preserved c = (
  omega (arith, c.in_ok-place.ensures.within),
  omega (arith, c.in_ok-place.ensures.within),
  λ s await. c.loop-byte.invariant.2 s await
      ∙ literal_goes c.args.text.now s c.args.at c.args.bytes.now c.loop-byte.place c.loop-byte.byte-index c.in_ok-place.place await c.loop-byte.invariant.0 c.loop-byte-test.true c.in_ok-place.ensures.byte,
)
