use Rattle.std.proofs.Common.{◌∙◌, arith}
use Rattle.markup_grammar.specs.Bytes.{is_space}
use Rattle.markup_scanner.proofs.Asides.{spaces_left}
use Rattle.markup_scanner.proofs.Steps.{stops_at}
use Rattle.markup_scanner.proofs.aside.outside_end.Goals as goal

pub asides-init : goal.asides-init
asides-init c = (
  omega arith,
  omega arith,
  λ level outside. spaces_left c.args.text.now level c.args.at c.space_end-place.result outside c.space_end-place.ensures.run,
  stops_at is_space c.args.text.now c.args.at c.space_end-place.result c.space_end-place.ensures.run,
)

pub asides-preserved : goal.asides-preserved
asides-preserved c = (
  omega (arith, c.in_ok-next.ensures.within),
  omega arith,
  λ level outside. c.asides.invariant.2 level outside
      ∙ (c.in_ok-next.ensures.aside level
      ∙ spaces_left c.args.text.now level c.in_ok-next.next c.space_end-place-in-asides.result outside c.space_end-place-in-asides.ensures.run),
  stops_at is_space c.args.text.now c.in_ok-next.next c.space_end-place-in-asides.result c.space_end-place-in-asides.ensures.run,
)
