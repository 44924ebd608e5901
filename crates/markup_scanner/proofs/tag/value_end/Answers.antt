use Rattle.std.proofs.Common.{◌≤◌, ◌∙◌, arith}
use Rattle.std.proofs.lemmas.Result.{err_from_is_err_and}
use Rattle.markup_grammar.specs.Bytes.{is_value}
use Rattle.markup_scanner.specs.Scans.{of_value}
use Rattle.markup_scanner.proofs.Steps.{stops_at}
use Rattle.markup_scanner.proofs.Words.{value_run, value_amp, value_closes, value_off}
use Rattle.markup_scanner.proofs.tag.value_end.Goals as goal

pub value-init : goal.value-init
value-init c = (
  omega arith,
  omega arith,
  stops_at (is_value c.args.quote) c.args.text.now c.args.at c.quoted_end-place.result c.quoted_end-place.ensures.run,
  λ place name from names le. value_run c.args.text.now c.args.quote place name from names c.args.at c.quoted_end-place.result le c.quoted_end-place.ensures.run,
)

pub returns-in-Ok-clause-value : goal.returns-in-Ok-clause-value
returns-in-Ok-clause-value c =
    λ place name from names le. let above : from ≤ c.value.place = omega arith in
    c.value.invariant.3 place name from names le
    ∙ value_closes c.args.text.now c.args.quote place name from names c.value.place c.in-Ok.end above c.in-Ok.ensures.byte

pub returns-in_err-reference-clause-value : goal.returns-in_err-reference-clause-value
returns-in_err-reference-clause-value c =
    let p = err_from_is_err_and c.from_residual.result c.from_residual.ensures.1 in
    λ place name from names le. rw (p.1, p.2)
    (c.value.invariant.3 place name from names le
    ∙ value_off c.args.text.now c.args.quote place name from names c.value.place c.in_err-reference.field-0.0 c.value.invariant.2 c.in_default.ensures.byte.1 c.in_err-reference.ensures.byte)

pub returns-in_err-more-clause-value : goal.returns-in_err-more-clause-value
returns-in_err-more-clause-value c =
    let p = err_from_is_err_and c.from_residual-in_err-more.result c.from_residual-in_err-more.ensures.1 in
    λ place name from names le. let above : from ≤ c.value.place = omega arith in
    let behind : from ≤ c.in_ok-reference.reference = omega (arith, c.in_ok-reference.ensures.byte.0) in
    rw (p.1, p.2)
    (c.value.invariant.3 place name from names le
    ∙ (value_amp c.args.text.now c.args.quote place name from names c.value.place c.in_ok-reference.reference above c.in_default.ensures.byte.1 c.in_ok-reference.ensures.byte
    ∙ c.in_err-more.ensures.reference (of_value c.args.quote place name from names) behind))

pub value-preserved : goal.value-preserved
value-preserved c = (
  omega (arith, c.in_ok-reference.ensures.byte.0, c.in_ok-more.ensures.within),
  omega arith,
  stops_at (is_value c.args.quote) c.args.text.now c.in_ok-more.more c.quoted_end-place-in-value.result c.quoted_end-place-in-value.ensures.run,
  λ place name from names le. let above : from ≤ c.value.place = omega arith in
      let behind : from ≤ c.in_ok-reference.reference = omega (arith, c.in_ok-reference.ensures.byte.0) in
      let after : from ≤ c.in_ok-more.more = omega (arith, c.in_ok-more.ensures.within) in
      c.value.invariant.3 place name from names le
      ∙ (value_amp c.args.text.now c.args.quote place name from names c.value.place c.in_ok-reference.reference above c.in_default.ensures.byte.1 c.in_ok-reference.ensures.byte
      ∙ (c.in_ok-more.ensures.reference (of_value c.args.quote place name from names) behind
      ∙ value_run c.args.text.now c.args.quote place name from names c.in_ok-more.more c.quoted_end-place-in-value.result after c.quoted_end-place-in-value.ensures.run)),
)
