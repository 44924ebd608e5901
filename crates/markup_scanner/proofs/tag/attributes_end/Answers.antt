use Rattle.std.proofs.Common.{◌<◌, ◌∙◌, arith}
use Rattle.std.proofs.lemmas.Result.{err_from_is_err_and}
use Rattle.markup_grammar.specs.Bytes.{is_space}
use Rattle.markup_scanner.proofs.Steps.{stops_at}
use Rattle.markup_scanner.proofs.Tags.{attributes_spaced, attributes_over, attributes_off}
use Rattle.markup_scanner.proofs.tag.attributes_end.Goals as goal

pub returns-then-ends_start_tag-clause-attributes : goal.returns-then-ends_start_tag-clause-attributes
returns-then-ends_start_tag-clause-attributes c =
    λ place name names. c.attributes.invariant.2 place name names
    ∙ attributes_over c.args.text.now place name c.args.at names c.attributes.place c.space_end-name.result c.attributes.invariant.0 c.space_end-name.ensures.from c.space_end-name.ensures.run c.if-ends_start_tag.ensures

pub returns-then-name-place-clause-attributes : goal.returns-then-name-place-clause-attributes
returns-then-name-place-clause-attributes c =
    λ place name names. c.attributes.invariant.2 place name names
    ∙ attributes_off c.args.text.now place name c.args.at names c.attributes.place c.space_end-name.result (omega arith) c.space_end-name.ensures.run c.if-ends_start_tag.ensures

pub attribute_end-requires-clause-no_space : goal.attribute_end-requires-clause-no_space
attribute_end-requires-clause-no_space c =
    stops_at is_space c.args.text.now c.attributes.place c.space_end-name.result c.space_end-name.ensures.run

pub returns-in_err-place-clause-attributes : goal.returns-in_err-place-clause-attributes
returns-in_err-place-clause-attributes c =
    let p = err_from_is_err_and c.from_residual.result c.from_residual.ensures.1 in
    let low : c.attributes.place < c.space_end-name.result = omega arith in
    λ place name names. rw (p.1, p.2)
    (c.attributes.invariant.2 place name names
    ∙ (attributes_spaced c.args.text.now place name c.args.at names c.attributes.place c.space_end-name.result c.attributes.invariant.0 low c.space_end-name.ensures.run
    ∙ c.in_err-place.ensures.attribute place name c.args.at names (omega arith)))

pub attributes-preserved : goal.attributes-preserved
attributes-preserved c =
    let low : c.attributes.place < c.space_end-name.result = omega arith in (
      omega (arith, c.in_ok-place.ensures.within),
      omega (arith, c.in_ok-place.ensures.within),
      λ place name names. c.attributes.invariant.2 place name names
          ∙ (attributes_spaced c.args.text.now place name c.args.at names c.attributes.place c.space_end-name.result c.attributes.invariant.0 low c.space_end-name.ensures.run
          ∙ c.in_ok-place.ensures.attribute place name c.args.at names (omega arith)),
    )
