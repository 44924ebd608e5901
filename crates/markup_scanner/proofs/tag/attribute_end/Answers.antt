use Rattle.std.proofs.Common.{◌≤◌, ◌∙◌, arith}
use Rattle.std.proofs.lemmas.Result.{err_from_is_err_and}
use Rattle.markup_grammar.specs.Bytes.{is_space}
use Rattle.markup_grammar.specs.Machine.{valued, valuing, spaced}
use Rattle.markup_scanner.proofs.References.{leads_after}
use Rattle.markup_scanner.proofs.Steps.{stops_at}
use Rattle.markup_scanner.proofs.Tags.{tag_state, attribute_named, attribute_equalled, attribute_double, attribute_single, attribute_nameless, attribute_signless, attribute_valueless}
use Rattle.markup_scanner.proofs.tag.attribute_end.Goals as goal

pub returns-in_err-named-clause-attribute : goal.returns-in_err-named-clause-attribute
returns-in_err-named-clause-attribute c =
    let p = err_from_is_err_and c.from_residual.result c.from_residual.ensures.1 in
    λ place name from names le. rw (p.1, p.2)
    (attribute_nameless c.args.text.now place name from names c.args.at c.in_err-named.field-0.0 c.requires.no_space c.requires.no_end c.in_err-named.ensures.name)

pub returns-in_err-equalled-clause-attribute : goal.returns-in_err-equalled-clause-attribute
returns-in_err-equalled-clause-attribute c =
    let p = err_from_is_err_and c.from_residual-in_err-equalled.result c.from_residual-in_err-equalled.ensures.1 in
    λ place name from names le. rw (p.1, p.2)
    (attribute_named c.args.text.now place name from names c.args.at c.in_ok-named.named c.space_end-sign.result le c.in_ok-named.ensures.within.0 c.in_ok-named.ensures.name c.space_end-sign.ensures.run
    ∙ attribute_signless c.args.text.now place name from names c.space_end-sign.result c.in_err-equalled.field-0.0 (stops_at is_space c.args.text.now c.in_ok-named.named c.space_end-sign.result c.space_end-sign.ensures.run) c.in_err-equalled.ensures.byte)

pub returns-in_err-past-clause-attribute : goal.returns-in_err-past-clause-attribute
returns-in_err-past-clause-attribute c =
    let p = err_from_is_err_and c.from_residual-in_err-past.result c.from_residual-in_err-past.ensures.1 in
    λ place name from names le. let above : from ≤ c.space_end-sign.result = omega (arith, c.in_ok-named.ensures.within.0) in
    rw (p.1, p.2)
    (attribute_named c.args.text.now place name from names c.args.at c.in_ok-named.named c.space_end-sign.result le c.in_ok-named.ensures.within.0 c.in_ok-named.ensures.name c.space_end-sign.ensures.run
    ∙ (attribute_equalled c.args.text.now place name from names c.space_end-sign.result c.in_ok-equalled.equalled c.space_end-opening.result above c.in_ok-equalled.ensures.byte c.space_end-opening.ensures.run
    ∙ attribute_valueless c.args.text.now place name from names c.space_end-opening.result c.in_err-past.field-0.0 (stops_at is_space c.args.text.now c.in_ok-equalled.equalled c.space_end-opening.result c.space_end-opening.ensures.run) c.in_default.ensures.byte.1 c.in_err-past.ensures.byte))

pub returns-in-Ok-clause-attribute : goal.returns-in-Ok-clause-attribute
returns-in-Ok-clause-attribute c =
    λ place name from names le. let above : from ≤ c.space_end-sign.result = omega (arith, c.in_ok-named.ensures.within.0) in
    let behind : from ≤ c.space_end-opening.result = omega (arith, c.in_ok-equalled.ensures.byte.0) in
    let after : from ≤ c.in-Ok.value = omega (arith, c.in-Ok.ensures.byte.0) in
    leads_after c.args.text.now (tag_state c.args.text.now place name from names spaced c.args.at) (tag_state c.args.text.now place name from names (valuing 34) c.in-Ok.value) c.args.at c.in-Ok.value (tag_state c.args.text.now place name from names valued) c.value_end.result
    (attribute_named c.args.text.now place name from names c.args.at c.in_ok-named.named c.space_end-sign.result le c.in_ok-named.ensures.within.0 c.in_ok-named.ensures.name c.space_end-sign.ensures.run
    ∙ (attribute_equalled c.args.text.now place name from names c.space_end-sign.result c.in_ok-equalled.equalled c.space_end-opening.result above c.in_ok-equalled.ensures.byte c.space_end-opening.ensures.run
    ∙ attribute_double c.args.text.now place name from names c.space_end-opening.result c.in-Ok.value behind c.in-Ok.ensures.byte))
    (c.value_end.ensures.value place name from names after)

pub returns-in_ok-past-clause-attribute : goal.returns-in_ok-past-clause-attribute
returns-in_ok-past-clause-attribute c =
    λ place name from names le. let above : from ≤ c.space_end-sign.result = omega (arith, c.in_ok-named.ensures.within.0) in
    let behind : from ≤ c.space_end-opening.result = omega (arith, c.in_ok-equalled.ensures.byte.0) in
    let after : from ≤ c.in_ok-past.field-0 = omega (arith, c.in_ok-past.ensures.byte.0) in
    leads_after c.args.text.now (tag_state c.args.text.now place name from names spaced c.args.at) (tag_state c.args.text.now place name from names (valuing 39) c.in_ok-past.field-0) c.args.at c.in_ok-past.field-0 (tag_state c.args.text.now place name from names valued) c.value_end-in_default.result
    (attribute_named c.args.text.now place name from names c.args.at c.in_ok-named.named c.space_end-sign.result le c.in_ok-named.ensures.within.0 c.in_ok-named.ensures.name c.space_end-sign.ensures.run
    ∙ (attribute_equalled c.args.text.now place name from names c.space_end-sign.result c.in_ok-equalled.equalled c.space_end-opening.result above c.in_ok-equalled.ensures.byte c.space_end-opening.ensures.run
    ∙ attribute_single c.args.text.now place name from names c.space_end-opening.result c.in_ok-past.field-0 behind c.in_ok-past.ensures.byte))
    (c.value_end-in_default.ensures.value place name from names after)
