use Rattle.std.proofs.Common.{◌+◌, ◌<◌, ◌∙◌, arith, length, slice_range}
use Rattle.std.proofs.lemmas.Result.{err_from_is_err_and}
use Rattle.markup_scanner.proofs.Tags.{name_opened, name_missing, tag_over, tag_slashed, empty_over, empty_off, slash_there, ends_low, name_before_ascii}
use Rattle.markup_scanner.proofs.tag.start_tag.Goals as goal

pub returns-in_err-name_end-clause-tag : goal.returns-in_err-name_end-clause-tag
returns-in_err-name_end-clause-tag c =
    let p = err_from_is_err_and c.from_residual.result c.from_residual.ensures.1 in
    λ s place names opened. rw (p.1, p.2)
    (name_missing c.args.text.now s place names c.args.at c.in_err-name_end.field-0.0 opened c.in_err-name_end.ensures.name)

pub returns-in_err-attrs_end-clause-tag : goal.returns-in_err-attrs_end-clause-tag
returns-in_err-attrs_end-clause-tag c =
    let p = err_from_is_err_and c.from_residual-in_err-attrs_end.result c.from_residual-in_err-attrs_end.ensures.1 in
    λ s place names opened. rw (p.1, p.2)
    (name_opened c.args.text.now s place names c.args.at c.in_ok-name_end.name_end opened c.in_ok-name_end.ensures.name
    ∙ c.in_err-attrs_end.ensures.attributes place (slice_range c.args.text.now c.args.at c.in_ok-name_end.name_end) names)

pub returns-then-stands-clause-tag : goal.returns-then-stands-clause-tag
returns-then-stands-clause-tag c =
    λ s place names opened. name_opened c.args.text.now s place names c.args.at c.in_ok-name_end.name_end opened c.in_ok-name_end.ensures.name
    ∙ (c.in_ok-attrs_end.ensures.attributes place (slice_range c.args.text.now c.args.at c.in_ok-name_end.name_end) names
    ∙ tag_over c.args.text.now place (slice_range c.args.text.now c.args.at c.in_ok-name_end.name_end) c.in_ok-name_end.name_end names c.in_ok-attrs_end.attrs_end c.if-stands.ensures.byte)

pub returns-then-stands-clause-stands : goal.returns-then-stands-clause-stands
returns-then-stands-clause-stands c =
    let low : c.in_ok-attrs_end.attrs_end < length c.args.text.now = ends_low c.args.text.now c.in_ok-attrs_end.attrs_end c.in_ok-attrs_end.ensures.ends in
    record {
      name = omega (arith, c.in_ok-name_end.ensures.name.3);
      attrs = c.in_ok-attrs_end.ensures.within.0;
      after_name = name_before_ascii c.args.text.now (c.args.at + 1) c.in_ok-name_end.name_end c.in_ok-name_end.ensures.name.3 (omega (arith, c.in_ok-attrs_end.ensures.within.0));
      after_attrs = c.if-stands.ensures.byte;
      after_slash = λ no. absurd (cc);
    }

pub returns-in_err-past-clause-tag : goal.returns-in_err-past-clause-tag
returns-in_err-past-clause-tag c =
    let p = err_from_is_err_and c.from_residual-in_err-past.result c.from_residual-in_err-past.ensures.1 in
    λ s place names opened. rw (p.1, p.2)
    (name_opened c.args.text.now s place names c.args.at c.in_ok-name_end.name_end opened c.in_ok-name_end.ensures.name
    ∙ (c.in_ok-attrs_end.ensures.attributes place (slice_range c.args.text.now c.args.at c.in_ok-name_end.name_end) names
    ∙ (tag_slashed c.args.text.now place (slice_range c.args.text.now c.args.at c.in_ok-name_end.name_end) c.in_ok-name_end.name_end names c.in_ok-attrs_end.attrs_end
    (slash_there c.args.text.now c.in_ok-attrs_end.attrs_end c.in_ok-attrs_end.ensures.ends c.if-stands.ensures.byte)
    ∙ empty_off c.args.text.now c.in_ok-attrs_end.attrs_end place (slice_range c.args.text.now c.args.at c.in_ok-name_end.name_end) (slice_range c.args.text.now c.in_ok-name_end.name_end c.in_ok-attrs_end.attrs_end) names c.in_err-past.field-0.0 c.in_err-past.ensures.byte)))

pub returns-clause-tag : goal.returns-clause-tag
returns-clause-tag c =
    λ s place names opened. name_opened c.args.text.now s place names c.args.at c.in_ok-name_end.name_end opened c.in_ok-name_end.ensures.name
    ∙ (c.in_ok-attrs_end.ensures.attributes place (slice_range c.args.text.now c.args.at c.in_ok-name_end.name_end) names
    ∙ (tag_slashed c.args.text.now place (slice_range c.args.text.now c.args.at c.in_ok-name_end.name_end) c.in_ok-name_end.name_end names c.in_ok-attrs_end.attrs_end
    (slash_there c.args.text.now c.in_ok-attrs_end.attrs_end c.in_ok-attrs_end.ensures.ends c.if-stands.ensures.byte)
    ∙ empty_over c.args.text.now c.in_ok-attrs_end.attrs_end place (slice_range c.args.text.now c.args.at c.in_ok-name_end.name_end) (slice_range c.args.text.now c.in_ok-name_end.name_end c.in_ok-attrs_end.attrs_end) names c.in_ok-past.ensures.byte.1))

pub returns-clause-stands : goal.returns-clause-stands
returns-clause-stands c =
    let low : c.in_ok-attrs_end.attrs_end < length c.args.text.now = ends_low c.args.text.now c.in_ok-attrs_end.attrs_end c.in_ok-attrs_end.ensures.ends in
    record {
      name = omega (arith, c.in_ok-name_end.ensures.name.3);
      attrs = c.in_ok-attrs_end.ensures.within.0;
      after_name = name_before_ascii c.args.text.now (c.args.at + 1) c.in_ok-name_end.name_end c.in_ok-name_end.ensures.name.3 (omega (arith, c.in_ok-attrs_end.ensures.within.0));
      after_attrs = slash_there c.args.text.now c.in_ok-attrs_end.attrs_end c.in_ok-attrs_end.ensures.ends c.if-stands.ensures.byte;
      after_slash = λ _. c.in_ok-past.ensures.byte.1;
    }
