use Rattle.std.proofs.Common.{◌≡◌, ◌∙◌, sym, ap, arith, ◌∷◌, length, drop, take, length-drop}
use Rattle.std.specs.List.{prefix_len}
use Rattle.markup_grammar.specs.Attributes.{attributes}
use Rattle.markup_core.specs.AttributeRuns.{is_quoted}
use Rattle.markup_core.proofs.AttributeLemmas.{IsNamed, after_name, no_name, no_quote, at_quote, no_end, at_end, value_utf8, shorter_behind}
use Rattle.markup_core.proofs.attributes.first_attribute.Goals as goal

pub returns-in_err-name-clause-first : goal.returns-in_err-name-clause-first
returns-in_err-name-clause-first c =
    let bytes = c.args.bytes.now in
    rw c.from_residual.ensures
    (no_name bytes c.after-tag.result.now (c.after-tag.ensures ∙ ap (λ n. drop n bytes) c.run_len-space_len.ensures.len)
    (rw c.run_len-name_len.ensures.len at c.in_err-name.ensures))

pub returns-in_err-equals-clause-first : goal.returns-in_err-equals-clause-first
returns-in_err-equals-clause-first c =
    let bytes = c.args.bytes.now in
    let tag = c.after-tag.result.now in
    let name = c.in_ok-name.name in
    let named : IsNamed bytes tag name.front.now name.rest.now name.byte = record {
      tag_is = c.after-tag.ensures ∙ ap (λ n. drop n bytes) c.run_len-space_len.ensures.len;
      name_is = c.in_ok-name.ensures.0 ∙ ap (λ n. take n tag) c.run_len-name_len.ensures.len;
      ends = rw c.run_len-name_len.ensures.len at c.in_ok-name.ensures.1;
    } in
    rw c.from_residual-in_err-equals.ensures
    (after_name bytes tag name.front.now name.rest.now name.byte named
    ∙ no_quote name.front.now name.rest.now (rw c.run_len-equals_len.ensures.len at c.in_err-equals.ensures))

pub returns-in_err-value-clause-first : goal.returns-in_err-value-clause-first
returns-in_err-value-clause-first c =
    let bytes = c.args.bytes.now in
    let tag = c.after-tag.result.now in
    let name = c.in_ok-name.name in
    let equals = c.in_ok-equals.equals in
    let named : IsNamed bytes tag name.front.now name.rest.now name.byte = record {
      tag_is = c.after-tag.ensures ∙ ap (λ n. drop n bytes) c.run_len-space_len.ensures.len;
      name_is = c.in_ok-name.ensures.0 ∙ ap (λ n. take n tag) c.run_len-name_len.ensures.len;
      ends = rw c.run_len-name_len.ensures.len at c.in_ok-name.ensures.1;
    } in
    rw c.from_residual-in_err-value.ensures
    (after_name bytes tag name.front.now name.rest.now name.byte named
    ∙ (at_quote name.front.now name.rest.now equals.rest.now equals.byte (rw c.run_len-equals_len.ensures.len at c.in_ok-equals.ensures.1)
    ∙ no_end name.front.now equals.rest.now equals.byte (rw c.run_len-value_len.ensures.len at c.in_err-value.ensures)))

pub text_of-requires : goal.text_of-requires
text_of-requires c =
    let bytes = c.args.bytes.now in
    let name = c.in_ok-name.name in
    let equals = c.in_ok-equals.equals in
    let value = c.in_ok-value.value in
    rw (c.in_ok-value.ensures.0, c.run_len-value_len.ensures.len)
    (value_utf8 bytes c.after-tag.result.now name.rest.now equals.rest.now value.rest.now c.run_len-space_len.result name.byte equals.byte value.byte
    c.requires c.after-tag.ensures (rw c.run_len-name_len.ensures.len at c.in_ok-name.ensures.1) (rw c.run_len-equals_len.ensures.len at c.in_ok-equals.ensures.1)
    (rw c.run_len-value_len.ensures.len at c.in_ok-value.ensures.1)).0

pub returns-clause-first : goal.returns-clause-first
returns-clause-first c =
    let bytes = c.args.bytes.now in
    let tag = c.after-tag.result.now in
    let name = c.in_ok-name.name in
    let equals = c.in_ok-equals.equals in
    let value = c.in_ok-value.value in
    let named : IsNamed bytes tag name.front.now name.rest.now name.byte = record {
      tag_is = c.after-tag.ensures ∙ ap (λ n. drop n bytes) c.run_len-space_len.ensures.len;
      name_is = c.in_ok-name.ensures.0 ∙ ap (λ n. take n tag) c.run_len-name_len.ensures.len;
      ends = rw c.run_len-name_len.ensures.len at c.in_ok-name.ensures.1;
    } in
    let text : c.text_of.result.now ≡ take (prefix_len (is_quoted equals.byte) equals.rest.now) equals.rest.now =
    c.text_of.ensures ∙ (c.in_ok-value.ensures.0 ∙ ap (λ n. take n equals.rest.now) c.run_len-value_len.ensures.len) in
    after_name bytes tag name.front.now name.rest.now name.byte named
    ∙ (at_quote name.front.now name.rest.now equals.rest.now equals.byte (rw c.run_len-equals_len.ensures.len at c.in_ok-equals.ensures.1)
    ∙ (at_end name.front.now equals.rest.now value.rest.now equals.byte value.byte (rw c.run_len-value_len.ensures.len at c.in_ok-value.ensures.1)
    ∙ ap (λ v. (name.front.now, v) ∷ attributes value.rest.now) (sym text)))

pub returns-clause-shorter : goal.returns-clause-shorter
returns-clause-shorter c =
    let tag = c.after-tag.result.now in
    let name = c.in_ok-name.name in
    let equals = c.in_ok-equals.equals in
    let value = c.in_ok-value.value in
    omega (
      arith,
      ap length c.after-tag.ensures,
      length-drop c.run_len-space_len.result c.args.bytes.now,
      shorter_behind tag name.rest.now c.run_len-name_len.result name.byte c.in_ok-name.ensures.1,
      shorter_behind name.rest.now equals.rest.now c.run_len-equals_len.result equals.byte c.in_ok-equals.ensures.1,
      shorter_behind equals.rest.now value.rest.now c.run_len-value_len.result value.byte c.in_ok-value.ensures.1,
    )

pub returns-clause-utf8 : goal.returns-clause-utf8
returns-clause-utf8 c =
    let bytes = c.args.bytes.now in
    let name = c.in_ok-name.name in
    let equals = c.in_ok-equals.equals in
    let value = c.in_ok-value.value in
    (value_utf8 bytes c.after-tag.result.now name.rest.now equals.rest.now value.rest.now c.run_len-space_len.result name.byte equals.byte value.byte
    c.requires c.after-tag.ensures (rw c.run_len-name_len.ensures.len at c.in_ok-name.ensures.1) (rw c.run_len-equals_len.ensures.len at c.in_ok-equals.ensures.1)
    (rw c.run_len-value_len.ensures.len at c.in_ok-value.ensures.1)).1
