use Rattle.std.proofs.Common.{◌≡◌, ◌∙◌, sym, ap, bytes_eq}
use Rattle.std.specs.Option.{option_copied}
use Rattle.markup_grammar.specs.Attributes.{attribute, attributes}
use Rattle.markup_core.proofs.AttributeLemmas.{last_of_none, past_first, without_attributes}
use Rattle.markup_core.proofs.attributes.Attrs.get.Goals as goal
use Rattle.markup_core.proofs.attributes.Attrs.get.Goals.{then-eq, else-eq}

pub loop-first-preserved : goal.loop-first-preserved
loop-first-preserved c =
    let name = c.args.name.now in
    let first = c.in-Some.first in
    let same : bytes_eq first.name.now name ≡ c.eq.result = sym (c.eq.ensures ∙ ap (bytes_eq first.name.now) c.as_bytes.ensures.value) in
    let both = past_first name first.name.now first.value.now (option_copied c.loop-first.found) (attribute c.as_bytes-rest.result.now name)
    (attributes c.loop-first.rest.now) (attributes first.rest.now) c.in-Some.ensures.first c.loop-first.invariant.value in
    record {
      value = elim c.if-eq.branch
          [ then-eq w ↦ rw w.found-is (both.0 (same ∙ w.if-eq.true)) | else-eq w ↦ rw w.found-is (both.1 (same ∙ w.if-eq.false)) ];
      utf8 = c.in-Some.ensures.utf8;
    }

pub returns : goal.returns
returns c =
    let value = c.loop-first.invariant.value in
    sym (last_of_none c.args.name.now (option_copied c.loop-first.found))
    ∙ (rw (c.in_default.ensures.first, c.as_bytes-rest.ensures.value) at value)

pub returns-then-is_empty : goal.returns-then-is_empty
returns-then-is_empty c = sym (without_attributes c.args.self.now.raw.now c.args.name.now (sym c.is_empty.ensures ∙ c.if-is_empty.true))
