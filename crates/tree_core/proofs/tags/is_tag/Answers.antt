use Rattle.std.proofs.Common.{ap, sym, ◌∙◌, position, rules}
use Rattle.std.specs.Str.{bytes_eq}
use Rattle.tree_core.specs.Tags.{parts_tags}
use Rattle.tree_core.proofs.TagLengths.{cut_no_tag, whole_tag}
use Rattle.tree_core.proofs.tags.is_tag.Goals as goal

pub returns-in-Some : goal.returns-in-Some
returns-in-Some c =
    let place = sym (c.tag_end.ensures ∙ ap (position parts_tags) c.as_bytes.ensures.value) ∙ c.in-Some.is in
    sym (cut_no_tag c.args.text.now c.in-Some.field-0 (search rules) place)

pub returns-then-not-is_empty : goal.returns-then-not-is_empty
returns-then-not-is_empty c =
    let place = sym (c.tag_end.ensures ∙ ap (position parts_tags) c.as_bytes.ensures.value) ∙ c.in-None.is in
    c.eq.ensures ∙ ap (bytes_eq c.args.text.now) c.trim.ensures.trim
    ∙ sym (whole_tag c.args.text.now place (sym c.is_empty.ensures ∙ c.if-not-is_empty.true))
