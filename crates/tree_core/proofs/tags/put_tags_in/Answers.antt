use Rattle.std.proofs.Common.{◌≡◌, ◌++◌, ◌-◌, List, ℕ, ap, sym, take, ◌∙◌, position, arith, rules}
use Rattle.tree_core.specs.Tags.{parts_tags, tags_in}
use Rattle.tree_core.proofs.TagTexts.{cut_after, cut_before, tags_end, tags_on, trimmed}
use Rattle.tree_core.proofs.tags.put_tags_in.Goals as goal

pub range-requires-clause-end_boundary : goal.range-requires-clause-end_boundary
range-requires-clause-end_boundary c =
    cut_before c.loop-at.rest.now c.in-Some.at (sym (c.tag_end.ensures ∙ ap (position parts_tags) c.as_bytes.ensures.value) ∙ c.in-Some.is)

pub range_from-rest-requires : goal.range_from-rest-requires
range_from-rest-requires c later =
    cut_after c.loop-at.rest.now c.in-Some.at (search rules) (sym (c.tag_end.ensures ∙ ap (position parts_tags) c.as_bytes.ensures.value) ∙ c.in-Some.is)

pub loop-at-preserved : goal.loop-at-preserved
loop-at-preserved c =
    let rest = c.loop-at.rest.now in
    let at = c.in-Some.at in
    let place = sym (c.tag_end.ensures ∙ ap (position parts_tags) c.as_bytes.ensures.value) ∙ c.in-Some.is in
    let all : at - 0 ≡ at = omega arith in
    let front = c.range.ensures.value ∙ ap (λ n. take n rest) all in
    let put = c.in_ok-put_trimmed.ensures ∙ ap (λ (text : List ℕ). c.loop-at.tags ++ trimmed text) front in (
      search rules,
      ap (λ (text : List ℕ). c.put_trimmed.new.tags ++ tags_in text) c.range_from-rest.ensures.value
          ∙ tags_on c.args.tags.now c.loop-at.tags c.put_trimmed.new.tags c.args.text.now rest at place put c.loop-at.invariant.1,
    )

pub returns : goal.returns
returns c =
    let place = sym (c.tag_end.ensures ∙ ap (position parts_tags) c.as_bytes.ensures.value) ∙ c.in_default.is in
    tags_end c.put_trimmed-2.result c.args.tags.now c.loop-at.tags c.put_trimmed-2.new.tags c.args.text.now c.loop-at.rest.now place c.loop-at.invariant.1 c.put_trimmed-2.ensures
