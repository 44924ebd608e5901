use Rattle.std.proofs.Common.{◌++◌, List, ℕ, ap, sym, ◌∙◌, rules, string_bytes}
use Rattle.tree_core.specs.Tags.{is_among}
use Rattle.tree_core.proofs.TagsJoined.{written}
use Rattle.tree_core.proofs.tags.write_joined.Goals as goal

pub loop-tag-preserved : goal.loop-tag-preserved
loop-tag-preserved c =
    let tag = c.tag-item.result in (
      search rules,
      written c.args.tags.now c.args.others.now c.loop-tag.tag-index tag c.loop-tag-test.true c.tag-item.is (string_bytes c.loop-tag.text) c.loop-tag.mark.now _
          c.loop-tag.invariant.1 (string_bytes c.write_tag.new.text) (ap (λ (text : List ℕ). is_among text c.args.others.now) (sym c.as_str.ensures) ∙ sym c.is_among.ensures ∙ c.if-is_among.false)
          (c.in_ok-write_tag.ensures ∙ ap (λ (text : List ℕ). string_bytes c.loop-tag.text ++ c.loop-tag.mark.now ++ text) c.as_str-in-loop-tag.ensures),
    )
