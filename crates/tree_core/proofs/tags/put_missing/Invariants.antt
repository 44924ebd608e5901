use Rattle.std.proofs.Common.{◌≡◌, drop}
use Rattle.tree_core.specs.Tags.{with_tags}
use Rattle.tree_core.proofs.tags.put_missing.Given as goal

abbrev pub invariant-loop-tag : goal.invariant-loop-tag
invariant-loop-tag l = with_tags (drop l.tag-index l.more) l.tags ≡ with_tags l.more l.initial.tags
