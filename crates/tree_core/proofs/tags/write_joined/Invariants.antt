use Rattle.std.proofs.Common.{◌≡◌, ◌++◌, drop, string_bytes}
use denote.Text.{Utf8}
use denote.Shadow.{shadow}
use Rattle.tree_core.specs.Tags.{joined_tags, without_tags}
use Rattle.tree_core.proofs.TagsJoined.{joined_from}
use Rattle.tree_core.proofs.tags.write_joined.Given as goal

abbrev pub invariant-loop-tag : goal.invariant-loop-tag
invariant-loop-tag l =
    shadow (Utf8 l.mark)
    × (string_bytes l.text ++ joined_from l.mark (without_tags l.others (drop l.tag-index l.tags))
    ≡ string_bytes l.initial.text ++ joined_tags (without_tags l.others l.tags))
