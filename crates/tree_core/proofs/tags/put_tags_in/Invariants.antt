use Rattle.std.proofs.Common.{◌≡◌, ◌++◌, length}
use denote.Text.{Utf8}
use denote.Shadow.{shadow}
use Rattle.tree_core.specs.Tags.{tags_in}
use Rattle.tree_core.proofs.tags.put_tags_in.Given as goal

-- what was put, and the tags in the rest, come to all
abbrev pub invariant-loop-at : goal.invariant-loop-at
invariant-loop-at l = shadow (Utf8 l.rest) × (l.tags ++ tags_in l.rest ≡ l.initial.tags ++ tags_in l.text)

abbrev pub decreases-loop-at : goal.decreases-loop-at
decreases-loop-at l = length l.rest
