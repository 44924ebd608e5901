use Rattle.std.proofs.Common.{◌≡◌, ◌++◌, length}
use denote.Text.{Utf8}
use denote.Shadow.{shadow}
use Rattle.psafe_core.specs.Records.{group_names}
use Rattle.psafe_core.proofs.entries.add_names.Given as goal

-- The names so far and those of what is left are all.
abbrev pub invariant-loop-name : goal.invariant-loop-name
invariant-loop-name l = shadow (Utf8 l.rest) × (l.names ++ group_names l.rest ≡ l.initial.names ++ group_names l.text)

abbrev pub decreases-loop-name : goal.decreases-loop-name
decreases-loop-name l = length l.rest
