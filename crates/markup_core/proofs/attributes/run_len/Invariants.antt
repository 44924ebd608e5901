use Rattle.std.proofs.Common.{◌≡◌, ◌+◌, ◌-◌, ◌≤◌, length, drop}
use Rattle.std.specs.List.{prefix_len}
use Rattle.markup_core.specs.AttributeRuns.{is_in_run}
use Rattle.markup_core.proofs.attributes.run_len.Given as goal

-- the bytes so far have been passed
abbrev pub invariant-loop-len : goal.invariant-loop-len
invariant-loop-len l =
    (prefix_len (is_in_run l.run) l.bytes ≡ l.len + prefix_len (is_in_run l.run) (drop l.len l.bytes)) × (l.len ≤ length l.bytes)

abbrev pub decreases-loop-len : goal.decreases-loop-len
decreases-loop-len l = length l.bytes - l.len
