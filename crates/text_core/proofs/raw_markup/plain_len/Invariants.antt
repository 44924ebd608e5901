use Rattle.std.proofs.Common.{◌≡◌, ◌+◌, ◌-◌, ◌≤◌, length, drop}
use Rattle.std.specs.List.{prefix_len}
use Rattle.text_core.specs.Parts.{is_plain}
use Rattle.text_core.proofs.raw_markup.plain_len.Given as goal

-- the bytes so far have been passed
abbrev pub invariant-loop-len : goal.invariant-loop-len
invariant-loop-len l =
    (prefix_len is_plain l.raw ≡ l.len + prefix_len is_plain (drop l.len l.raw)) × (l.len ≤ length l.raw)

abbrev pub decreases-loop-len : goal.decreases-loop-len
decreases-loop-len l = length l.raw - l.len
