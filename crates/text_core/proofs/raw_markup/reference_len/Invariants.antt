use Rattle.std.proofs.Common.{◌≡◌, ◌+◌, ◌-◌, ◌≤◌, length, drop}
use Rattle.std.specs.List.{prefix_len}
use Rattle.text_core.specs.Parts.{is_inside_reference}
use Rattle.text_core.proofs.raw_markup.reference_len.Given as goal

-- the bytes so far have been passed
abbrev pub invariant-loop-len : goal.invariant-loop-len
invariant-loop-len l =
    (prefix_len is_inside_reference l.bytes ≡ l.len + prefix_len is_inside_reference (drop l.len l.bytes)) × (l.len ≤ length l.bytes)

abbrev pub decreases-loop-len : goal.decreases-loop-len
decreases-loop-len l = length l.bytes - l.len
