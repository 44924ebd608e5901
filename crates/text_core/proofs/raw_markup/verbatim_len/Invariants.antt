use Rattle.std.proofs.Common.{◌≡◌, ◌+◌, ◌-◌, ◌≤◌, length, drop}
use Rattle.std.specs.List.{prefix_len}
use Rattle.text_core.specs.Parts.{is_verbatim}
use Rattle.text_core.proofs.raw_markup.verbatim_len.Given as goal

-- the bytes so far have been passed
abbrev pub invariant-loop-len : goal.invariant-loop-len
invariant-loop-len l =
    (prefix_len is_verbatim l.text ≡ l.len + prefix_len is_verbatim (drop l.len l.text)) × (l.len ≤ length l.text)

abbrev pub decreases-loop-len : goal.decreases-loop-len
decreases-loop-len l = length l.text - l.len
