use Rattle.std.proofs.Common.{◌≡◌, ◌+◌, ◌-◌, ◌≤◌, length, drop}
use Rattle.std.specs.List.{prefix_len}
use Rattle.text_core.specs.Parts.{is_verbatim}
use Rattle.text_core.proofs.raw_markup.verbatim_end.Given as goal

-- the bytes so far have been passed
abbrev pub invariant-loop-end : goal.invariant-loop-end
invariant-loop-end l =
    (l.at + prefix_len is_verbatim (drop l.at l.text) ≡ l.end + prefix_len is_verbatim (drop l.end l.text)) × (l.end ≤ length l.text)

abbrev pub decreases-loop-end : goal.decreases-loop-end
decreases-loop-end l = length l.text - l.end
