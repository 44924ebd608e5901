use Rattle.std.proofs.Common.{◌≡◌, ◌+◌, drop, length}
use Rattle.cli_changes.specs.Reports.{parts_text}
use Rattle.cli_changes.proofs.reports.line_room.Given as goal

-- the room so far, with what is left, is all
abbrev pub invariant-loop-part : goal.invariant-loop-part
invariant-loop-part l = l.room + length (parts_text (drop l.part-index l.parts)) ≡ 15 + length (parts_text l.parts)
