use Rattle.std.proofs.Common.{◌≡◌, ◌+◌, ◌++◌, drop, length}
use Rattle.cli_changes.specs.Reports.{parts_text}
use Rattle.cli_changes.proofs.reports.add_parts.Given as goal

-- what is added, with what is left, is all; and there is room for what is left
abbrev pub invariant-loop-part : goal.invariant-loop-part
invariant-loop-part l = record {
  bytes : l.text.bytes ++ parts_text (drop l.part-index l.parts) ≡ l.initial.text.bytes ++ parts_text l.parts;
  spare : l.text.spare + length (parts_text l.parts) ≡ l.initial.text.spare + length (parts_text (drop l.part-index l.parts));
}
