use Rattle.std.proofs.Common.{◌≡◌, ◌++◌, drop, map}
use Rattle.cli_pages.specs.Texts.{shown_byte}
use Rattle.cli_pages.proofs.lines.add_shown.Given as goal

abbrev pub invariant-loop-byte : goal.invariant-loop-byte
invariant-loop-byte l =
    l.line ++ map shown_byte (drop l.byte-index l.text) ≡ l.initial.line ++ map shown_byte l.text
