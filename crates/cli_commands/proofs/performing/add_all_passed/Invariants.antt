use Rattle.std.proofs.Common.{◌≡◌, ◌++◌, drop}
use Rattle.cli_commands.specs.Commands.{passed_lines}
use Rattle.cli_commands.proofs.performing.add_all_passed.Given as goal

-- what is added, with what is left, is all
abbrev pub invariant-loop-name : goal.invariant-loop-name
invariant-loop-name l =
    l.text ++ passed_lines (drop l.name-index l.names)
    ≡ l.initial.text ++ passed_lines l.names
