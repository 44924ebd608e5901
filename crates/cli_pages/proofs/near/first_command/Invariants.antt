use Rattle.std.proofs.Common.{◌≡◌, drop}
use Rattle.std.specs.List.{find}
use Rattle.cli_pages.specs.Texts.{command_text, is_near}
use Rattle.cli_pages.proofs.near.first_command.Given as goal

abbrev pub invariant-loop-command : goal.invariant-loop-command
invariant-loop-command l =
    find (λ command. is_near l.word (command_text command)) (drop l.command-index l.commands)
    ≡ find (λ command. is_near l.word (command_text command)) l.commands
