use Rattle.cli_pages.proofs.lines.add_command.Goals as goal

pub returns-in-Some : goal.returns-in-Some
returns-in-Some c = rw c.in-Some.is (rw c.command_text.ensures at c.add_around.ensures)
