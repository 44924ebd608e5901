use Rattle.cli_pages.proofs.lines.add_cause.Goals as goal

pub returns-in-FlagsTwice : goal.returns-in-FlagsTwice
returns-in-FlagsTwice c = rw c.in-FlagsTwice.is (rw c.as_str-in-FlagsTwice.ensures at c.add_around.ensures)

pub returns-in-NoValue : goal.returns-in-NoValue
returns-in-NoValue c = rw c.in-NoValue.is (rw c.as_str-in-NoValue.ensures at c.add_around-in-NoValue.ensures)
