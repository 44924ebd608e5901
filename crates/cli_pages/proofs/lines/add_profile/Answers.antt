use Rattle.cli_pages.proofs.lines.add_profile.Goals as goal

pub returns-in-UnknownCount : goal.returns-in-UnknownCount
returns-in-UnknownCount c = rw c.in-UnknownCount.is (rw c.as_str-in-UnknownCount.ensures at c.add_around-in-UnknownCount.ensures)

pub returns-in-NoCharacters : goal.returns-in-NoCharacters
returns-in-NoCharacters c = rw c.in-NoCharacters.is c.add.ensures.ok
