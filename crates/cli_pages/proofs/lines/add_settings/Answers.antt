use Rattle.cli_pages.proofs.lines.add_settings.Goals as goal

pub returns-in-UnknownCipher : goal.returns-in-UnknownCipher
returns-in-UnknownCipher c = rw c.in-UnknownCipher.is (rw c.as_str.ensures at c.add_around.ensures)

pub returns-in-UnknownKdf : goal.returns-in-UnknownKdf
returns-in-UnknownKdf c = rw c.in-UnknownKdf.is (rw c.as_str-in-UnknownKdf.ensures at c.add_around-in-UnknownKdf.ensures)

pub returns-in-UnknownVersion : goal.returns-in-UnknownVersion
returns-in-UnknownVersion c = rw c.in-UnknownVersion.is (rw c.as_str-in-UnknownVersion.ensures at c.add_around-in-UnknownVersion.ensures)
