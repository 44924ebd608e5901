use Rattle.file_limits.proofs.Within.{made_files_are_within, plain_files_are_within, sealed_files_are_within}
use Rattle.file_limits.proofs.laws.written_files_are_within.Goals as goal

pub returns-clause-made : goal.returns-clause-made
returns-clause-made c = made_files_are_within

pub returns-clause-sealed : goal.returns-clause-sealed
returns-clause-sealed c = sealed_files_are_within

pub returns-clause-plain : goal.returns-clause-plain
returns-clause-plain c = plain_files_are_within
