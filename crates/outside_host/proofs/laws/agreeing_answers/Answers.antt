use Rattle.outside_host.proofs.Agreement.{missing_agrees, length_agrees, window_agrees, read_agrees, fill_agrees}
use Rattle.outside_host.proofs.laws.agreeing_answers.Goals as goal

pub returns-clause-missing : goal.returns-clause-missing
returns-clause-missing c = missing_agrees

pub returns-clause-length : goal.returns-clause-length
returns-clause-length c = length_agrees

pub returns-clause-window : goal.returns-clause-window
returns-clause-window c = window_agrees

pub returns-clause-read : goal.returns-clause-read
returns-clause-read c = read_agrees

pub returns-clause-fill : goal.returns-clause-fill
returns-clause-fill c = fill_agrees
