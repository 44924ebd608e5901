use Rattle.outcome_laws.proofs.Agreeing.{only_named_files_count, only_named_is_written, pages_need_no_file}
use Rattle.outcome_laws.proofs.laws.only_named_files.Goals as goal

pub returns-clause-outcome : goal.returns-clause-outcome
returns-clause-outcome c = only_named_files_count

pub returns-clause-written : goal.returns-clause-written
returns-clause-written c = only_named_is_written

pub returns-clause-page : goal.returns-clause-page
returns-clause-page c = pages_need_no_file
