-- A run is a schedule, so the laws of schedules hold of it.
use Rattle.agreed_laws.proofs.Runs.{run_agree, run_join, run_schedule}
use Rattle.agreed_laws.proofs.laws.runs.Goals as goal

pub returns-clause-schedules : goal.returns-clause-schedules
returns-clause-schedules c S docs xs r = run_schedule S docs xs r

pub returns-clause-learned : goal.returns-clause-learned
returns-clause-learned c S docs xs r = run_join S docs xs r

pub returns-clause-same : goal.returns-clause-same
returns-clause-same c S docs xs r = run_agree S docs xs r
