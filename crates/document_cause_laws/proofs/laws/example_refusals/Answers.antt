use Rattle.document_cause_laws.proofs.Examples.{example_depths, example_faults, example_refusals}
use Rattle.document_cause_laws.proofs.laws.example_refusals.Goals as goal

pub returns-clause-refusals : goal.returns-clause-refusals
returns-clause-refusals c = example_refusals

pub returns-clause-faults : goal.returns-clause-faults
returns-clause-faults c = example_faults

pub returns-clause-depths : goal.returns-clause-depths
returns-clause-depths c = example_depths
