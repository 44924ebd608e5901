use Rattle.import_cause_laws.proofs.SafeRefusals.{safe_refusals_have_causes}
use Rattle.import_cause_laws.proofs.laws.psafe_files.Goals as goal

pub returns : goal.returns
returns c = safe_refusals_have_causes
