use Rattle.header_cause_laws.proofs.KeyRefusals.{key_refusals_have_causes}
use Rattle.header_cause_laws.proofs.laws.key_files.Goals as goal

pub returns : goal.returns
returns c = key_refusals_have_causes
