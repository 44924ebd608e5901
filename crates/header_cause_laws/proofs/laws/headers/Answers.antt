use Rattle.header_cause_laws.proofs.HeaderRefusals.{header_refusals_have_causes}
use Rattle.header_cause_laws.proofs.laws.headers.Goals as goal

pub returns : goal.returns
returns c = header_refusals_have_causes
