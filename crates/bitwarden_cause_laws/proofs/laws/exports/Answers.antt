use Rattle.bitwarden_cause_laws.proofs.ExportRefusals.{export_refusals_have_causes}
use Rattle.bitwarden_cause_laws.proofs.laws.exports.Goals as goal

pub returns : goal.returns
returns c = export_refusals_have_causes
