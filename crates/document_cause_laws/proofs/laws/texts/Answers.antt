use Rattle.document_cause_laws.proofs.DocumentRefusals.{document_refusals_have_causes}
use Rattle.document_cause_laws.proofs.laws.texts.Goals as goal

pub returns : goal.returns
returns c = document_refusals_have_causes
