use Rattle.import_cause_laws.proofs.TableRefusals.{table_refusals_have_causes}
use Rattle.import_cause_laws.proofs.laws.tables.Goals as goal

pub returns : goal.returns
returns c = table_refusals_have_causes
