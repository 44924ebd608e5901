use Rattle.serde_json.specs.View.{view}
use Rattle.bitwarden_core.proofs.NotNil.{export_not_nil}
use Rattle.bitwarden_core.proofs.import.import_bitwarden.Goals as goal

pub document_at-imported-requires : goal.document_at-imported-requires
document_at-imported-requires c = export_not_nil c.args.bytes.now (view c.in_ok-export.export) c.in_ok-export.ensures
