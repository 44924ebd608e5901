use Rattle.bitwarden_again_laws.proofs.Imported.{example_is_imported}
use Rattle.bitwarden_again_laws.proofs.laws.example_is_imported.Goals as goal

pub returns : goal.returns
returns c = example_is_imported
