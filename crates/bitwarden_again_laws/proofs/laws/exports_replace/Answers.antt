use Rattle.bitwarden_again_laws.proofs.Replacing.{exports_replace}
use Rattle.bitwarden_again_laws.proofs.laws.exports_replace.Goals as goal

pub returns : goal.returns
returns c = exports_replace
