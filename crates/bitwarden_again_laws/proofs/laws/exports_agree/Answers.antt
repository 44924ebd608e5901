use Rattle.bitwarden_again_laws.proofs.Replacing.{exports_agree}
use Rattle.bitwarden_again_laws.proofs.laws.exports_agree.Goals as goal

pub returns : goal.returns
returns c = exports_agree
