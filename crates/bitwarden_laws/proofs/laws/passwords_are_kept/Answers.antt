use Rattle.bitwarden_laws.proofs.Passwords.{kept}
use Rattle.bitwarden_laws.proofs.laws.passwords_are_kept.Goals as goal

pub returns : goal.returns
returns c = kept
