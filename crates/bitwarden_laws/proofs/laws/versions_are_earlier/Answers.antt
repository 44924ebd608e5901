use Rattle.bitwarden_laws.proofs.Passwords.{earlier}
use Rattle.bitwarden_laws.proofs.laws.versions_are_earlier.Goals as goal

pub returns : goal.returns
returns c = earlier
