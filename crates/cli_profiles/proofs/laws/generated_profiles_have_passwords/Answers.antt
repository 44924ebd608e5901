use Rattle.cli_profiles.proofs.Alphabets.{is_generated}
use Rattle.cli_profiles.proofs.laws.generated_profiles_have_passwords.Goals as goal

pub returns : goal.returns
returns c = is_generated
