use Rattle.cli_profiles.proofs.Alphabets.{is_profile}
use Rattle.cli_profiles.proofs.laws.profiles_have_passwords.Goals as goal

pub returns : goal.returns
returns c = is_profile
