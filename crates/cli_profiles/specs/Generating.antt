-- Whether the password of an entry is to be generated.
use Rattle.std.specs.Prelude.{Bool, ◌||◌, if◌then◌else◌, Option, None, Some, option_map}
use Rattle.cli_options.specs.declared.forms.CommandOption.TheVariants as option
use Rattle.cli_options.specs.Said.{Said, is_given}
use Rattle.cli_profiles.specs.Profiles.{has_class, profile_in}
use Rattle.cli_profiles.specs.declared.profiles.PasswordProfile.{PasswordProfile}

-- An option of a profile is given.
abbrev pub has_profile_option : Said → Bool
has_profile_option said =
    is_given option.Length said || is_given option.Exclude said || has_class said

-- The profile of a generated password that is to be an entry's, unless its password is a line of the
-- input.
abbrev pub profile_alone : Said → Option (Option PasswordProfile)
profile_alone said =
    if is_given option.EntryPassword said then None else option_map Some (profile_in said)

-- The profile by which the password of an entry is generated, where that is asked for: with
-- `--generate` a profile is needed, and without it no option may be one of a profile.
abbrev pub generated_in : Said → Option (Option PasswordProfile)
generated_in said =
    if is_given option.Generate said then profile_alone said
    else (if has_profile_option said then None else Some None)
