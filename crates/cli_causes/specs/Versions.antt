-- What is wrong in what is said of a version of an entry.
use Rattle.std.specs.Prelude.{ℕ, if◌then◌else◌, is_some, List, [], ◌∷◌, Option, None, Some, option_map}
use Rattle.std.specs.List.{find}
use Rattle.std.specs.Option.{option_or}
use Rattle.cli_options.specs.declared.forms.CommandOption.{CommandOption}
use Rattle.cli_options.specs.declared.forms.CommandOption.TheVariants as option
use Rattle.cli_options.specs.Said.{Said, is_given}
use Rattle.cli_parse.specs.Words.{version_numbered}
use Rattle.cli_causes.specs.declared.cause.Cause.{Cause}
use Rattle.cli_causes.specs.declared.cause.Cause.TheVariants.{NotTogether, UnknownNumber}

-- A number of a version that is none, if this option names one.
abbrev pub number_cause : CommandOption → Option (List ℕ) → Option Cause
number_cause option None = None
number_cause option (Some text) =
    if is_some (version_numbered text) then None else Some (UnknownNumber option text)

-- The options that change an entry, or say how its password is generated.
abbrev pub entry_options : List CommandOption
entry_options =
    option.Title ∷ option.User ∷ option.Url ∷ option.Notes ∷ option.EntryPassword
    ∷ option.Generate ∷ option.Otp ∷ option.Set ∷ option.Protect ∷ option.Unset ∷ option.Tag
    ∷ option.Untag ∷ option.Expires ∷ option.Length ∷ option.Exclude ∷ option.Lower
    ∷ option.Upper ∷ option.Numeric ∷ option.Special ∷ []

-- The first of these options that is given.
abbrev pub first_given : Said → List CommandOption → Option CommandOption
first_given said = find (λ option. is_given option said)

-- An entry is changed beside a version of it that is restored.
abbrev pub beside_cause : Said → Option Cause
beside_cause said = option_map (NotTogether option.Restore) (first_given said entry_options)

-- What is said of a version that is restored does not fit: something is changed beside it, or its
-- number is none.
abbrev pub restore_cause : Said → List ℕ → Option Cause
restore_cause said text = option_or (beside_cause said) (number_cause option.Restore (Some text))
