-- What a word after `-` or `--` can be.
use Rattle.std.specs.Prelude.{◌≡◌, ℕ, true, Contains, List, Some, IfSome}
use Rattle.cli_options.specs.declared.names.CommandName.{CommandName}
use Rattle.cli_options.specs.declared.forms.CommandOption.{CommandOption}
use Rattle.cli_options.specs.Options.{form_of, has_letter, letter_option, name_option, options_of}

-- An option is found by its long name, and by its letter where it has one.
abbrev pub IsFound : CommandName → CommandOption → Type 0
IsFound command option =
    (name_option command (form_of option).name ≡ Some option)
    × IfSome (form_of option).letter (λ letter. letter_option command letter ≡ Some option)

-- A command takes an option of this letter.
abbrev pub TakesLetter : CommandName → ℕ → CommandOption → Type 0
TakesLetter command letter option =
    Contains (options_of command) option × (has_letter option letter ≡ true)

-- A command takes an option of this long name.
abbrev pub TakesName : CommandName → List ℕ → CommandOption → Type 0
TakesName command name option =
    Contains (options_of command) option × ((form_of option).name ≡ name)
