-- The first option that is found, in two lists one after the other.
use Rattle.std.proofs.Common.{◌≡◌, ℕ, List}
use Rattle.std.specs.Option.{option_or}
use Rattle.std.proofs.lemmas.List.Folds.{find-append}
use Rattle.cli_options.specs.declared.names.CommandName.{CommandName}
use Rattle.cli_options.specs.Options.{letter_option, name_option, own_options, shared_options, with_letter, with_name}

-- An option of this letter is one of the command's own, or else a shared one.
pub letter_found : (command : CommandName) (letter : ℕ)
    → letter_option command letter ≡ option_or (with_letter letter (own_options command)) (with_letter letter (shared_options command))
letter_found command letter = find-append _ (own_options command) (shared_options command)

-- The same of a long name.
pub name_found : (command : CommandName) (name : List ℕ)
    → name_option command name ≡ option_or (with_name name (own_options command)) (with_name name (shared_options command))
name_found command name = find-append _ (own_options command) (shared_options command)
