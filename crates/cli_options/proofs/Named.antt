-- The names of options.
use Rattle.std.proofs.Common.{◌≡◌, ℕ, Bool, true, false, cond, List, [], ◌∷◌, bytes_eq, Option, Some, None, refl, subst}
use Rattle.std.proofs.lemmas.Slice.Eq.{bytes_eq-Decides}
use Rattle.cli_options.specs.declared.names.CommandName.{CommandName}
use Rattle.cli_options.specs.declared.forms.CommandOption.{CommandOption}
use Rattle.cli_options.specs.Options.{form_of, name_option, options_of, with_name}

-- An option, if there is one, has this name.
abbrev IsNamed : List ℕ → Option CommandOption → Type 0
IsNamed name None = true ≡ true
IsNamed name (Some option) = (form_of option).name ≡ name

found_named : (name : List ℕ) (options : List CommandOption) → IsNamed name (with_name name options)
found_named name [] = refl
found_named name (option ∷ options) = by (bytes_eq (form_of option).name name) refl (found_named name options)
  where
    by : (b : Bool) → bytes_eq (form_of option).name name ≡ b → IsNamed name (with_name name options)
        → IsNamed name (cond b (Some option) (with_name name options))
    by true e h = (bytes_eq-Decides (form_of option).name name).0 e
    by false e h = h

-- The option of a name has that name.
pub named : (command : CommandName) (name : List ℕ) (option : CommandOption) → name_option command name ≡ Some option
    → (form_of option).name ≡ name
named command name option e =
    subst (IsNamed name) e (found_named name (options_of command))
