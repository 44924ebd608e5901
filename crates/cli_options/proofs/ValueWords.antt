-- An option with its value, by the cases of a call.
use Rattle.std.proofs.Common.{◌≡◌, ◌==◌, ◌∙◌, ap, ℕ, Bool, true, false, cond, length, List, [], ◌∷◌, Option, Some, None, refl}
use Rattle.cli_options.specs.declared.names.CommandName.{CommandName}
use Rattle.cli_options.specs.declared.forms.CommandOption.{CommandOption}
use Rattle.cli_options.specs.Options.{has_value}
use Rattle.cli_options.specs.Said.{Said, is_option, with_given, with_joined, with_long, with_next, with_word, without_sign}

-- A value after the letter of its option.
pub joined_given : (said : Said) (option : CommandOption) (text : List ℕ) → (length text == 0) ≡ false
    → with_joined said option text ≡ with_given said option (without_sign text)
joined_given said option [] h = absurd (let no : true ≡ false → ⊥ = λ p. cc p in no h)
joined_given said option (b ∷ bs) h = refl

-- A value after the name of its option.
pub long_given : (said : Said) (option : CommandOption) (value : List ℕ) → has_value option ≡ true
    → with_long said (Some option) (Some value) ≡ with_given said option value
long_given said option value h = ap (λ (b : Bool). cond b (with_given said option value) None) h

-- A value in the word after that of its option.
pub next_given : (command : CommandName) (said : Said) (option : CommandOption) (word : List ℕ) → said.due ≡ Some option
    → is_option word ≡ false → with_word command said word ≡ with_given (record said { due = None }) option word
next_given command said option word d o =
    ap (λ (due : Option CommandOption). with_next command said word due) d
    ∙ ap (λ (b : Bool). cond b None (with_given (record said { due = None }) option word)) o
