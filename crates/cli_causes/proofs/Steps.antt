-- One word more.
use Rattle.std.proofs.Common.{◌≡◌, ℕ, List, [], ◌∷◌, Option, Some, None, refl}
use Rattle.std.specs.Option.{option_and_then}
use Rattle.cli_options.specs.declared.names.CommandName.{CommandName}
use Rattle.cli_options.specs.Said.{Said, with_word, with_words}

then_kept : (command : CommandName) (o : Option Said) → option_and_then (with_words command []) o ≡ o
then_kept command None = refl
then_kept command (Some said) = refl

-- One word is read as a word more.
pub one_word : (command : CommandName) (word : List ℕ) (said : Said)
    → with_words command (word ∷ []) said ≡ with_word command said word
one_word command word said = then_kept command (with_word command said word)
