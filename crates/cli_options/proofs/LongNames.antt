-- An option of two `-` and its name.
use Rattle.std.proofs.Common.{◌≡◌, ◌==◌, ℕ, true, false, length, List, [], ◌∷◌, refl}
use Rattle.cli_options.specs.declared.names.CommandName.{CommandName}
use Rattle.cli_options.specs.Options.{name_option}
use Rattle.cli_options.specs.Prefixes.{after_sign, before_sign}
use Rattle.cli_options.specs.Said.{Said, with_long, with_name}

-- A name that is not empty, and the option that it names before its `=`.
pub long_named : (command : CommandName) (said : Said) (name : List ℕ) → (length name == 0) ≡ false
    → with_name command said name ≡ with_long said (name_option command (before_sign name)) (after_sign name)
long_named command said [] h = absurd (let no : true ≡ false → ⊥ = λ p. cc p in no h)
long_named command said (b ∷ bs) h = refl
