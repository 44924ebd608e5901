-- A word names one option.
use Rattle.std.proofs.Common.{◌≡◌, ℕ, List, [], ◌∷◌, Some, None, sym, ap, ◌∙◌}
use Rattle.cli_options.specs.declared.names.CommandName.{CommandName}
use Rattle.cli_options.specs.declared.forms.CommandOption.{CommandOption}
use Rattle.cli_options.specs.Options.{letter_option}
use Rattle.cli_options.proofs.Letters.{no_dash}
use Rattle.cli_options.specs.Laws.{IsNameOf, long, short}

-- A word of a letter is none of a long name.
no_letter : (command : CommandName) (option : CommandOption) (name : List ℕ) (letter : ℕ) → 45 ∷ 45 ∷ name ≡ 45 ∷ letter ∷ []
    → letter_option command letter ≡ Some option → ⊥
no_letter command option name letter same e =
    let is : letter ≡ 45 = cc same in
    let no : None ≡ Some option → ⊥ = λ p. cc p in
    no (sym (no_dash command) ∙ ap (letter_option command) (sym is) ∙ e)

pub one_option : (command : CommandName) (f g : CommandOption) (word : List ℕ) → IsNameOf command f word → IsNameOf command g word → f ≡ g
one_option command f g word (long n e w) (long m d v) =
    let same : 45 ∷ 45 ∷ n ≡ 45 ∷ 45 ∷ m = sym w ∙ v in cc (same, e, d)
one_option command f g word (short l e w) (short m d v) =
    let same : 45 ∷ l ∷ [] ≡ 45 ∷ m ∷ [] = sym w ∙ v in cc (same, e, d)
one_option command f g word (long n e w) (short l d v) = absurd (no_letter command g n l (sym w ∙ v) d)
one_option command f g word (short l e w) (long n d v) = absurd (no_letter command f n l (sym v ∙ w) e)
