-- Texts of options that may occur more than once.
use Rattle.std.proofs.Common.{◌≡◌, ℕ, Bool, true, false, cond, List, [], ◌∷◌, ◌++◌, refl, sym, ap}
use Rattle.cli_options.specs.declared.forms.CommandOption.{CommandOption}
use Rattle.cli_options.specs.declared.said.RepeatedText.{RepeatedText}
use Rattle.cli_options.specs.Said.{is_option_of, with_repeated}
use Rattle.cli_options.specs.SaidWords.{texts_among}

-- A text before others, and one after them.
past_others : (x b : Bool) (first text : List ℕ) (more others : List (List ℕ)) → more ≡ cond b (others ++ text ∷ []) others
    → cond x (first ∷ more) more ≡ cond b (cond x (first ∷ others) others ++ text ∷ []) (cond x (first ∷ others) others)
past_others true true first text more others e = ap (λ (ts : List (List ℕ)). first ∷ ts) e
past_others true false first text more others e = ap (λ (ts : List (List ℕ)). first ∷ ts) e
past_others false b first text more others e = e

-- A text after others, as one option sees it.
one_after : (texts : List RepeatedText) (new : RepeatedText) (other : CommandOption)
    → texts_among (texts ++ new ∷ []) other ≡ with_repeated (texts_among texts) new.option new.text other
one_after [] new other = refl
one_after (r ∷ rs) new other =
    past_others (is_option_of r.option other) (is_option_of new.option other) r.text new.text
    (texts_among (rs ++ new ∷ []) other) (texts_among rs other) (one_after rs new other)

-- A text after others.
pub text_after : (texts : List RepeatedText) (new : RepeatedText)
    → with_repeated (texts_among texts) new.option new.text ≡ texts_among (texts ++ new ∷ [])
text_after texts new = λ i other. sym (one_after texts new other) i
