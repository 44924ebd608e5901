-- Words after `--`.
use Rattle.std.proofs.Common.{◌≡◌, ℕ, Bool, true, false, not, ◌&&◌, cond, List, [], ◌∷◌, ◌++◌, codes, Option, Some, None, refl, sym, ap, ◌∙◌}
use Rattle.std.proofs.lemmas.List.{append-nil, append_assoc}
use Rattle.std.specs.Option.{option_and_then}
use Rattle.cli_options.specs.declared.names.CommandName.{CommandName}
use Rattle.cli_options.specs.declared.forms.CommandOption.{CommandOption}
use Rattle.cli_options.specs.Prefixes.{strip_prefix}
use Rattle.cli_options.specs.Said.{Said, is_option, nothing_said, with_next, with_option, with_position, with_word, with_words}
use Rattle.cli_options.proofs.FlagWords.{read_option}
use Rattle.cli_options.proofs.Saying.{IsState, words_appended}

no_option : (b : Bool) (x y : Option Said) → cond (b && false) x y ≡ y
no_option true x y = refl
no_option false x y = refl

-- A word after `--`.
word_after : (command : CommandName) (word : List ℕ) (said : Said) → said.ended ≡ true → said.due ≡ None
    → with_word command said word ≡ Some (with_position said word)
word_after command word said e d =
    ap (λ (due : Option CommandOption). with_next command said word due) d
    ∙ ap (λ (b : Bool). cond (is_option word && not b) (with_option command said (strip_prefix (codes "--") word) (strip_prefix (codes "-") word)) (Some (with_position said word))) e
    ∙ no_option (is_option word) _ _

-- All words after `--`.
words_after : (command : CommandName) (words : List (List ℕ)) (said : Said) → IsState true None said
    → with_words command words said ≡ Some (record said { positions = said.positions ++ words })
words_after command [] said p = ap (λ (texts : List (List ℕ)). Some (record said { positions = texts })) (sym (append-nil said.positions))
words_after command (word ∷ words) said p =
    ap (option_and_then (with_words command words)) (word_after command word said p.0 p.1)
    ∙ words_after command words (with_position said word) p
    ∙ ap (λ (texts : List (List ℕ)). Some (record said { positions = texts })) (append_assoc said.positions (word ∷ []) words)

-- The word `--` and all words after it.
pub end_said : (command : CommandName) (before words : List (List ℕ)) (said : Said) → with_words command before nothing_said ≡ Some said
    → said.due ≡ None → said.ended ≡ false
    → with_words command (before ++ codes "--" ∷ words) nothing_said ≡ Some (record said { ended = true; positions = said.positions ++ words })
end_said command before words said is d e =
    words_appended command before (codes "--" ∷ words) nothing_said
    ∙ ap (option_and_then (with_words command (codes "--" ∷ words))) is
    ∙ ap (option_and_then (with_words command words)) (read_option command said (codes "--") refl e d)
    ∙ words_after command words (record said { ended = true }) (refl, d)
