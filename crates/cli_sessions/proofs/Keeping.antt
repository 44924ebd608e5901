-- What each step of reading keeps is kept by words.
use Rattle.std.proofs.Common.{ℕ, true, not, ◌&&◌, List, [], ◌∷◌, codes, Option, Some, None, refl}
use Rattle.std.specs.Option.{option_and_then}
use Rattle.cli_options.specs.declared.names.CommandName.{CommandName}
use Rattle.cli_options.specs.declared.forms.CommandOption.{CommandOption}
use Rattle.cli_options.specs.Options.{has_value, letter_option, name_option}
use Rattle.cli_options.specs.Prefixes.{after_sign, before_sign, strip_prefix}
use Rattle.cli_options.specs.Said.{Said, by_letter, is_option, is_used, with_due, with_flag, with_given, with_joined, with_letters, with_long, with_name, with_next, with_option, with_option_text, with_position, with_short, with_word, with_words, without_sign}
use Rattle.cli_options.proofs.Saying.{IfSaid, by_test, by_unless}

-- Each step keeps a property of what is said.
pub record IsKept (P : Said → Type 0) : Type 0 where
  pub text : (said : Said) (option : CommandOption) (text : List ℕ) → P said → P (with_option_text said option text)
  pub due : (said : Said) (due : Option CommandOption) → P said → P (record said { due = due })
  pub end : (said : Said) → P said → P (record said { ended = true })
  pub position : (said : Said) (word : List ℕ) → P said → P (with_position said word)

-- A step after a step.
pub by_step : (P : Said → Type 0) (F : Said → Option Said) → ((s : Said) → P s → IfSaid P (F s)) → (o : Option Said) → IfSaid P o
    → IfSaid P (option_and_then F o)
by_step P F h None p = refl
by_step P F h (Some s) p = h s p

module _ (P : Said → Type 0) (k : IsKept P) where
  pub given_keeps : (said : Said) (option : CommandOption) (text : List ℕ) → P said → IfSaid P (with_given said option text)
  given_keeps said option text p =
      by_unless P (is_used option said.given) (with_option_text said option text) (k.text said option text p)

  due_keeps : (said : Said) (option : CommandOption) → P said → IfSaid P (with_due said option)
  due_keeps said option p =
      by_unless P (is_used option said.given) (record said { due = Some option }) (k.due said (Some option) p)

  pub flag_keeps : (flag : Option CommandOption) (said : Said) → P said → IfSaid P (with_flag said flag)
  flag_keeps None said p = refl
  flag_keeps (Some option) said p =
      by_test P (has_value option) None (with_given said option []) refl (given_keeps said option [] p)

  pub letters_keep : (command : CommandName) (letters : List ℕ) (said : Said) → P said → IfSaid P (with_letters command letters said)
  letters_keep command [] said p = p
  letters_keep command (letter ∷ letters) said p =
      by_step P (with_letters command letters) (letters_keep command letters) (with_flag said (letter_option command letter))
      (flag_keeps (letter_option command letter) said p)

  joined_keeps : (said : Said) (option : CommandOption) (text : List ℕ) → P said → IfSaid P (with_joined said option text)
  joined_keeps said option [] p = due_keeps said option p
  joined_keeps said option (b ∷ bs) p = given_keeps said option (without_sign (b ∷ bs)) p

  letter_keeps : (command : CommandName) (said : Said) (letter : ℕ) (rest : List ℕ) (option : Option CommandOption) → P said
      → IfSaid P (by_letter command said letter rest option)
  letter_keeps command said letter rest None p = letters_keep command (letter ∷ rest) said p
  letter_keeps command said letter rest (Some option) p =
      by_test P (has_value option) (with_joined said option rest) (with_letters command (letter ∷ rest) said)
      (joined_keeps said option rest p) (letters_keep command (letter ∷ rest) said p)

  short_keeps : (command : CommandName) (said : Said) (letters : List ℕ) → P said → IfSaid P (with_short command said letters)
  short_keeps command said [] p = p
  short_keeps command said (letter ∷ rest) p = letter_keeps command said letter rest (letter_option command letter) p

  long_keeps : (said : Said) (option : Option CommandOption) (value : Option (List ℕ)) → P said → IfSaid P (with_long said option value)
  long_keeps said None value p = refl
  long_keeps said (Some option) (Some value) p =
      by_test P (has_value option) (with_given said option value) None (given_keeps said option value p) refl
  long_keeps said (Some option) None p =
      by_test P (has_value option) (with_due said option) (with_given said option []) (due_keeps said option p) (given_keeps said option [] p)

  name_keeps : (command : CommandName) (said : Said) (name : List ℕ) → P said → IfSaid P (with_name command said name)
  name_keeps command said [] p = k.end said p
  name_keeps command said (b ∷ bs) p =
      long_keeps said (name_option command (before_sign (b ∷ bs))) (after_sign (b ∷ bs)) p

  option_keeps : (command : CommandName) (said : Said) (name letters : Option (List ℕ)) → P said → IfSaid P (with_option command said name letters)
  option_keeps command said (Some name) letters p = name_keeps command said name p
  option_keeps command said None (Some letters) p = short_keeps command said letters p
  option_keeps command said None None p = refl

  next_keeps : (command : CommandName) (word : List ℕ) (said : Said) (due : Option CommandOption) → P said
      → IfSaid P (with_next command said word due)
  next_keeps command word said (Some option) p =
      by_test P (is_option word) None (with_given (record said { due = None }) option word) refl
      (given_keeps (record said { due = None }) option word (k.due said None p))
  next_keeps command word said None p =
      by_test P (is_option word && not said.ended)
      (with_option command said (strip_prefix (codes "--") word) (strip_prefix (codes "-") word)) (Some (with_position said word))
      (option_keeps command said (strip_prefix (codes "--") word) (strip_prefix (codes "-") word) p) (k.position said word p)

  -- Words keep it.
  pub words_keep : (command : CommandName) (words : List (List ℕ)) (said : Said) → P said → IfSaid P (with_words command words said)
  words_keep command [] said p = p
  words_keep command (word ∷ words) said p =
      by_step P (with_words command words) (words_keep command words) (with_word command said word)
      (next_keeps command word said said.due p)
