-- What words leave as it was.
use Rattle.std.proofs.Common.{◌≡◌, ◌≢◌, ℕ, Bool, true, false, not, ◌&&◌, ◌==◌, cond, List, [], ◌∷◌, ◌++◌, codes, bytes_eq, Option, Some, None, refl, sym, ◌∙◌}
use Rattle.std.specs.Option.{option_and_then}
use Rattle.std.proofs.lemmas.Bool.Decides.{Decides-eqb}
use Rattle.std.proofs.lemmas.Slice.Eq.{bytes_eq-Decides}
use Rattle.cli_options.specs.declared.names.CommandName.{CommandName}
use Rattle.cli_options.specs.declared.forms.CommandOption.{CommandOption}
use Rattle.cli_options.specs.Laws.{lack_end}
use Rattle.cli_options.specs.Options.{has_value, letter_option, name_option}
use Rattle.cli_options.specs.Prefixes.{after_sign, before_sign, strip_prefix}
use Rattle.cli_options.specs.Said.{Said, by_letter, is_option, unless_given, with_due, with_flag, with_given, with_joined, with_letters, with_long, with_next, with_option, with_option_text, with_position, with_short, with_word, with_words, without_sign}
use Rattle.cli_options.proofs.Flags.{joined, same_step, with_flags}

-- What is said, if anything is, has a property.
abbrev pub IfSaid : (Said → Type 0) → Option Said → Type 0
IfSaid P None = true ≡ true
IfSaid P (Some said) = P said

-- The same step where it is taken at all.
pub same_from : (P : Said → Type 0) (F G : Said → Option Said) → ((s : Said) → P s → F s ≡ G s) → (o : Option Said)
    → IfSaid P o → option_and_then F o ≡ option_and_then G o
same_from P F G h None p = refl
same_from P F G h (Some s) p = h s p

-- Either of two, by a test.
pub by_test : (P : Said → Type 0) (b : Bool) (x y : Option Said) → IfSaid P x → IfSaid P y → IfSaid P (cond b x y)
by_test P true x y p q = p
by_test P false x y p q = q

-- What is said unless it was before.
pub by_unless : (P : Said → Type 0) (b : Bool) (s : Said) → P s → IfSaid P (unless_given b s)
by_unless P true s p = refl
by_unless P false s p = p

-- A step after a step.
by_step : (P : Said → Type 0) (F : Said → Option Said) → ((s : Said) → P s → IfSaid P (F s)) → (o : Option Said)
    → IfSaid P o → IfSaid P (option_and_then F o)
by_step P F h None p = refl
by_step P F h (Some s) p = h s p

-- Whether `--` was there, and the option whose value is due.
abbrev pub IsState : Bool → Option CommandOption → Said → Type 0
IsState ended due said = (said.ended ≡ ended) × (said.due ≡ due)

-- An option with its text changes neither.
pub text_keeps : (ended : Bool) (due : Option CommandOption) (said : Said) (option : CommandOption) (text : List ℕ) → IsState ended due said
    → IsState ended due (with_option_text said option text)
text_keeps e d said option text p = p

-- Flags change neither.
pub flags_keep : (ended : Bool) (due : Option CommandOption) (flags : List CommandOption) (said : Said)
    → IsState ended due said → IfSaid (IsState ended due) (with_flags flags said)
flags_keep e d [] said p = p
flags_keep e d (flag ∷ flags) said p =
    by_step (IsState e d) (with_flags flags) (flags_keep e d flags) (with_given said flag [])
    (by_unless (IsState e d) _ _ (text_keeps e d said flag [] p))

-- `--` was not there.
abbrev pub IsOpen : Said → Type 0
IsOpen said = said.ended ≡ false

given_opens : (said : Said) (option : CommandOption) (text : List ℕ) → IsOpen said → IfSaid IsOpen (with_given said option text)
given_opens said option text p = by_unless IsOpen _ _ (text_keeps false said.due said option text (p, refl)).0

due_opens : (said : Said) (option : CommandOption) → IsOpen said → IfSaid IsOpen (with_due said option)
due_opens said option p = by_unless IsOpen _ _ p

flag_opens : (flag : Option CommandOption) (said : Said) → IsOpen said → IfSaid IsOpen (with_flag said flag)
flag_opens None said p = refl
flag_opens (Some option) said p = by_test IsOpen (has_value option) None (with_given said option []) refl (given_opens said option [] p)

letters_open : (command : CommandName) (letters : List ℕ) (said : Said) → IsOpen said → IfSaid IsOpen (with_letters command letters said)
letters_open command [] said p = p
letters_open command (letter ∷ letters) said p =
    by_step IsOpen (with_letters command letters) (letters_open command letters) (with_flag said (letter_option command letter))
    (flag_opens (letter_option command letter) said p)

joined_opens : (said : Said) (option : CommandOption) (text : List ℕ) → IsOpen said → IfSaid IsOpen (with_joined said option text)
joined_opens said option [] p = due_opens said option p
joined_opens said option (b ∷ bs) p = given_opens said option (without_sign (b ∷ bs)) p

letter_opens : (command : CommandName) (said : Said) (letter : ℕ) (rest : List ℕ) (option : Option CommandOption) → IsOpen said
    → IfSaid IsOpen (by_letter command said letter rest option)
letter_opens command said letter rest None p = letters_open command (letter ∷ rest) said p
letter_opens command said letter rest (Some option) p =
    by_test IsOpen (has_value option) (with_joined said option rest) (with_letters command (letter ∷ rest) said)
    (joined_opens said option rest p) (letters_open command (letter ∷ rest) said p)

short_opens : (command : CommandName) (said : Said) (letters : List ℕ) → IsOpen said → IfSaid IsOpen (with_short command said letters)
short_opens command said [] p = p
short_opens command said (letter ∷ rest) p = letter_opens command said letter rest (letter_option command letter) p

long_opens : (said : Said) (option : Option CommandOption) (value : Option (List ℕ)) → IsOpen said → IfSaid IsOpen (with_long said option value)
long_opens said None value p = refl
long_opens said (Some option) (Some value) p =
    by_test IsOpen (has_value option) (with_given said option value) None (given_opens said option value p) refl
long_opens said (Some option) None p =
    by_test IsOpen (has_value option) (with_due said option) (with_given said option []) (due_opens said option p) (given_opens said option [] p)

option_opens : (command : CommandName) (said : Said) (name letters : Option (List ℕ)) → name ≢ Some [] → IsOpen said
    → IfSaid IsOpen (with_option command said name letters)
option_opens command said (Some []) letters h p = absurd (h refl)
option_opens command said (Some (b ∷ bs)) letters h p =
    long_opens said (name_option command (before_sign (b ∷ bs))) (after_sign (b ∷ bs)) p
option_opens command said None (Some letters) h p = short_opens command said letters p
option_opens command said None None h p = refl

-- Only the word `--` is `--` with nothing after it.
only_end : (word : List ℕ) → bytes_eq word (codes "--") ≡ false → strip_prefix (codes "--") word ≢ Some []
only_end word h is =
    let both : word ≡ codes "--" = bare word is in
    let yes : bytes_eq word (codes "--") ≡ true = (bytes_eq-Decides word (codes "--")).1 both in cc (h, yes)
  where
    second : (b c : ℕ) (cs : List ℕ) (same : Bool) → c == 45 ≡ same → b ≡ 45 → cond same (Some cs) None ≡ Some []
        → b ∷ c ∷ cs ≡ codes "--"
    second b c [] true e f g = let d : c ≡ 45 = (Decides-eqb c 45).0 e in cc (d, f)
    second b c (x ∷ xs) true e f g = absurd (let no : Some (x ∷ xs) ≡ Some [] → ⊥ = λ p. cc p in no g)
    second b c cs false e f g = absurd (let no : None ≡ Some [] → ⊥ = λ p. cc p in no g)

    first : (b c : ℕ) (cs : List ℕ) (same : Bool) → b == 45 ≡ same
        → cond same (cond (c == 45) (Some cs) None) None ≡ Some [] → b ∷ c ∷ cs ≡ codes "--"
    first b c cs true e g = second b c cs (c == 45) refl ((Decides-eqb b 45).0 e) g
    first b c cs false e g = absurd (let no : None ≡ Some [] → ⊥ = λ p. cc p in no g)

    nothing : Option (List ℕ)
    nothing = None

    alone : (b : ℕ) (same : Bool) → cond same nothing nothing ≡ Some [] → b ∷ [] ≡ codes "--"
    alone b true g = absurd (let no : None ≡ Some [] → ⊥ = λ p. cc p in no g)
    alone b false g = absurd (let no : None ≡ Some [] → ⊥ = λ p. cc p in no g)

    bare : (word : List ℕ) → strip_prefix (codes "--") word ≡ Some [] → word ≡ codes "--"
    bare [] g = absurd (let no : None ≡ Some [] → ⊥ = λ p. cc p in no g)
    bare (b ∷ []) g = alone b (b == 45) g
    bare (b ∷ c ∷ cs) g = first b c cs (b == 45) refl g

next_opens : (command : CommandName) (word : List ℕ) (said : Said) (due : Option CommandOption) → bytes_eq word (codes "--") ≡ false → IsOpen said
    → IfSaid IsOpen (with_next command said word due)
next_opens command word said (Some option) h p =
    by_test IsOpen (is_option word) None (with_given (record said { due = None }) option word) refl
    (given_opens (record said { due = None }) option word p)
next_opens command word said None h p =
    by_test IsOpen (is_option word && not said.ended) _ (Some (with_position said word))
    (option_opens command said (strip_prefix (codes "--") word) (strip_prefix (codes "-") word) (only_end word h) p) p

-- The two parts of a test that is met.
pub parts : (a b : Bool) → (a && b) ≡ true → (a ≡ true) × (b ≡ true)
parts true b h = (refl, h)
parts false b h = absurd (let no : false ≡ true → ⊥ = λ p. cc p in no h)

pub unmet : (a : Bool) → not a ≡ true → a ≡ false
unmet true h = absurd (let no : false ≡ true → ⊥ = λ p. cc p in no h)
unmet false h = refl

-- Without the word `--` no words end the options.
pub words_open : (command : CommandName) (words : List (List ℕ)) (said : Said) → lack_end words ≡ true → IsOpen said
    → IfSaid IsOpen (with_words command words said)
words_open command [] said h p = p
words_open command (word ∷ words) said h p =
    let both = parts _ _ h in
    by_step IsOpen (with_words command words) (λ s q. words_open command words s both.1 q) (with_word command said word)
    (next_opens command word said said.due (unmet _ both.0) p)

-- Words after words.
pub words_appended : (command : CommandName) (words more : List (List ℕ)) (said : Said)
    → with_words command (words ++ more) said ≡ option_and_then (with_words command more) (with_words command words said)
words_appended command [] more said = refl
words_appended command (word ∷ words) more said =
    same_step (with_words command (words ++ more)) (λ s. option_and_then (with_words command more) (with_words command words s))
    (words_appended command words more) (with_word command said word)
    ∙ sym (joined (with_words command words) (with_words command more) (with_word command said word))
