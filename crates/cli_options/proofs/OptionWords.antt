-- Words that say an option and nothing else.
use Rattle.std.proofs.Common.{◌≡◌, ◌≢◌, ◌==◌, inl, ℕ, Bool, true, false, cond, List, [], ◌∷◌, ◌++◌, codes, Option, Some, None, refl, sym, ap, subst, ◌∙◌}
use Rattle.std.specs.Option.{option_and_then}
use Rattle.std.proofs.lemmas.Bool.Decides.{Decides-eqb}
use Rattle.std.proofs.lemmas.List.{append_assoc}
use Rattle.cli_options.specs.declared.names.CommandName.{CommandName}
use Rattle.cli_options.specs.declared.forms.CommandOption.{CommandOption}
use Rattle.cli_options.specs.declared.forms.CommandOption.TheVariants.{Recursive, Flat, Quiet, Plain, NoPassword, KeyFile, Title, User, Url, Notes, EntryPassword, SameCredentials, DryRun, KeyFileFrom, NoPasswordFrom, Clear, All, Attachments, Format, Attribute, SetPassword, SetKeyFile, ImportFormat, Totp, Generate, Length, Lower, Upper, Numeric, Special, Exclude, Otp, Cipher, Kdf, Rounds, Memory, Lanes, UnsetPassword, UnsetKeyFile, FileVersion, DatabaseName, At, Restore, Details, Ids, Set, Protect, Unset, Tag, Untag, Expires, Stdout, Force}
use Rattle.cli_options.specs.Options.{form_of, has_value, letter_option, name_option}
use Rattle.cli_options.proofs.Letters.{no_dash}
use Rattle.cli_options.proofs.Named.{named}
use Rattle.cli_options.specs.Laws.{IsNameOf, long, short, SayOption, flag, apart, after_sign, after_letter, lack_end}
use Rattle.cli_options.specs.Said.{Said, by_letter, is_option, is_used, nothing_said, unless_given, with_due, with_flag, with_given, with_joined, with_letters, with_long, with_name, with_option, with_option_text, with_word, with_words, without_sign}
use Rattle.cli_options.proofs.Flags.{given_past_given, joined}
use Rattle.cli_options.proofs.FlagWords.{due_refused, name_whole, read_option, same_after}
use Rattle.cli_options.proofs.Saying.{IsOpen, IsState, by_unless, same_from, text_keeps}

-- A name that is read whole before `=` and a value.
abbrev IsValued : List ℕ → Type 0
IsValued name = (command : CommandName) (said : Said) (value : List ℕ)
    → with_name command said (name ++ 61 ∷ value) ≡ with_long said (name_option command name) (Some value)

name_valued : (option : CommandOption) → IsValued (form_of option).name
name_valued Recursive = λ c s v. refl
name_valued Flat = λ c s v. refl
name_valued Quiet = λ c s v. refl
name_valued Plain = λ c s v. refl
name_valued NoPassword = λ c s v. refl
name_valued KeyFile = λ c s v. refl
name_valued Title = λ c s v. refl
name_valued User = λ c s v. refl
name_valued Url = λ c s v. refl
name_valued Notes = λ c s v. refl
name_valued EntryPassword = λ c s v. refl
name_valued SameCredentials = λ c s v. refl
name_valued DryRun = λ c s v. refl
name_valued KeyFileFrom = λ c s v. refl
name_valued NoPasswordFrom = λ c s v. refl
name_valued Clear = λ c s v. refl
name_valued All = λ c s v. refl
name_valued Attachments = λ c s v. refl
name_valued Format = λ c s v. refl
name_valued Attribute = λ c s v. refl
name_valued SetPassword = λ c s v. refl
name_valued SetKeyFile = λ c s v. refl
name_valued ImportFormat = λ c s v. refl
name_valued Totp = λ c s v. refl
name_valued Generate = λ c s v. refl
name_valued Length = λ c s v. refl
name_valued Lower = λ c s v. refl
name_valued Upper = λ c s v. refl
name_valued Numeric = λ c s v. refl
name_valued Special = λ c s v. refl
name_valued Exclude = λ c s v. refl
name_valued Otp = λ c s v. refl
name_valued Cipher = λ c s v. refl
name_valued Kdf = λ c s v. refl
name_valued Rounds = λ c s v. refl
name_valued Memory = λ c s v. refl
name_valued Lanes = λ c s v. refl
name_valued UnsetPassword = λ c s v. refl
name_valued UnsetKeyFile = λ c s v. refl
name_valued FileVersion = λ c s v. refl
name_valued DatabaseName = λ c s v. refl
name_valued At = λ c s v. refl
name_valued Restore = λ c s v. refl
name_valued Details = λ c s v. refl
name_valued Ids = λ c s v. refl
name_valued Set = λ c s v. refl
name_valued Protect = λ c s v. refl
name_valued Unset = λ c s v. refl
name_valued Tag = λ c s v. refl
name_valued Untag = λ c s v. refl
name_valued Expires = λ c s v. refl
name_valued Stdout = λ c s v. refl
name_valued Force = λ c s v. refl

-- The letter of an option is not `-`.
no_sign : (command : CommandName) (letter : ℕ) (option : CommandOption) → letter_option command letter ≡ Some option → (letter == 45) ≡ false
no_sign command letter option e = by (letter == 45) refl
  where
    by : (b : Bool) → (letter == 45) ≡ b → b ≡ false
    by true same =
        let is : letter ≡ 45 = (Decides-eqb letter 45).0 same in
        absurd (let no : None ≡ Some option → ⊥ = λ p. cc p in no (sym (no_dash command) ∙ ap (letter_option command) (sym is) ∙ e))
    by false same = refl

-- A word that is an option, and what it says where it is read as one.
record Reads (command : CommandName) (word : List ℕ) (says : Said → Option Said) : Type 0 where
  option : is_option word ≡ true
  said : (said : Said) → said.ended ≡ false → said.due ≡ None → with_word command said word ≡ says said

-- A letter with what follows it in its word.
letter_read : (command : CommandName) (letter : ℕ) (rest : List ℕ) (option : CommandOption) → letter_option command letter ≡ Some option
    → Reads command (codes "-" ++ letter ∷ rest) (λ said. by_letter command said letter rest (Some option))
letter_read command letter rest option e = record {
  option = refl;
  said = λ said n d.
      read_option command said (codes "-" ++ letter ∷ rest) refl n d
      ∙ ap (λ (b : Bool). with_option command said (cond b (Some rest) None) (Some (letter ∷ rest))) (no_sign command letter option e)
      ∙ ap (by_letter command said letter rest) e;
}

-- A step that does nothing more.
no_step : (o : Option Said) → option_and_then (λ s. Some s) o ≡ o
no_step None = refl
no_step (Some s) = refl

-- What a name says: a flag, or an option whose value is due.
abbrev by_name : CommandOption → Said → Option Said
by_name option said = cond (has_value option) (with_due said option) (with_given said option [])

letter_alone : (command : CommandName) (letter : ℕ) (option : CommandOption) → letter_option command letter ≡ Some option → (said : Said)
    → by_letter command said letter [] (Some option) ≡ by_name option said
letter_alone command letter option e said =
    ap (λ (o : Option CommandOption). cond (has_value option) (with_due said option) (option_and_then (with_letters command []) (with_flag said o))) e
    ∙ by (has_value option)
  where
    by : (b : Bool)
        → cond b (with_due said option) (option_and_then (with_letters command []) (cond b None (with_given said option [])))
        ≡ cond b (with_due said option) (with_given said option [])
    by true = refl
    by false = no_step (with_given said option [])

name_read : (command : CommandName) (option : CommandOption) (word : List ℕ) → IsNameOf command option word
    → Reads command word (by_name option)
name_read command option word (long name e is) = rw is record {
  option = refl;
  said = λ said n d.
      read_option command said (codes "--" ++ name) refl n d
      ∙ subst (λ (text : List ℕ). with_name command said text ≡ with_long said (name_option command text) None) (named command name option e) (name_whole option command said)
      ∙ ap (λ (x : Option CommandOption). with_long said x None) e;
}
name_read command option word (short letter e is) =
    let read = letter_read command letter [] option e in
    rw is record { option = read.option; said = λ said n d. read.said said n d ∙ letter_alone command letter option e said }

-- Words that begin with an option and say an option with this text.
record ReadAs (command : CommandName) (option : CommandOption) (text : List ℕ) (words : List (List ℕ)) : Type 0 where
  first : List ℕ
  rest : List (List ℕ)
  is : words ≡ first ∷ rest
  begins : is_option first ≡ true
  said : (more : List (List ℕ)) (said : Said) → said.ended ≡ false → said.due ≡ None
      → with_words command (words ++ more) said ≡ option_and_then (with_words command more) (with_given said option text)

-- One word.
one_word : (command : CommandName) (option : CommandOption) (text word : List ℕ) (says : Said → Option Said) → Reads command word says
    → ((said : Said) → says said ≡ with_given said option text) → ReadAs command option text (word ∷ [])
one_word command option text word says read same = record {
  first = word;
  rest = [];
  is = refl;
  begins = read.option;
  said = λ more said n d. ap (option_and_then (with_words command more)) (read.said said n d ∙ same said);
}

-- A value where it is due.
value_said : (command : CommandName) (option : CommandOption) (value : List ℕ) (more : List (List ℕ)) (said : Said) → is_option value ≡ false
    → said.due ≡ None
    → option_and_then (with_words command (value ∷ more)) (with_due said option) ≡ option_and_then (with_words command more) (with_given said option value)
value_said command option value more said o d = by (is_used option said.given) refl
  where
    by : (b : Bool) → is_used option said.given ≡ b
        → option_and_then (with_words command (value ∷ more)) (unless_given b (record said { due = Some option }))
        ≡ option_and_then (with_words command more) (unless_given b (with_option_text said option value))
    by true e = refl
    by false e =
        ap (λ (x : Bool). option_and_then (with_words command more) (cond x None (with_given (record said { due = None }) option value))) o
        ∙ ap (λ (due : Option CommandOption). option_and_then (with_words command more) (with_given (record said { due = due }) option value)) (sym d)
        ∙ ap (λ (x : Bool). option_and_then (with_words command more) (unless_given x (with_option_text said option value))) e

-- A letter with its value after it.
after_letter_said : (command : CommandName) (letter byte : ℕ) (bytes : List ℕ) (option : CommandOption) → has_value option ≡ true → (said : Said)
    → by_letter command said letter (byte ∷ bytes) (Some option) ≡ with_given said option (without_sign (byte ∷ bytes))
after_letter_said command letter byte bytes option v said =
    ap (λ (b : Bool). cond b (with_joined said option (byte ∷ bytes)) (with_letters command (letter ∷ byte ∷ bytes) said)) v

words_read : (command : CommandName) (option : CommandOption) (words : List (List ℕ)) → SayOption command option words
    → (text : List ℕ) × ReadAs command option text words
words_read command option words (flag word v is same) =
    rw same (
      [],
      one_word command option [] word (by_name option) (name_read command option word is)
          (λ said. ap (λ (b : Bool). cond b (with_due said option) (with_given said option [])) v),
    )
words_read command option words (apart word value v is o same) =
    let read = name_read command option word is in
    rw same (
      value,
      record {
        first = word;
        rest = value ∷ [];
        is = refl;
        begins = read.option;
        said = λ more said n d.
            ap (option_and_then (with_words command (value ∷ more)))
            (read.said said n d ∙ ap (λ (b : Bool). cond b (with_due said option) (with_given said option [])) v)
            ∙ value_said command option value more said o d;
      },
    )
words_read command option words (after_sign name value v e same) =
    rw same (
      value,
      one_word command option value (codes "--" ++ name ++ codes "=" ++ value) (λ said. with_long said (Some option) (Some value))
          record {
            option = refl;
            said = λ said n d.
                read_option command said (codes "--" ++ name ++ codes "=" ++ value) refl n d
                ∙ ap (with_name command said) (append_assoc name (codes "=") value)
                ∙ subst (λ (text : List ℕ). with_name command said (text ++ 61 ∷ value) ≡ with_long said (name_option command text) (Some value)) (named command name option e)
                (name_valued option command said value)
                ∙ ap (λ (x : Option CommandOption). with_long said x (Some value)) e;
          }
          (λ said. ap (λ (b : Bool). cond b (with_given said option value) None) v),
    )
words_read command option words (after_letter letter byte bytes v e same) =
    rw same (
      without_sign (byte ∷ bytes),
      one_word command option (without_sign (byte ∷ bytes)) (codes "-" ++ letter ∷ byte ∷ bytes) _
          (letter_read command letter (byte ∷ bytes) option e) (after_letter_said command letter byte bytes option v),
    )

-- Options after options.
both_read : (command : CommandName) (f g : CommandOption) (t u : List ℕ) (a b : List (List ℕ)) → ReadAs command f t a → ReadAs command g u b
    → (more : List (List ℕ)) (said : Said) → said.ended ≡ false → said.due ≡ None
    → with_words command (a ++ (b ++ more)) said
    ≡ option_and_then (with_words command more) (option_and_then (λ s. with_given s g u) (with_given said f t))
both_read command f g t u a b one two more said e d =
    one.said (b ++ more) said e d
    ∙ same_from (IsState false None) (with_words command (b ++ more)) (λ s. option_and_then (with_words command more) (with_given s g u))
    (λ s is. two.said more s is.0 is.1) (with_given said f t)
    (by_unless (IsState false None) _ _ (text_keeps false None said f t (e, d)))
    ∙ sym (joined (λ s. with_given s g u) (with_words command more) (with_given said f t))

-- Where the value of an option is due they are refused.
read_refused : (command : CommandName) (f : CommandOption) (t : List ℕ) (a : List (List ℕ)) → ReadAs command f t a
    → (more : List (List ℕ)) (said : Said) (option : CommandOption) → said.due ≡ Some option → with_words command (a ++ more) said ≡ None
read_refused command f t a one more said option d =
    ap (λ (words : List (List ℕ)). with_words command (words ++ more) said) one.is
    ∙ due_refused command one.first (one.rest ++ more) said option one.begins d

exchanged_options : (command : CommandName) (f g : CommandOption) (t u : List ℕ) (a b : List (List ℕ)) → ReadAs command f t a → ReadAs command g u b
    → f ≢ g → (more : List (List ℕ)) (said : Said) → IsOpen said
    → with_words command (a ++ (b ++ more)) said ≡ with_words command (b ++ (a ++ more)) said
exchanged_options command f g t u a b one two other more said begun = by said.due refl
  where
    by : (due : Option CommandOption) → said.due ≡ due → with_words command (a ++ (b ++ more)) said ≡ with_words command (b ++ (a ++ more)) said
    by (Some option) d =
        read_refused command f t a one (b ++ more) said option d ∙ sym (read_refused command g u b two (a ++ more) said option d)
    by None d =
        both_read command f g t u a b one two more said begun d
        ∙ ap (option_and_then (with_words command more)) (given_past_given said f g t u (inl other))
        ∙ sym (both_read command g f u t b a two one more said begun d)

-- Two options in either order after other words.
pub options_exchanged : (command : CommandName) (before after a b : List (List ℕ)) (f g : CommandOption) → lack_end before ≡ true
    → SayOption command f a → SayOption command g b → f ≢ g
    → with_words command (before ++ (a ++ (b ++ after))) nothing_said ≡ with_words command (before ++ (b ++ (a ++ after))) nothing_said
options_exchanged command before after a b f g h one two other =
    let first = words_read command f a one in
    let second = words_read command g b two in
    same_after command before (a ++ (b ++ after)) (b ++ (a ++ after)) h
    (exchanged_options command f g first.0 second.0 a b first.1 second.1 other after)
