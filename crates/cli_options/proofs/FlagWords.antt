-- Words that say flags and nothing else.
use Rattle.std.proofs.Common.{◌≡◌, inl, inr, ℕ, Bool, true, false, not, ◌&&◌, ◌==◌, cond, List, [], ◌∷◌, ◌++◌, codes, Option, Some, None, refl, sym, ap, subst, ◌∙◌}
use Rattle.std.specs.List.{list_all}
use Rattle.std.specs.Option.{option_and_then}
use Rattle.std.proofs.lemmas.Bool.Decides.{Decides-eqb}
use Rattle.cli_options.specs.declared.names.CommandName.{CommandName}
use Rattle.cli_options.specs.declared.forms.CommandOption.{CommandOption}
use Rattle.cli_options.specs.declared.forms.CommandOption.TheVariants.{Recursive, Flat, Quiet, Plain, NoPassword, KeyFile, Title, User, Url, Notes, EntryPassword, SameCredentials, DryRun, KeyFileFrom, NoPasswordFrom, Clear, All, Attachments, Format, Attribute, SetPassword, SetKeyFile, ImportFormat, Totp, Generate, Length, Lower, Upper, Numeric, Special, Exclude, Otp, Cipher, Kdf, Rounds, Memory, Lanes, UnsetPassword, UnsetKeyFile, FileVersion, DatabaseName, At, Restore, Details, Ids, Set, Protect, Unset, Tag, Untag, Expires, Stdout, Force}
use Rattle.cli_options.specs.Laws.{IsFlagWord, are_flag_letters, is_flag, is_flag_letter, lack_end}
use Rattle.cli_options.specs.Options.{form_of, has_value, letter_option, name_option}
use Rattle.cli_options.proofs.Letters.{no_dash}
use Rattle.cli_options.proofs.Named.{named}
use Rattle.cli_options.specs.Prefixes.{strip_prefix}
use Rattle.cli_options.specs.Said.{Said, by_letter, is_option, nothing_said, with_due, with_flag, with_given, with_joined, with_letters, with_long, with_name, with_next, with_option, with_position, with_word, with_words}
use Rattle.cli_options.proofs.Flags.{flags_appended, flags_exchanged, same_step, with_flags}
use Rattle.cli_options.proofs.Saying.{IsOpen, IsState, flags_keep, parts, same_from, unmet, words_appended, words_open}

-- A word is an option, and says these flags where it is read as one.
pub record Says (command : CommandName) (flags : List CommandOption) (word : List ℕ) : Type 0 where
  pub option : is_option word ≡ true
  pub said : (said : Said) → said.ended ≡ false → said.due ≡ None → with_word command said word ≡ with_flags flags said

-- A word that is read as an option.
pub read_option : (command : CommandName) (said : Said) (word : List ℕ) → is_option word ≡ true → said.ended ≡ false → said.due ≡ None
    → with_word command said word ≡ with_option command said (strip_prefix (codes "--") word) (strip_prefix (codes "-") word)
read_option command said word o e d =
    ap (λ (due : Option CommandOption). with_next command said word due) d
    ∙ ap (λ (b : Bool). cond (b && not said.ended) (with_option command said (strip_prefix (codes "--") word) (strip_prefix (codes "-") word)) (Some (with_position said word))) o
    ∙ ap (λ (b : Bool). cond (not b) (with_option command said (strip_prefix (codes "--") word) (strip_prefix (codes "-") word)) (Some (with_position said word))) e

-- One flag is the list of it.
one_flag : (flag : CommandOption) (said : Said) → with_given said flag [] ≡ with_flags (flag ∷ []) said
one_flag flag said = same (with_given said flag [])
  where
    same : (o : Option Said) → o ≡ option_and_then (with_flags []) o
    same None = refl
    same (Some s) = refl

-- A name that is not empty and has no `=` in it.
abbrev pub IsWhole : List ℕ → Type 0
IsWhole name = (command : CommandName) (said : Said) → with_name command said name ≡ with_long said (name_option command name) None

-- The name of an option.
pub name_whole : (option : CommandOption) → IsWhole (form_of option).name
name_whole Recursive = λ c s. refl
name_whole Flat = λ c s. refl
name_whole Quiet = λ c s. refl
name_whole Plain = λ c s. refl
name_whole NoPassword = λ c s. refl
name_whole KeyFile = λ c s. refl
name_whole Title = λ c s. refl
name_whole User = λ c s. refl
name_whole Url = λ c s. refl
name_whole Notes = λ c s. refl
name_whole EntryPassword = λ c s. refl
name_whole SameCredentials = λ c s. refl
name_whole DryRun = λ c s. refl
name_whole KeyFileFrom = λ c s. refl
name_whole NoPasswordFrom = λ c s. refl
name_whole Clear = λ c s. refl
name_whole All = λ c s. refl
name_whole Attachments = λ c s. refl
name_whole Format = λ c s. refl
name_whole Attribute = λ c s. refl
name_whole SetPassword = λ c s. refl
name_whole SetKeyFile = λ c s. refl
name_whole ImportFormat = λ c s. refl
name_whole Totp = λ c s. refl
name_whole Generate = λ c s. refl
name_whole Length = λ c s. refl
name_whole Lower = λ c s. refl
name_whole Upper = λ c s. refl
name_whole Numeric = λ c s. refl
name_whole Special = λ c s. refl
name_whole Exclude = λ c s. refl
name_whole Otp = λ c s. refl
name_whole Cipher = λ c s. refl
name_whole Kdf = λ c s. refl
name_whole Rounds = λ c s. refl
name_whole Memory = λ c s. refl
name_whole Lanes = λ c s. refl
name_whole UnsetPassword = λ c s. refl
name_whole UnsetKeyFile = λ c s. refl
name_whole FileVersion = λ c s. refl
name_whole DatabaseName = λ c s. refl
name_whole At = λ c s. refl
name_whole Restore = λ c s. refl
name_whole Details = λ c s. refl
name_whole Ids = λ c s. refl
name_whole Set = λ c s. refl
name_whole Protect = λ c s. refl
name_whole Unset = λ c s. refl
name_whole Tag = λ c s. refl
name_whole Untag = λ c s. refl
name_whole Expires = λ c s. refl
name_whole Stdout = λ c s. refl
name_whole Force = λ c s. refl

-- The word of a name.
name_says : (command : CommandName) (name : List ℕ) → is_flag (name_option command name) ≡ true
    → (flags : List CommandOption) × Says command flags (codes "--" ++ name)
name_says command name h = first (name_option command name) refl h
  where
    first : (o : Option CommandOption) → name_option command name ≡ o → is_flag o ≡ true
        → (flags : List CommandOption) × Says command flags (codes "--" ++ name)
    first None e g = absurd (let no : false ≡ true → ⊥ = λ p. cc p in no g)
    first (Some flag) e g = (
      flag ∷ [],
      record {
        option = refl;
        said = λ said n d.
            read_option command said (codes "--" ++ name) refl n d
            ∙ subst IsWhole (named command name flag e) (name_whole flag) command said
            ∙ ap (λ (x : Option CommandOption). with_long said x None) e
            ∙ ap (λ (b : Bool). cond b (with_due said flag) (with_given said flag [])) (unmet (has_value flag) g)
            ∙ one_flag flag said;
      },
    )

-- A flag, if there is one, before others.
abbrev flag_before : Option CommandOption → List CommandOption → List CommandOption
flag_before None flags = flags
flag_before (Some flag) flags = flag ∷ flags

-- The flags of letters.
abbrev flags_of : CommandName → List ℕ → List CommandOption
flags_of command [] = []
flags_of command (letter ∷ letters) = flag_before (letter_option command letter) (flags_of command letters)

flags_joined : (command : CommandName) (a b : List ℕ) → flags_of command (a ++ b) ≡ flags_of command a ++ flags_of command b
flags_joined command [] b = refl
flags_joined command (letter ∷ letters) b = first (letter_option command letter) (flags_joined command letters b)
  where
    first : (o : Option CommandOption) → flags_of command (letters ++ b) ≡ flags_of command letters ++ flags_of command b
        → flag_before o (flags_of command (letters ++ b)) ≡ flag_before o (flags_of command letters) ++ flags_of command b
    first None e = e
    first (Some flag) e = ap (λ (flags : List CommandOption). flag ∷ flags) e

-- Letters say their flags.
letters_said : (command : CommandName) (letters : List ℕ) (said : Said) → list_all (is_flag_letter command) letters ≡ true
    → with_letters command letters said ≡ with_flags (flags_of command letters) said
letters_said command [] said h = refl
letters_said command (letter ∷ letters) said h =
    first (letter_option command letter) (parts _ _ h).0 (λ s. letters_said command letters s (parts _ _ h).1)
  where
    first : (o : Option CommandOption) → is_flag o ≡ true
        → ((s : Said) → with_letters command letters s ≡ with_flags (flags_of command letters) s)
        → option_and_then (with_letters command letters) (with_flag said o) ≡ with_flags (flag_before o (flags_of command letters)) said
    first None g e = absurd (let no : false ≡ true → ⊥ = λ p. cc p in no g)
    first (Some flag) g e =
        ap (λ (b : Bool). option_and_then (with_letters command letters) (cond b None (with_given said flag []))) (unmet (has_value flag) g)
        ∙ same_step (with_letters command letters) (with_flags (flags_of command letters)) e (with_given said flag [])

-- A letter of a flag is no other one.
other_letter : (command : CommandName) (letter other : ℕ) → is_flag_letter command letter ≡ true → is_flag_letter command other ≡ false
    → (letter == other) ≡ false
other_letter command letter other h g = by (letter == other) refl
  where
    by : (b : Bool) → (letter == other) ≡ b → b ≡ false
    by true e = let is : letter ≡ other = (Decides-eqb letter other).0 e in cc (is, h, g)
    by false e = refl

-- A flag has no value after its letter.
by_flag : (command : CommandName) (said : Said) (letter : ℕ) (rest : List ℕ) (o : Option CommandOption) → is_flag o ≡ true
    → by_letter command said letter rest o ≡ with_letters command (letter ∷ rest) said
by_flag command said letter rest None h = refl
by_flag command said letter rest (Some flag) h =
    ap (λ (b : Bool). cond b (with_joined said flag rest) (with_letters command (letter ∷ rest) said)) (unmet (has_value flag) h)

letters_say : (command : CommandName) (letters : List ℕ) → are_flag_letters command letters ≡ true
    → Says command (flags_of command letters) (codes "-" ++ letters)
letters_say command [] h = absurd (let no : false ≡ true → ⊥ = λ p. cc p in no h)
letters_say command (letter ∷ letters) h = record {
  option = refl;
  said = λ said e d.
      read_option command said (codes "-" ++ letter ∷ letters) refl e d
      ∙ ap (λ (b : Bool). with_option command said (cond b (Some letters) None) (Some (letter ∷ letters)))
      (other_letter command letter 45 (parts _ _ h).0 (ap is_flag (no_dash command)))
      ∙ by_flag command said letter letters (letter_option command letter) (parts _ _ h).0
      ∙ letters_said command (letter ∷ letters) said h;
}

flag_word_says : (command : CommandName) (word : List ℕ) → IsFlagWord command word
    → (flags : List CommandOption) × Says command flags word
flag_word_says command word (inl (name, is, same)) = rw same (name_says command name is)
flag_word_says command word (inr (letters, are, same)) = rw same (flags_of command letters, letters_say command letters are)

-- Letters after letters.
all_joined : (command : CommandName) (a b : List ℕ) → list_all (is_flag_letter command) a ≡ true → list_all (is_flag_letter command) b ≡ true
    → list_all (is_flag_letter command) (a ++ b) ≡ true
all_joined command [] b h g = g
all_joined command (letter ∷ letters) b h g =
    let both = parts _ _ h in
    ap (λ (t : Bool). t && list_all (is_flag_letter command) (letters ++ b)) both.0 ∙ all_joined command letters b both.1 g

some_letters : (command : CommandName) (b : List ℕ) → are_flag_letters command b ≡ true → list_all (is_flag_letter command) b ≡ true
some_letters command [] h = refl
some_letters command (letter ∷ letters) h = h

letters_joined : (command : CommandName) (a b : List ℕ) → are_flag_letters command a ≡ true → are_flag_letters command b ≡ true
    → are_flag_letters command (a ++ b) ≡ true
letters_joined command [] b h g = g
letters_joined command (letter ∷ letters) b h g = all_joined command (letter ∷ letters) b h (some_letters command b g)

-- A word of flags before other words.
flag_word_first : (command : CommandName) (flags : List CommandOption) (word : List ℕ) (words : List (List ℕ)) (said : Said)
    → Says command flags word → said.ended ≡ false → said.due ≡ None
    → with_words command (word ∷ words) said ≡ option_and_then (with_words command words) (with_flags flags said)
flag_word_first command flags word words said says e d = ap (option_and_then (with_words command words)) (says.said said e d)

-- Two words of flags before other words.
flag_words_first : (command : CommandName) (fs gs : List CommandOption) (a b : List ℕ) (words : List (List ℕ)) (said : Said)
    → Says command fs a → Says command gs b → said.ended ≡ false → said.due ≡ None
    → with_words command (a ∷ b ∷ words) said
    ≡ option_and_then (with_words command words) (option_and_then (with_flags gs) (with_flags fs said))
flag_words_first command fs gs a b words said one two e d =
    flag_word_first command fs a (b ∷ words) said one e d
    ∙ same_from (IsState false None) (with_words command (b ∷ words)) (λ s. option_and_then (with_words command words) (with_flags gs s))
    (λ s is. flag_word_first command gs b words s two is.0 is.1) (with_flags fs said)
    (flags_keep false None fs said (e, d))
    ∙ sym (regroup (with_flags fs said))
  where
    regroup : (o : Option Said) → option_and_then (with_words command words) (option_and_then (with_flags gs) o)
        ≡ option_and_then (λ s. option_and_then (with_words command words) (with_flags gs s)) o
    regroup None = refl
    regroup (Some s) = refl

-- Where the value of an option is due another option is refused.
pub due_refused : (command : CommandName) (word : List ℕ) (words : List (List ℕ)) (said : Said) (option : CommandOption)
    → is_option word ≡ true → said.due ≡ Some option → with_words command (word ∷ words) said ≡ None
due_refused command word words said option o d =
    ap (λ (due : Option CommandOption). option_and_then (with_words command words) (with_next command said word due)) d
    ∙ ap (λ (b : Bool). option_and_then (with_words command words) (cond b None (with_given (record said { due = None }) option word))) o

-- Two words of flags in either order.
exchanged_here : (command : CommandName) (a b : List ℕ) (words : List (List ℕ)) (fs gs : List CommandOption)
    → Says command fs a → Says command gs b → (said : Said)
    → IsOpen said → with_words command (a ∷ b ∷ words) said ≡ with_words command (b ∷ a ∷ words) said
exchanged_here command a b words fs gs one two said begun = by said.due refl
  where
    by : (due : Option CommandOption) → said.due ≡ due → with_words command (a ∷ b ∷ words) said ≡ with_words command (b ∷ a ∷ words) said
    by (Some option) d =
        due_refused command a (b ∷ words) said option one.option d ∙ sym (due_refused command b (a ∷ words) said option two.option d)
    by None d =
        flag_words_first command fs gs a b words said one two begun d
        ∙ ap (option_and_then (with_words command words)) (flags_exchanged fs gs said)
        ∙ sym (flag_words_first command gs fs b a words said two one begun d)

-- Joined flags and separate ones.
separate_here : (command : CommandName) (a b : List ℕ) (words : List (List ℕ)) → are_flag_letters command a ≡ true
    → are_flag_letters command b ≡ true → (said : Said) → IsOpen said
    → with_words command ((codes "-" ++ a ++ b) ∷ words) said ≡ with_words command ((codes "-" ++ a) ∷ (codes "-" ++ b) ∷ words) said
separate_here command a b words h g said begun = by said.due refl
  where
    one : Says command (flags_of command a) (codes "-" ++ a)
    one = letters_say command a h

    two : Says command (flags_of command b) (codes "-" ++ b)
    two = letters_say command b g

    both : Says command (flags_of command (a ++ b)) (codes "-" ++ (a ++ b))
    both = letters_say command (a ++ b) (letters_joined command a b h g)

    by : (due : Option CommandOption) → said.due ≡ due
        → with_words command ((codes "-" ++ a ++ b) ∷ words) said ≡ with_words command ((codes "-" ++ a) ∷ (codes "-" ++ b) ∷ words) said
    by (Some option) d =
        due_refused command (codes "-" ++ (a ++ b)) words said option both.option d
        ∙ sym (due_refused command (codes "-" ++ a) ((codes "-" ++ b) ∷ words) said option one.option d)
    by None d =
        flag_word_first command (flags_of command (a ++ b)) (codes "-" ++ (a ++ b)) words said both begun d
        ∙ ap (λ (flags : List CommandOption). option_and_then (with_words command words) (with_flags flags said)) (flags_joined command a b)
        ∙ ap (option_and_then (with_words command words)) (flags_appended (flags_of command a) (flags_of command b) said)
        ∙ sym (flag_words_first command (flags_of command a) (flags_of command b) (codes "-" ++ a) (codes "-" ++ b) words said one two begun d)

-- Words that say the same after any others without `--`.
pub same_after : (command : CommandName) (before one other : List (List ℕ)) → lack_end before ≡ true
    → ((said : Said) → IsOpen said → with_words command one said ≡ with_words command other said)
    → with_words command (before ++ one) nothing_said ≡ with_words command (before ++ other) nothing_said
same_after command before one other h same =
    words_appended command before one nothing_said
    ∙ same_from IsOpen (with_words command one) (with_words command other) same (with_words command before nothing_said)
    (words_open command before nothing_said h refl)
    ∙ sym (words_appended command before other nothing_said)

-- Two words of flags in either order after others.
pub exchanged : (command : CommandName) (before after : List (List ℕ)) (a b : List ℕ) → lack_end before ≡ true
    → IsFlagWord command a → IsFlagWord command b
    → with_words command (before ++ a ∷ b ∷ after) nothing_said ≡ with_words command (before ++ b ∷ a ∷ after) nothing_said
exchanged command before after a b h one two =
    let first = flag_word_says command a one in
    let second = flag_word_says command b two in
    same_after command before (a ∷ b ∷ after) (b ∷ a ∷ after) h
    (exchanged_here command a b after first.0 second.0 first.1 second.1)

-- Joined flags and separate ones after other words.
pub separate : (command : CommandName) (before after : List (List ℕ)) (a b : List ℕ) → lack_end before ≡ true
    → are_flag_letters command a ≡ true → are_flag_letters command b ≡ true
    → with_words command (before ++ (codes "-" ++ a ++ b) ∷ after) nothing_said
    ≡ with_words command (before ++ (codes "-" ++ a) ∷ (codes "-" ++ b) ∷ after) nothing_said
separate command before after a b h f g =
    same_after command before ((codes "-" ++ a ++ b) ∷ after) ((codes "-" ++ a) ∷ (codes "-" ++ b) ∷ after) h
    (separate_here command a b after f g)
