-- An option that is given before words, or after them: it is the same, where no value is due in the end.
use Rattle.std.proofs.Common.{◌≡◌, ◌≢◌, ◌⊎◌, inl, inr, ◌<◌, ◌∙◌, refl, sym, ap, subst, arith, ℕ, zero, suc, List, [], ◌∷◌, length, slice_index_or, slice_set, codes, Bool, true, false, not, ◌&&◌, cond, is_some, Option, Some, None}
use Rattle.std.specs.Option.{option_and_then}
use Rattle.std.proofs.lemmas.Bool.{cases_eq}
use Rattle.std.proofs.lemmas.List.{get_or-set_other}
use Rattle.cli_options.specs.declared.names.CommandName.{CommandName}
use Rattle.cli_options.specs.declared.forms.CommandOption.{CommandOption}
use Rattle.cli_options.specs.Options.{has_value, is_repeatable, letter_option, name_option, place_of}
use Rattle.cli_options.specs.Prefixes.{after_sign, before_sign, strip_prefix}
use Rattle.cli_options.specs.Said.{Said, by_letter, is_due, is_option, is_used, text_in, unless_given, with_due, with_flag, with_given, with_joined, with_letters, with_long, with_name, with_next, with_option, with_option_text, with_position, with_short, with_word, with_words, without_sign}
use Rattle.cli_options.proofs.Flags.{given_past_given, joined, same_step}
use Rattle.cli_options.proofs.Places.{same_option}
use Rattle.cli_options.proofs.Saying.{IfSaid, by_unless, same_from}
use Rattle.cli_sessions.proofs.Keeping.{IsKept, flag_keeps, given_keeps, letters_keep, words_keep}
use Rattle.cli_sessions.proofs.OfSession.{HasPlaces, keeps_places}

-- What is said, if no value is due.
abbrev pub finished : Said → Option Said
finished said = cond (is_due said) None (Some said)

-- What words say, if no value is due after them.
abbrev pub whole_words : CommandName → List (List ℕ) → Said → Option Said
whole_words command words said = option_and_then finished (with_words command words said)

-- An option that may occur once, and has a place.
pub record IsSingle (option : CommandOption) : Type 0 where
  pub once : is_repeatable option ≡ false
  pub place : place_of option < 53

-- A text at a place stays there, or another one is put there.
stays_some : (given : List (Option (List ℕ))) (i j : ℕ) (text : List ℕ) → is_some (slice_index_or given i None) ≡ true
    → is_some (slice_index_or (slice_set given j (Some text)) i None) ≡ true
stays_some [] i j text h = h
stays_some (x ∷ xs) zero zero text h = refl
stays_some (x ∷ xs) zero (suc j) text h = h
stays_some (x ∷ xs) (suc i) zero text h = h
stays_some (x ∷ xs) (suc i) (suc j) text h = stays_some xs i j text h

put_some : (given : List (Option (List ℕ))) (i : ℕ) (text : List ℕ) → i < length given
    → is_some (slice_index_or (slice_set given i (Some text)) i None) ≡ true
put_some [] i text h = absurd (omega arith)
put_some (x ∷ xs) zero text h = refl
put_some (x ∷ xs) (suc i) text h = put_some xs i text (omega (arith, h))

-- Two steps of which each is refused for a reason of its own.
pair : (a b : Bool) (F G : Said → Option Said) (s t r : Said) → F s ≡ unless_given b r → G t ≡ unless_given a r
    → option_and_then F (unless_given a s) ≡ option_and_then G (unless_given b t)
pair true true F G s t r f g = refl
pair true false F G s t r f g = sym g
pair false true F G s t r f g = f
pair false false F G s t r f g = f ∙ sym g

-- A word where it is known whether `--` was there.
abbrev next_when : CommandName → List ℕ → Bool → Option CommandOption → Said → Option Said
next_when command word ended (Some option) said = cond (is_option word) None (with_given (record said { due = None }) option word)
next_when command word ended None said =
    cond (is_option word && not ended) (with_option command said (strip_prefix (codes "--") word) (strip_prefix (codes "-") word))
    (Some (with_position said word))

next_is : (command : CommandName) (word : List ℕ) (due : Option CommandOption) (said : Said)
    → with_next command said word due ≡ next_when command word said.ended due said
next_is command word (Some option) said = refl
next_is command word None said = refl

module _ (f : CommandOption) (text : List ℕ) (single : IsSingle f) where
  -- The option is given.
  abbrev put : Said → Option Said
  put said = with_given said f text

  -- ---- where it was given before

  abbrev HasText : Said → Type 0
  HasText said = is_some (text_in f said.given) ≡ true

  keeps_text : IsKept HasText
  keeps_text = record {
    text = λ said option text p. stays_some said.given (place_of f) (place_of option) text p;
    due = λ said due p. p;
    end = λ said p. p;
    position = λ said word p. p;
  }

  use_of : (said : Said) → HasText said → is_used f said.given ≡ true
  use_of said h = ap (λ (b : Bool). not b && is_some (text_in f said.given)) single.once ∙ h

  given_again : (other : List ℕ) (said : Said) → HasText said → with_given said f other ≡ None
  given_again other said h = ap (λ (b : Bool). unless_given b (with_option_text said f other)) (use_of said h)

  due_again : (said : Said) → HasText said → with_due said f ≡ None
  due_again said h = ap (λ (b : Bool). unless_given b (record said { due = Some f })) (use_of said h)

  put_text : (other : List ℕ) (said : Said) → HasPlaces said → HasText (with_option_text said f other)
  put_text other said places = put_some said.given (place_of f) other (omega (arith, single.place, places))

  -- A step that is refused where the option was given is refused after it.
  refused_after : (other : List ℕ) (F : Said → Option Said) → ((s : Said) → HasText s → F s ≡ None) → (said : Said) → HasPlaces said
      → option_and_then F (with_given said f other) ≡ None
  refused_after other F h said places = by (is_used f said.given)
    where
      by : (b : Bool) → option_and_then F (unless_given b (with_option_text said f other)) ≡ None
      by true = refl
      by false = h (with_option_text said f other) (put_text other said places)

  -- ---- steps before it and after it

  -- A step may be taken before the option is given, or after that.
  abbrev IsPast : (Said → Option Said) → Type 0
  IsPast F = (said : Said) → HasPlaces said → option_and_then F (put said) ≡ option_and_then put (F said)

  none_past : IsPast (λ said. None)
  none_past said places = by (is_used f said.given)
    where
      by : (b : Bool) → option_and_then (λ s. let none : Option Said = None in none) (unless_given b (with_option_text said f text)) ≡ None
      by true = refl
      by false = refl

  same_past : IsPast (λ said. Some said)
  same_past said places = by (is_used f said.given)
    where
      by : (b : Bool) → option_and_then (λ (s : Said). Some s) (unless_given b (with_option_text said f text)) ≡ unless_given b (with_option_text said f text)
      by true = refl
      by false = refl

  end_past : IsPast (λ said. Some (record said { ended = true }))
  end_past said places = by (is_used f said.given)
    where
      by : (b : Bool) → option_and_then (λ (s : Said). Some (record s { ended = true })) (unless_given b (with_option_text said f text))
          ≡ unless_given b (with_option_text (record said { ended = true }) f text)
      by true = refl
      by false = refl

  undue_past : IsPast (λ said. Some (record said { due = None }))
  undue_past said places = by (is_used f said.given)
    where
      by : (b : Bool) → option_and_then (λ (s : Said). Some (record s { due = None })) (unless_given b (with_option_text said f text))
          ≡ unless_given b (with_option_text (record said { due = None }) f text)
      by true = refl
      by false = refl

  position_past : (word : List ℕ) → IsPast (λ said. Some (with_position said word))
  position_past word said places = by (is_used f said.given)
    where
      by : (b : Bool) → option_and_then (λ (s : Said). Some (with_position s word)) (unless_given b (with_option_text said f text))
          ≡ unless_given b (with_option_text (with_position said word) f text)
      by true = refl
      by false = refl

  finished_past : IsPast finished
  finished_past said places = first (is_used f said.given) ∙ second (is_due said)
    where
      nothing : (d : Bool) → None ≡ cond d None (let none : Option Said = None in none)
      nothing true = refl
      nothing false = refl

      first : (b : Bool) → option_and_then finished (unless_given b (with_option_text said f text))
          ≡ cond (is_due said) None (unless_given b (with_option_text said f text))
      first true = nothing (is_due said)
      first false = refl

      second : (d : Bool) → cond d None (put said) ≡ option_and_then put (cond d None (Some said))
      second true = refl
      second false = refl

  given_past : (g : CommandOption) (other : List ℕ) → IsPast (λ said. with_given said g other)
  given_past g other said places = by (cases_eq (place_of f) (place_of g))
    where
      by : (place_of f ≡ place_of g) ⊎ (place_of f ≢ place_of g)
          → option_and_then (λ s. with_given s g other) (put said) ≡ option_and_then put (with_given said g other)
      by (inl e) =
          subst (λ (g : CommandOption). option_and_then (λ s. with_given s g other) (put said) ≡ option_and_then put (with_given said g other)) (same_option f g e)
          (refused_after text (λ s. with_given s f other) (given_again other) said places
          ∙ sym (refused_after other put (given_again text) said places))
      by (inr apart) = given_past_given said f g text other (inl (λ e. apart (ap place_of e)))

  -- Another option whose value is due.
  other_due_past : (g : CommandOption) → place_of f ≢ place_of g → IsPast (λ said. with_due said g)
  other_due_past g apart said places =
      pair (is_used f said.given) (is_used g said.given) (λ s. with_due s g) put (with_option_text said f text) (record said { due = Some g })
      (record (with_option_text said f text) { due = Some g })
      (ap (λ (o : Option (List ℕ)). unless_given (not (is_repeatable g) && is_some o) (record (with_option_text said f text) { due = Some g }))
      (get_or-set_other said.given (place_of f) (place_of g) (Some text) None (λ e. apart (sym e))))
      refl

  -- One step after another.
  then_past : (F G : Said → Option Said) → ((s : Said) → HasPlaces s → IfSaid HasPlaces (F s)) → IsPast F → IsPast G
      → IsPast (λ said. option_and_then G (F said))
  then_past F G keeps one two said places =
      sym (joined F G (put said))
      ∙ ap (option_and_then G) (one said places)
      ∙ joined put G (F said)
      ∙ same_from HasPlaces (λ s. option_and_then G (put s)) (λ s. option_and_then put (G s)) two (F said) (keeps said places)
      ∙ sym (joined G put (F said))

  flag_past : (flag : Option CommandOption) → IsPast (λ said. with_flag said flag)
  flag_past None = none_past
  flag_past (Some g) = by (has_value g)
    where
      by : (b : Bool) → IsPast (λ said. cond b None (with_given said g []))
      by true = none_past
      by false = given_past g []

  letters_past : (command : CommandName) (letters : List ℕ) → IsPast (with_letters command letters)
  letters_past command [] = same_past
  letters_past command (letter ∷ letters) =
      then_past (λ said. with_flag said (letter_option command letter)) (with_letters command letters)
      (flag_keeps HasPlaces keeps_places (letter_option command letter)) (flag_past (letter_option command letter)) (letters_past command letters)

  -- ---- words after it

  -- What comes next refuses the option where its value is due.
  abbrev RefusesDue : (Said → Option Said) → Type 0
  RefusesDue W = (said : Said) → HasPlaces said → said.due ≡ Some f → option_and_then put (W said) ≡ None

  module _ (W : Said → Option Said) (past : IsPast W) (refuses : RefusesDue W) where
    -- A step before what comes next.
    abbrev IsBefore : (Said → Option Said) → Type 0
    IsBefore F = IsPast (λ said. option_and_then W (F said))

    given_before : (g : CommandOption) (other : List ℕ) → IsBefore (λ said. with_given said g other)
    given_before g other =
        then_past (λ said. with_given said g other) W (λ s p. given_keeps HasPlaces keeps_places s g other p) (given_past g other) past

    due_before : (g : CommandOption) → IsBefore (λ said. with_due said g)
    due_before g = by (cases_eq (place_of f) (place_of g))
      where
        own : (said : Said) → HasPlaces said → (b : Bool) → option_and_then put (option_and_then W (unless_given b (record said { due = Some f }))) ≡ None
        own said places true = refl
        own said places false = refuses (record said { due = Some f }) places refl

        by : (place_of f ≡ place_of g) ⊎ (place_of f ≢ place_of g) → IsBefore (λ said. with_due said g)
        by (inl e) =
            subst (λ (g : CommandOption). IsBefore (λ said. with_due said g)) (same_option f g e)
            (λ said places.
            refused_after text (λ s. option_and_then W (with_due s f)) (λ s h. ap (option_and_then W) (due_again s h)) said places
            ∙ sym (own said places (is_used f said.given)))
        by (inr apart) =
            then_past (λ said. with_due said g) W
            (λ s p. by_unless HasPlaces (is_used g s.given) (record s { due = Some g }) p) (other_due_past g apart) past

    none_before : IsBefore (λ said. None)
    none_before = none_past

    test_before : (b : Bool) (F G : Said → Option Said) → IsBefore F → IsBefore G → IsBefore (λ said. cond b (F said) (G said))
    test_before true F G one two = one
    test_before false F G one two = two

    letters_before : (command : CommandName) (letters : List ℕ) → IsBefore (with_letters command letters)
    letters_before command letters =
        then_past (with_letters command letters) W (letters_keep HasPlaces keeps_places command letters) (letters_past command letters) past

    joined_before : (g : CommandOption) (other : List ℕ) → IsBefore (λ said. with_joined said g other)
    joined_before g [] = due_before g
    joined_before g (b ∷ bs) = given_before g (without_sign (b ∷ bs))

    letter_before : (command : CommandName) (letter : ℕ) (rest : List ℕ) (option : Option CommandOption)
        → IsBefore (λ said. by_letter command said letter rest option)
    letter_before command letter rest None = letters_before command (letter ∷ rest)
    letter_before command letter rest (Some g) =
        test_before (has_value g) (λ said. with_joined said g rest) (with_letters command (letter ∷ rest))
        (joined_before g rest) (letters_before command (letter ∷ rest))

    short_before : (command : CommandName) (letters : List ℕ) → IsBefore (λ said. with_short command said letters)
    short_before command [] = past
    short_before command (letter ∷ rest) = letter_before command letter rest (letter_option command letter)

    long_before : (option : Option CommandOption) (value : Option (List ℕ)) → IsBefore (λ said. with_long said option value)
    long_before None value = none_before
    long_before (Some g) (Some value) =
        test_before (has_value g) (λ said. with_given said g value) (λ said. None) (given_before g value) none_before
    long_before (Some g) None =
        test_before (has_value g) (λ said. with_due said g) (λ said. with_given said g []) (due_before g) (given_before g [])

    name_before : (command : CommandName) (name : List ℕ) → IsBefore (λ said. with_name command said name)
    name_before command [] = then_past (λ said. Some (record said { ended = true })) W (λ s p. p) end_past past
    name_before command (b ∷ bs) = long_before (name_option command (before_sign (b ∷ bs))) (after_sign (b ∷ bs))

    option_before : (command : CommandName) (name letters : Option (List ℕ)) → IsBefore (λ said. with_option command said name letters)
    option_before command (Some name) letters = name_before command name
    option_before command None (Some letters) = short_before command letters
    option_before command None None = none_before

    next_before : (command : CommandName) (word : List ℕ) (ended : Bool) (due : Option CommandOption) → IsBefore (next_when command word ended due)
    next_before command word ended (Some g) =
        test_before (is_option word) (λ said. None) (λ said. with_given (record said { due = None }) g word) none_before
        (then_past (λ said. Some (record said { due = None })) (λ said. option_and_then W (with_given said g word)) (λ s p. p) undue_past
        (given_before g word))
    next_before command word ended None =
        test_before (is_option word && not ended)
        (λ said. with_option command said (strip_prefix (codes "--") word) (strip_prefix (codes "-") word)) (λ said. Some (with_position said word))
        (option_before command (strip_prefix (codes "--") word) (strip_prefix (codes "-") word))
        (then_past (λ said. Some (with_position said word)) W (λ s p. p) (position_past word) past)

    word_before : (command : CommandName) (word : List ℕ) → IsBefore (λ said. with_word command said word)
    word_before command word said places =
        first (is_used f said.given)
        ∙ next_before command word said.ended said.due said places
        ∙ ap (λ (o : Option Said). option_and_then put (option_and_then W o)) (sym (next_is command word said.due said))
      where
        first : (b : Bool)
            → option_and_then (λ s. option_and_then W (with_word command s word)) (unless_given b (with_option_text said f text))
            ≡ option_and_then (λ s. option_and_then W (next_when command word said.ended said.due s)) (unless_given b (with_option_text said f text))
        first true = refl
        first false = ap (option_and_then W) (next_is command word said.due (with_option_text said f text))

  -- Words after which the option was given refuse it.
  after_text : (o : Option Said) → IfSaid HasText o → option_and_then put (option_and_then finished o) ≡ None
  after_text None h = refl
  after_text (Some said) h = by (is_due said)
    where
      by : (b : Bool) → option_and_then put (cond b None (Some said)) ≡ None
      by true = refl
      by false = given_again text said h

  words_refuse : (command : CommandName) (words : List (List ℕ)) → RefusesDue (whole_words command words)
  words_refuse command [] said places d = ap (λ (due : Option CommandOption). option_and_then put (cond (is_some due) None (Some said))) d
  words_refuse command (word ∷ words) said places d =
      ap (λ (due : Option CommandOption). option_and_then put (option_and_then finished (option_and_then (with_words command words) (with_next command said word due)))) d
      ∙ by (is_option word) (is_used f said.given)
    where
      by : (b u : Bool)
          → option_and_then put (option_and_then finished (option_and_then (with_words command words)
          (cond b None (unless_given u (with_option_text (record said { due = None }) f word))))) ≡ None
      by true u = refl
      by false true = refl
      by false false =
          after_text (with_words command words (with_option_text (record said { due = None }) f word))
          (words_keep HasText keeps_text command words (with_option_text (record said { due = None }) f word)
          (put_text word (record said { due = None }) places))

  -- The option is given before words, or after them.
  pub words_past : (command : CommandName) (words : List (List ℕ)) (said : Said) → HasPlaces said
      → option_and_then (whole_words command words) (with_given said f text)
      ≡ option_and_then (λ s. with_given s f text) (whole_words command words said)
  words_past command [] said places = finished_past said places
  words_past command (word ∷ words) said places =
      same_step (whole_words command (word ∷ words)) (λ s. option_and_then (whole_words command words) (with_word command s word))
      (λ s. joined (with_words command words) finished (with_word command s word)) (put said)
      ∙ word_before (whole_words command words) (words_past command words) (words_refuse command words) command word said places
      ∙ ap (option_and_then put) (sym (joined (with_words command words) finished (with_word command said word)))
