-- Where nothing is said, and that what is said is a line.
use Rattle.std.proofs.Common.{◌≡◌, ◌≢◌, ℕ, Bool, true, false, List, [], ◌∷◌, ◌++◌, Option, Some, None, Ok, inl, inr, refl, ap, ◌∙◌, codes, map}
use Rattle.std.specs.Prelude.{◌⊎◌, not, ◌&&◌, ◌||◌, ◌==◌, nat_lt, if◌then◌else◌, is_some}
use Rattle.std.specs.List.{list_all}
use Rattle.std.proofs.lemmas.List.Folds.{list_all-map}
use Rattle.cli_messages.specs.Pages as alone
use Rattle.cli_needs.specs.declared.command.Command.{Command}
use Rattle.cli_standalone.specs.declared.standalone.Standalone.{Standalone}
use Rattle.cli_standalone.specs.Standalone.{standalone_of}
use Rattle.cli_parse.specs.Words.{command_in, command_of, or_wrong_words}
use Rattle.cli_sessions.specs.declared.opening.SessionDatabase.{SessionDatabase}
use Rattle.cli_sessions.specs.Openings.{opening_of}
use Rattle.cli_causes.specs.declared.cause.Cause.{Cause}
use Rattle.cli_causes.specs.Causes.{cause_of}
use Rattle.cli_pages.specs.Laws.{IsCommandOrPage, IsLine}
use Rattle.cli_pages.specs.Pages.{asks_why, is_page, page_of, why}
use Rattle.cli_pages.specs.Texts.{cause_line, cause_text, shown_byte}
use Rattle.cli_causes.proofs.Agreeing.{cause_agrees}

-- ---- commands

some_in : (o : Option Command) (command : Command) → or_wrong_words o ≡ Ok command → is_some o ≡ true
some_in None command h = cc h
some_in (Some x) command h = refl

none_of : {A : Type 0} (o : Option A) → is_some o ≡ false → o ≡ None
none_of None h = refl
none_of (Some x) h = cc h

no_line : (page : Bool) (cause : Option Cause) → cause ≡ None → (if page then [] else cause_line cause) ≡ []
no_line true cause h = refl
no_line false cause h = ap cause_line h

-- Nothing is said of a command.
pub of_command : (words : List (List ℕ)) (command : Command) → command_of words ≡ Ok command → why words ≡ []
of_command words command h =
    no_line (is_page words) (cause_of words)
    (none_of (cause_of words) (cause_agrees words ∙ ap (λ (b : Bool). not (b || (is_some (standalone_of words) || is_some (opening_of words)))) (some_in (command_in words) command h)))

-- ---- commands that need no database

or_true : (b : Bool) → (b || true) ≡ true
or_true true = refl
or_true false = refl

-- Nothing is said of a command that needs no database.
pub of_standalone : (words : List (List ℕ)) (standalone : Standalone) → standalone_of words ≡ Some standalone → why words ≡ []
of_standalone words standalone h =
    no_line (is_page words) (cause_of words)
    (none_of (cause_of words)
    (cause_agrees words ∙ ap (λ (p : Option Standalone). not (is_some (command_in words) || (is_some p || is_some (opening_of words)))) h
    ∙ ap not (or_true (is_some (command_in words)))))

-- ---- sessions

-- Nothing is said of words that open a session.
pub of_opening : (words : List (List ℕ)) (database : SessionDatabase) → opening_of words ≡ Some database → why words ≡ []
of_opening words database h =
    no_line (is_page words) (cause_of words)
    (none_of (cause_of words)
    (cause_agrees words
    ∙ ap (λ (p : Option SessionDatabase). not (is_some (command_in words) || (is_some (standalone_of words) || is_some p))) h
    ∙ ap (λ (b : Bool). not (is_some (command_in words) || b)) (or_true (is_some (standalone_of words)))
    ∙ ap not (or_true (is_some (command_in words)))))

-- ---- pages

asked : (why : Bool) (page : Option (List ℕ)) (text result : List ℕ) → (if why then Some text else page) ≡ Some result → (why || is_some page) ≡ true
asked true page text result h = refl
asked false None text result h = cc h
asked false (Some x) text result h = refl

page_is : (words : List (List ℕ)) (page : List ℕ) → page_of words ≡ Some page → is_page words ≡ true
page_is [] page h = cc h
page_is (word ∷ words) page h = asked (asks_why word) (alone.page_of (word ∷ words)) (why words) page h

-- Nothing is said of words that ask for a page.
pub of_page : (words : List (List ℕ)) (page : List ℕ) → page_of words ≡ Some page → why words ≡ []
of_page words page h = ap (λ (p : Bool). if p then [] else cause_line (cause_of words)) (page_is words page h)

-- ---- other words

page_there : (words : List (List ℕ)) → is_page words ≡ true → (page : List ℕ) × (page_of words ≡ Some page)
page_there [] h = cc h
page_there (word ∷ words) h = by (asks_why word) (alone.page_of (word ∷ words)) h
  where
    by : (asks : Bool) (page : Option (List ℕ)) → (asks || is_some page) ≡ true → (result : List ℕ) × ((if asks then Some (why words) else page) ≡ Some result)
    by true page h = (why words, refl)
    by false None h = cc h
    by false (Some page) h = (page, refl)

some_line : (text : List ℕ) → (text ++ codes "\n") ≡ [] → ⊥
some_line [] h = cc h
some_line (b ∷ text) h = cc h

no_cause : (cause : Option Cause) → cause_line cause ≡ [] → is_some cause ≡ false
no_cause None h = refl
no_cause (Some cause) h = absurd (some_line (map shown_byte (cause_text cause)) h)

flipped : (a b : Bool) → a ≡ not b → a ≡ false → b ≡ true
flipped a true h g = refl
flipped true false h g = cc g
flipped false false h g = cc h

opening_there : (o : Option SessionDatabase) → is_some o ≡ true → (database : SessionDatabase) × (o ≡ Some database)
opening_there None h = cc h
opening_there (Some database) h = (database, refl)

-- Words of which nothing is said are a command, with a database or without one, or open a session, or
-- ask for a page.
pub of_nothing : (words : List (List ℕ)) → why words ≡ [] → IsCommandOrPage words
of_nothing words h = by (is_page words) refl h
  where
    asked_for : (o : Option Command) (p : Option Standalone) (q : Option SessionDatabase) → (is_some o || (is_some p || is_some q)) ≡ true
        → ((command : Command) × (or_wrong_words o ≡ Ok command))
        ⊎ (((standalone : Standalone) × (p ≡ Some standalone)) ⊎ ((database : SessionDatabase) × (q ≡ Some database)))
    asked_for (Some command) p q g = inl (command, refl)
    asked_for None (Some standalone) q g = inr (inl (standalone, refl))
    asked_for None None q g = inr (inr (opening_there q g))

    by : (page : Bool) → is_page words ≡ page → (if page then [] else cause_line (cause_of words)) ≡ [] → IsCommandOrPage words
    by true e g = inr (inl (page_there words e))
    by false e g =
        elim (asked_for (command_in words) (standalone_of words) (opening_of words)
        (flipped (is_some (cause_of words)) (is_some (command_in words) || (is_some (standalone_of words) || is_some (opening_of words))) (cause_agrees words)
        (no_cause (cause_of words) g))) [
          | inl command ↦ inl command
          | inr other ↦ inr (inr other)
        ]

-- ---- a line

-- A byte as it is shown is no control character.
is_plain : ℕ → Bool
is_plain byte = not (nat_lt byte 32) && not (byte == 127)

shown_plain : (byte : ℕ) → (not (nat_lt (shown_byte byte) 32) && not (shown_byte byte == 127)) ≡ true
shown_plain byte = by (nat_lt byte 32) (byte == 127) refl refl
  where
    by : (low last : Bool) → nat_lt byte 32 ≡ low → (byte == 127) ≡ last
        → (not (nat_lt (if low || last then 63 else byte) 32) && not ((if low || last then 63 else byte) == 127)) ≡ true
    by true last e f = refl
    by false true e f = refl
    by false false e f = ap (λ (b : Bool). not b && not (byte == 127)) e ∙ ap not f

all_true : {A : Type 0} (p : A → Bool) → ((x : A) → p x ≡ true) → (xs : List A) → list_all p xs ≡ true
all_true p h [] = refl
all_true p h (x ∷ xs) = ap (λ (b : Bool). b && list_all p xs) (h x) ∙ all_true p h xs

all_shown : (text : List ℕ) → list_all (λ byte. not (nat_lt byte 32) && not (byte == 127)) (map shown_byte text) ≡ true
all_shown text =
    list_all-map (λ byte. not (nat_lt byte 32) && not (byte == 127)) shown_byte text
    ∙ all_true (λ byte. not (nat_lt (shown_byte byte) 32) && not (shown_byte byte == 127)) shown_plain text

-- What is said is one line.
pub of_line : (words : List (List ℕ)) → why words ≢ [] → IsLine (why words)
of_line words h = by (is_page words) (cause_of words) h
  where
    by : (page : Bool) (cause : Option Cause) → (if page then [] else cause_line cause) ≢ [] → IsLine (if page then [] else cause_line cause)
    by true cause h = absurd (h refl)
    by false None h = absurd (h refl)
    by false (Some cause) h = (map shown_byte (cause_text cause), refl, all_shown (cause_text cause))
