-- What opens a session has a key, and is no command, with a database or without one.
use Rattle.std.proofs.Common.{◌≡◌, refl, subst, ap, ℕ, List, [], ◌∷◌, codes, Bool, true, false, Option, Some, None}
use Rattle.std.specs.Prelude.{IfSome, if◌then◌else◌, Err}
use Rattle.std.specs.Option.{option_and_then}
use Rattle.cli_messages.specs.declared.answers.Reason.TheVariants.{WrongWords}
use Rattle.cli_messages.specs.Messages.{refusal_of}
use Rattle.cli_parse.specs.CliNeeds.Needs.{HasKey}
use Rattle.cli_options.specs.declared.names.CommandName.{CommandName}
use Rattle.cli_options.specs.declared.names.CommandName.TheVariants as name
use Rattle.cli_options.specs.Credentials.{is_whole}
use Rattle.cli_options.specs.Options.{command_named}
use Rattle.cli_options.specs.Said.{Said, nothing_said, with_words}
use Rattle.cli_parse.specs.Words.{access_of, command_by, command_in, command_of, command_saying, or_wrong_words}
use Rattle.cli_parse.proofs.Keys.{target_key}
use Rattle.cli_standalone.specs.Standalone.{standalone_by, standalone_of, standalone_saying}
use Rattle.cli_sessions.specs.declared.opening.SessionDatabase.{SessionDatabase}
use Rattle.cli_sessions.specs.Openings.{opening_at, opening_by, opening_of, opening_saying}

-- ---- keys

-- The database of a session has a key, or is a plain document.
abbrev pub HasOwnKey : SessionDatabase → Type 0
HasOwnKey database = HasKey database.access

key_at : (said : Said) → HasKey (access_of said) → (positions : List (List ℕ)) → IfSome (opening_at said positions) HasOwnKey
key_at said h [] = tt
key_at said h (file ∷ []) = h
key_at said h (a ∷ b ∷ positions) = tt

key_saying : (command : CommandName) (said : Said) → IfSome (opening_saying command said) HasOwnKey
key_saying name.Open said = by (is_whole said) refl
  where
    by : (b : Bool) → is_whole said ≡ b → IfSome (if b then opening_at said said.positions else None) HasOwnKey
    by true w = key_at said (target_key said w) said.positions
    by false w = tt
key_saying command said = tt

-- A step more.
after_step : {A : Type 0} (F : A → Option SessionDatabase) → ((a : A) → IfSome (F a) HasOwnKey) → (o : Option A)
    → IfSome (option_and_then F o) HasOwnKey
after_step F h None = tt
after_step F h (Some a) = h a

-- What words open has a key.
pub opening_key : (words : List (List ℕ)) → IfSome (opening_of words) HasOwnKey
opening_key [] = tt
opening_key (word ∷ words) =
    after_step (opening_by words)
    (λ command. after_step (opening_saying command) (key_saying command) (with_words command words nothing_said))
    (command_named word)

-- ---- no commands

-- Where there is the one, the other is not there.
abbrev Excludes : {A B : Type 0} → Option A → Option B → Type 0
Excludes (Some a) other = other ≡ None
Excludes None other = Unit {0}

excludes_none : {A B : Type 0} (o : Option A) (other : Option B) → other ≡ None → Excludes o other
excludes_none (Some a) other h = h
excludes_none None other h = tt

none_either : {B : Type 0} (b : Bool) (o : Option B) → o ≡ None → (if b then o else None) ≡ None
none_either true o h = h
none_either false o h = refl

command_excluded : (command : CommandName) (said : Said) → Excludes (opening_saying command said) (command_saying command said)
command_excluded name.Open said = excludes_none (opening_saying name.Open said) (command_saying name.Open said) (none_either (is_whole said) None refl)
command_excluded command said = tt

standalone_excluded : (command : CommandName) (said : Said) → Excludes (opening_saying command said) (standalone_saying command said)
standalone_excluded name.Open said =
    excludes_none (opening_saying name.Open said) (standalone_saying name.Open said) (none_either (is_whole said) None refl)
standalone_excluded command said = tt

-- A step more of both.
excludes_after : {A B C : Type 0} (F : A → Option B) (G : A → Option C) → ((a : A) → Excludes (F a) (G a)) → (o : Option A)
    → Excludes (option_and_then F o) (option_and_then G o)
excludes_after F G h None = tt
excludes_after F G h (Some a) = h a

command_none : (words : List (List ℕ)) → Excludes (opening_of words) (command_in words)
command_none [] = tt
command_none (word ∷ words) =
    excludes_after (opening_by words) (command_by words)
    (λ command. excludes_after (opening_saying command) (command_saying command) (command_excluded command) (with_words command words nothing_said))
    (command_named word)

standalone_none : (words : List (List ℕ)) → Excludes (opening_of words) (standalone_of words)
standalone_none [] = tt
standalone_none (word ∷ words) =
    excludes_after (opening_by words) (standalone_by words)
    (λ command. excludes_after (opening_saying command) (standalone_saying command) (standalone_excluded command) (with_words command words nothing_said))
    (command_named word)

-- Words that open a session are no command over a database.
pub opening_no_command : (words : List (List ℕ)) (database : SessionDatabase) → opening_of words ≡ Some database
    → command_of words ≡ Err (refusal_of WrongWords (codes "words"))
opening_no_command words database h = ap or_wrong_words (subst (λ opening. Excludes opening (command_in words)) h (command_none words))

-- Nor one without a database.
pub opening_not_standalone : (words : List (List ℕ)) (database : SessionDatabase) → opening_of words ≡ Some database
    → standalone_of words ≡ None
opening_not_standalone words database h = subst (λ opening. Excludes opening (standalone_of words)) h (standalone_none words)
