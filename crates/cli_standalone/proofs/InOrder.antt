-- A command that needs no database can be carried out.
use Rattle.std.proofs.Common.{◌≡◌, refl, ℕ, List, [], ◌∷◌, Bool, true, false, Option, Some, None}
use Rattle.std.specs.Prelude.{IfSome, ◌&&◌, nat_le, if◌then◌else◌}
use Rattle.std.specs.Option.{option_and_then, option_map}
use Rattle.std.proofs.lemmas.Bool.{leb-true}
use Rattle.cli_options.specs.declared.names.CommandName.{CommandName}
use Rattle.cli_options.specs.declared.names.CommandName.TheVariants as name
use Rattle.cli_options.specs.Credentials.{is_whole}
use Rattle.cli_options.specs.Numbers.{number_of}
use Rattle.cli_options.specs.Options.{command_named}
use Rattle.cli_options.specs.Said.{Said, nothing_said, with_words}
use Rattle.cli_profiles.specs.Profiles.{IsProfile, profile_in}
use Rattle.cli_profiles.specs.declared.profiles.PasswordProfile.{PasswordProfile}
use Rattle.cli_profiles.proofs.Alphabets.{asked_profile}
use Rattle.cli_standalone.specs.declared.standalone.Standalone.{Standalone}
use Rattle.cli_standalone.specs.declared.standalone.Standalone.TheVariants.{Password, SelfTest}
use Rattle.cli_standalone.specs.Standalone.{IsStandalone, as_count, password_at, self_test_at, standalone_at, standalone_by, standalone_of, standalone_saying}

-- A password is chosen by a profile.
password_here : (said : Said) (positions : List (List ℕ)) → IfSome (password_at said positions) IsStandalone
password_here said [] = by (profile_in said) (asked_profile said)
  where
    by : (profile : Option PasswordProfile) → IfSome profile IsProfile → IfSome (option_map Password profile) IsStandalone
    by None h = tt
    by (Some profile) h = h
password_here said (a ∷ positions) = tt

-- A count is one.
counted : (number : ℕ) → IfSome (option_map SelfTest (as_count number)) IsStandalone
counted number = by (nat_le 1 number) (nat_le number 50000) refl refl
  where
    by : (some few : Bool) → nat_le 1 number ≡ some → nat_le number 50000 ≡ few
        → IfSome (option_map SelfTest (if some && few then Some number else None)) IsStandalone
    by true true s f = (leb-true 1 number s, leb-true number 50000 f)
    by true false s f = tt
    by false few s f = tt

count_here : (number : Option ℕ) → IfSome (option_map SelfTest (option_and_then as_count number)) IsStandalone
count_here None = tt
count_here (Some number) = counted number

self_test_here : (positions : List (List ℕ)) → IfSome (self_test_at positions) IsStandalone
self_test_here [] = tt
self_test_here (text ∷ []) = count_here (number_of 6 text)
self_test_here (a ∷ b ∷ positions) = tt

standalone_here : (command : CommandName) (said : Said) (positions : List (List ℕ)) → IfSome (standalone_at command said positions) IsStandalone
standalone_here name.Generate said positions = password_here said positions
standalone_here name.SelfTest said positions = self_test_here positions
standalone_here command said positions = tt

standalone_said : (command : CommandName) (said : Said) → IfSome (standalone_saying command said) IsStandalone
standalone_said command said = by (is_whole said)
  where
    by : (b : Bool) → IfSome (if b then standalone_at command said said.positions else None) IsStandalone
    by true = standalone_here command said said.positions
    by false = tt

-- A step more.
after_step : {A : Type 0} (F : A → Option Standalone) → ((a : A) → IfSome (F a) IsStandalone) → (o : Option A)
    → IfSome (option_and_then F o) IsStandalone
after_step F h None = tt
after_step F h (Some a) = h a

pub in_order : (words : List (List ℕ)) → IfSome (standalone_of words) IsStandalone
in_order [] = tt
in_order (word ∷ words) =
    after_step (standalone_by words)
    (λ command. after_step (standalone_saying command) (standalone_said command) (with_words command words nothing_said))
    (command_named word)
