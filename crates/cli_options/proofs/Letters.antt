-- The letters of options.
use Rattle.std.proofs.Common.{◌≡◌, ◌<◌, ℕ, Bool, true, false, cond, arith, subst, List, [], ◌∷◌, Option, Some, None, refl}
use Rattle.std.specs.Prelude.{IfSome}
use Rattle.std.proofs.lemmas.Bool.Decides.{Decides-eqb}
use Rattle.cli_options.specs.declared.names.CommandName.{CommandName}
use Rattle.cli_options.specs.declared.names.CommandName.TheVariants as name
use Rattle.cli_options.specs.declared.forms.CommandOption.{CommandOption}
use Rattle.cli_options.specs.declared.forms.CommandOption.TheVariants.{Recursive, Flat, Quiet, Plain, NoPassword, KeyFile, Title, User, Url, Notes, EntryPassword, SameCredentials, DryRun, KeyFileFrom, NoPasswordFrom, Clear, All, Attachments, Format, Attribute, SetPassword, SetKeyFile, ImportFormat, Totp, Generate, Length, Lower, Upper, Numeric, Special, Exclude, Otp, Cipher, Kdf, Rounds, Memory, Lanes, UnsetPassword, UnsetKeyFile, FileVersion, DatabaseName, At, Restore, Details, Ids, Set, Protect, Unset, Tag, Untag, Expires, Stdout, Force}
use Rattle.cli_options.specs.Options.{form_of, has_letter, is_letter, letter_option, with_letter}

-- A letter is one of ASCII, where there is one.
abbrev IsLow : Option ℕ → Type 0
IsLow letter = IfSome letter (λ l. l < 128)

low : (option : CommandOption) → IsLow (form_of option).letter
low Recursive = omega arith
low Flat = omega arith
low Quiet = omega arith
low Plain = tt
low NoPassword = tt
low KeyFile = omega arith
low Title = omega arith
low User = omega arith
low Url = tt
low Notes = tt
low EntryPassword = omega arith
low SameCredentials = omega arith
low DryRun = omega arith
low KeyFileFrom = tt
low NoPasswordFrom = tt
low Clear = omega arith
low All = tt
low Attachments = tt
low Format = omega arith
low Attribute = omega arith
low SetPassword = omega arith
low SetKeyFile = tt
low ImportFormat = tt
low Totp = omega arith
low Generate = omega arith
low Length = omega arith
low Lower = omega arith
low Upper = omega arith
low Numeric = omega arith
low Special = omega arith
low Exclude = omega arith
low Otp = tt
low Cipher = tt
low Kdf = tt
low Rounds = tt
low Memory = tt
low Lanes = tt
low UnsetPassword = tt
low UnsetKeyFile = tt
low FileVersion = tt
low DatabaseName = tt
low At = tt
low Restore = tt
low Details = tt
low Ids = tt
low Set = tt
low Protect = tt
low Unset = tt
low Tag = tt
low Untag = tt
low Expires = tt
low Stdout = tt
low Force = omega arith

low_letter : (own : Option ℕ) (letter : ℕ) → IsLow own → is_letter own letter ≡ true → letter < 128
low_letter None letter h e = absurd (let no : false ≡ true → ⊥ = λ p. cc p in no e)
low_letter (Some own) letter h e = subst (λ n. n < 128) ((Decides-eqb own letter).0 e) h

-- The letter of an option among these is one of ASCII.
pub found_low : (letter : ℕ) (options : List CommandOption) → IfSome (with_letter letter options) (λ option. letter < 128)
found_low letter [] = tt
found_low letter (option ∷ options) = by (has_letter option letter) refl (found_low letter options)
  where
    by : (b : Bool) → has_letter option letter ≡ b → IfSome (with_letter letter options) (λ option. letter < 128)
        → IfSome (cond b (Some option) (with_letter letter options)) (λ option. letter < 128)
    by true e h = low_letter (form_of option).letter letter (low option) e
    by false e h = h

-- The sign `-` is the letter of no option.
pub no_dash : (command : CommandName) → letter_option command 45 ≡ None
no_dash name.Ls = refl
no_dash name.Show = refl
no_dash name.History = refl
no_dash name.Search = refl
no_dash name.Add = refl
no_dash name.Edit = refl
no_dash name.Move = refl
no_dash name.Remove = refl
no_dash name.MakeGroup = refl
no_dash name.RemoveGroup = refl
no_dash name.Merge = refl
no_dash name.Import = refl
no_dash name.Create = refl
no_dash name.Export = refl
no_dash name.EditFile = refl
no_dash name.Info = refl
no_dash name.ExportAttachment = refl
no_dash name.ImportAttachment = refl
no_dash name.RemoveAttachment = refl
no_dash name.Generate = refl
no_dash name.SelfTest = refl
no_dash name.Open = refl
