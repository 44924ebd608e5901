-- The places of options.
use Rattle.std.proofs.Common.{◌≡◌, ◌∙◌, ap, sym, refl, ℕ, [], ◌∷◌, get_or}
use Rattle.cli_options.specs.declared.forms.CommandOption.{CommandOption}
use Rattle.cli_options.specs.declared.forms.CommandOption.TheVariants.{Recursive, Flat, Quiet, Plain, NoPassword, KeyFile, Title, User, Url, Notes, EntryPassword, SameCredentials, DryRun, KeyFileFrom, NoPasswordFrom, Clear, All, Attachments, Format, Attribute, SetPassword, SetKeyFile, ImportFormat, Totp, Generate, Length, Lower, Upper, Numeric, Special, Exclude, Otp, Cipher, Kdf, Rounds, Memory, Lanes, UnsetPassword, UnsetKeyFile, FileVersion, DatabaseName, At, Restore, Details, Ids, Set, Protect, Unset, Tag, Untag, Expires, Stdout, Force}
use Rattle.cli_options.specs.Options.{place_of}

-- The option at a place.
abbrev option_at : ℕ → CommandOption
option_at place = get_or
    (Recursive ∷ Flat ∷ Quiet ∷ Plain ∷ NoPassword ∷ KeyFile ∷ Title ∷ User ∷ Url ∷ Notes ∷ EntryPassword ∷ SameCredentials
    ∷ DryRun ∷ KeyFileFrom ∷ NoPasswordFrom ∷ Clear ∷ All ∷ Attachments ∷ Format ∷ Attribute ∷ SetPassword
    ∷ SetKeyFile ∷ ImportFormat ∷ Totp ∷ Generate ∷ Length ∷ Lower ∷ Upper ∷ Numeric
    ∷ Special ∷ Exclude ∷ Otp ∷ Cipher ∷ Kdf ∷ Rounds ∷ Memory ∷ Lanes
    ∷ UnsetPassword ∷ UnsetKeyFile ∷ FileVersion ∷ DatabaseName ∷ At ∷ Restore ∷ Details ∷ Ids
    ∷ Set ∷ Protect ∷ Unset ∷ Tag ∷ Untag ∷ Expires ∷ Stdout ∷ Force ∷ []) place Recursive

back : (option : CommandOption) → option_at (place_of option) ≡ option
back Recursive = refl
back Flat = refl
back Quiet = refl
back Plain = refl
back NoPassword = refl
back KeyFile = refl
back Title = refl
back User = refl
back Url = refl
back Notes = refl
back EntryPassword = refl
back SameCredentials = refl
back DryRun = refl
back KeyFileFrom = refl
back NoPasswordFrom = refl
back Clear = refl
back All = refl
back Attachments = refl
back Format = refl
back Attribute = refl
back SetPassword = refl
back SetKeyFile = refl
back ImportFormat = refl
back Totp = refl
back Generate = refl
back Length = refl
back Lower = refl
back Upper = refl
back Numeric = refl
back Special = refl
back Exclude = refl
back Otp = refl
back Cipher = refl
back Kdf = refl
back Rounds = refl
back Memory = refl
back Lanes = refl
back UnsetPassword = refl
back UnsetKeyFile = refl
back FileVersion = refl
back DatabaseName = refl
back At = refl
back Restore = refl
back Details = refl
back Ids = refl
back Set = refl
back Protect = refl
back Unset = refl
back Tag = refl
back Untag = refl
back Expires = refl
back Stdout = refl
back Force = refl

-- Options at one place are one option.
pub same_option : (f g : CommandOption) → place_of f ≡ place_of g → f ≡ g
same_option f g e = sym (back f) ∙ ap option_at e ∙ back g
