-- What is said of a version of an entry has a cause exactly where it is no command.
use Rattle.std.proofs.Common.{◌≡◌, ◌∙◌, ℕ, Bool, true, false, List, [], ◌∷◌, Option, Some, None, refl, ap₂}
use Rattle.std.specs.Prelude.{not, ◌&&◌, ◌||◌, if◌then◌else◌, is_some}
use Rattle.std.specs.Option.{option_map, option_or}
use Rattle.cli_options.specs.declared.forms.CommandOption.{CommandOption}
use Rattle.cli_options.specs.declared.forms.CommandOption.TheVariants as option
use Rattle.cli_options.specs.Said.{Said, is_given}
use Rattle.cli_profiles.specs.Generating.{has_profile_option}
use Rattle.cli_needs.specs.declared.command.Command.{Command}
use Rattle.cli_parse.specs.Words.{has_change, is_fit_show, version_asked, version_numbered}
use Rattle.cli_causes.specs.declared.cause.Cause.TheVariants.{NotTogether, UnknownNumber}
use Rattle.cli_causes.specs.Causes.{code_cause}
use Rattle.cli_causes.specs.First.{first_of}
use Rattle.cli_causes.specs.Versions.{beside_cause, entry_options, first_given, number_cause, restore_cause}
use Rattle.cli_causes.proofs.Tests.{some_mapped, some_or}

numbers : (option : CommandOption) (t : Option (List ℕ)) → is_some (number_cause option t) ≡ not (is_some (version_asked t))
numbers option None = refl
numbers option (Some text) = by (version_numbered text)
  where
    by : (o : Option ℕ) → is_some (if is_some o then None else Some (UnknownNumber option text)) ≡ not (is_some o)
    by None = refl
    by (Some number) = refl

-- ---- what is shown

together : (totp all attachments : Bool)
    → is_some (first_of ((totp && all, NotTogether option.Totp option.All) ∷ (totp && attachments, NotTogether option.Totp option.Attachments) ∷ []))
    ≡ not (not (totp && (all || attachments)))
together true true attachments = refl
together true false true = refl
together true false false = refl
together false all attachments = refl

pub shown_agrees : (said : Said) (F : ℕ → Command) (t : Option (List ℕ))
    → is_some (option_or (code_cause said) (number_cause option.At t)) ≡ not (is_some (if is_fit_show said then option_map F (version_asked t) else None) || false)
shown_agrees said F t =
    some_or (code_cause said) (number_cause option.At t)
    ∙ ap₂ (λ (a b : Bool). a || b) (together (is_given option.Totp said) (is_given option.All said) (is_given option.Attachments said)) (numbers option.At t)
    ∙ by (is_fit_show said) (version_asked t)
  where
    by : (fit : Bool) (o : Option ℕ) → (not fit || not (is_some o)) ≡ not (is_some (if fit then option_map F o else None) || false)
    by true None = refl
    by true (Some at) = refl
    by false o = refl

-- ---- what is restored

-- The first option that changes an entry is there where any is.
any_given : (title user url notes line generate otp set protect unset tag untag expires length exclude lower upper numeric special : Bool)
    → is_some (if title then Some option.Title else (if user then Some option.User else (if url then Some option.Url else (
    if notes then Some option.Notes else (if line then Some option.EntryPassword else (if generate then Some option.Generate else (
    if otp then Some option.Otp else (if set then Some option.Set else (if protect then Some option.Protect else (
    if unset then Some option.Unset else (if tag then Some option.Tag else (if untag then Some option.Untag else (
    if expires then Some option.Expires else (if length then Some option.Length else (if exclude then Some option.Exclude else (
    if lower then Some option.Lower else (if upper then Some option.Upper else (if numeric then Some option.Numeric else (
    if special then Some option.Special else (None))))))))))))))))))))
    ≡ ((title || user || url || notes || line || generate || otp || (set || protect || unset || tag || untag || expires))
    || (length || exclude || (lower || upper || numeric || special)))
any_given true user url notes line generate otp set protect unset tag untag expires length exclude lower upper numeric special = refl
any_given false true url notes line generate otp set protect unset tag untag expires length exclude lower upper numeric special = refl
any_given false false true notes line generate otp set protect unset tag untag expires length exclude lower upper numeric special = refl
any_given false false false true line generate otp set protect unset tag untag expires length exclude lower upper numeric special = refl
any_given false false false false true generate otp set protect unset tag untag expires length exclude lower upper numeric special = refl
any_given false false false false false true otp set protect unset tag untag expires length exclude lower upper numeric special = refl
any_given false false false false false false true set protect unset tag untag expires length exclude lower upper numeric special = refl
any_given false false false false false false false true protect unset tag untag expires length exclude lower upper numeric special = refl
any_given false false false false false false false false true unset tag untag expires length exclude lower upper numeric special = refl
any_given false false false false false false false false false true tag untag expires length exclude lower upper numeric special = refl
any_given false false false false false false false false false false true untag expires length exclude lower upper numeric special = refl
any_given false false false false false false false false false false false true expires length exclude lower upper numeric special = refl
any_given false false false false false false false false false false false false true length exclude lower upper numeric special = refl
any_given false false false false false false false false false false false false false true exclude lower upper numeric special = refl
any_given false false false false false false false false false false false false false false true lower upper numeric special = refl
any_given false false false false false false false false false false false false false false false true upper numeric special = refl
any_given false false false false false false false false false false false false false false false false true numeric special = refl
any_given false false false false false false false false false false false false false false false false false true special = refl
any_given false false false false false false false false false false false false false false false false false false true = refl
any_given false false false false false false false false false false false false false false false false false false false = refl

given_agrees : (said : Said) → is_some (first_given said entry_options) ≡ (has_change said || has_profile_option said)
given_agrees said =
    any_given (is_given option.Title said) (is_given option.User said) (is_given option.Url said) (is_given option.Notes said)
    (is_given option.EntryPassword said) (is_given option.Generate said) (is_given option.Otp said) (is_given option.Set said)
    (is_given option.Protect said) (is_given option.Unset said) (is_given option.Tag said) (is_given option.Untag said)
    (is_given option.Expires said) (is_given option.Length said) (is_given option.Exclude said) (is_given option.Lower said)
    (is_given option.Upper said) (is_given option.Numeric said) (is_given option.Special said)

pub restore_agrees : (said : Said) (F : ℕ → Command) (text : List ℕ)
    → is_some (restore_cause said text)
    ≡ not (is_some (if has_change said || has_profile_option said then None else option_map F (version_numbered text)) || false)
restore_agrees said F text =
    some_or (beside_cause said) (number_cause option.Restore (Some text))
    ∙ ap₂ (λ (a b : Bool). a || b) (some_mapped (NotTogether option.Restore) (first_given said entry_options) ∙ given_agrees said) (numbers option.Restore (Some text))
    ∙ by (has_change said || has_profile_option said) (version_numbered text)
  where
    by : (change : Bool) (o : Option ℕ) → (change || not (is_some o)) ≡ not (is_some (if change then None else option_map F o) || false)
    by true o = refl
    by false None = refl
    by false (Some version) = refl
