-- What is wrong in what is said of an entry's further fields, of its tags, and of when it expires.
use Rattle.std.specs.Prelude.{ℕ, not, ◌&&◌, if◌then◌else◌, is_some, List, Option, None, Some, option_map}
use Rattle.std.specs.List.{find}
use Rattle.std.specs.Option.{option_or}
use Rattle.cli_options.specs.declared.forms.CommandOption.{CommandOption}
use Rattle.cli_options.specs.declared.forms.CommandOption.TheVariants as option
use Rattle.cli_options.specs.Said.{Said, is_given, text_of, texts_of}
use Rattle.cli_needs.specs.Needs.{is_filled}
use Rattle.cli_parse.specs.Fields.{expiry_named, is_own_name}
use Rattle.tree_core.specs.Tags.{is_tag}
use Rattle.cli_causes.specs.declared.cause.Cause.{Cause}
use Rattle.cli_causes.specs.declared.cause.Cause.TheVariants.{EmptyFieldName, NeedsSet, StandardField, UnknownTag, UnknownTime}

-- The first of these names that no field of one's own may have.
abbrev pub first_wrong_name : List (List ℕ) → Option (List ℕ)
first_wrong_name = find (λ name. not (is_own_name name))

-- The first of these texts that is no tag.
abbrev pub first_wrong_tag : List (List ℕ) → Option (List ℕ)
first_wrong_tag = find (λ tag. not (is_tag tag))

-- A name that no field of one's own may have: an empty one, or one of a field that every entry has.
abbrev pub wrong_name : CommandOption → List ℕ → Cause
wrong_name option name = if is_filled name then StandardField option name else EmptyFieldName option

-- The first name of an option that no field of one's own may have.
abbrev pub names_cause : CommandOption → Said → Option Cause
names_cause option said =
    option_map (wrong_name option) (first_wrong_name (texts_of option said))

-- The first text of an option that is no tag.
abbrev pub tags_cause : CommandOption → Said → Option Cause
tags_cause option said = option_map (UnknownTag option) (first_wrong_tag (texts_of option said))

-- The same of the options that name fields.
abbrev pub all_names_cause : Said → Option Cause
all_names_cause said = option_or (names_cause option.Set said) (names_cause option.Unset said)

-- The same of the options that name tags.
abbrev pub all_tags_cause : Said → Option Cause
all_tags_cause said = option_or (tags_cause option.Tag said) (tags_cause option.Untag said)

-- Values are to be hidden, and there are none.
abbrev pub protect_cause : Said → Option Cause
protect_cause said =
    if is_given option.Protect said && not (is_given option.Set said) then Some NeedsSet else None

-- A text that is no time at which an entry expires, if there is one.
abbrev pub expiry_cause : Option (List ℕ) → Option Cause
expiry_cause None = None
expiry_cause (Some text) = if is_some (expiry_named text) then None else Some (UnknownTime text)

-- Values are to be hidden and there are none, or a text is no time at which an entry expires.
abbrev pub expiring_cause : Said → Option Cause
expiring_cause said = option_or (protect_cause said) (expiry_cause (text_of option.Expires said))

-- What else of an entry is to change does not fit together.
abbrev pub further_cause : Said → Option Cause
further_cause said =
    option_or (all_names_cause said) (option_or (all_tags_cause said) (expiring_cause said))
