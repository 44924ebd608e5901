-- What words ask for of an entry's further fields, of its tags, and of when it expires.
use Rattle.std.specs.Prelude.{ℕ, Bool, not, ◌&&◌, ◌||◌, if◌then◌else◌, List, codes, Option, None, Some, option_map}
use Rattle.std.specs.List.{list_all}
use Rattle.std.specs.Str.{bytes_eq}
use Rattle.doc_forms.specs.Values.{iso_time}
use Rattle.tree_core.specs.Tags.{is_tag}
use Rattle.tree_core.specs.declared.values.Expiry.{Expiry}
use Rattle.tree_core.specs.declared.values.Expiry.TheVariants.{At, Never}
use Rattle.cli_options.specs.declared.forms.CommandOption.TheVariants as option
use Rattle.cli_options.specs.Said.{Said, is_given, text_of, texts_of}
use Rattle.cli_needs.specs.Needs.{is_filled}
use Rattle.cli_needs.specs.declared.command.FurtherAsked.{FurtherAsked}

-- A name is one of the five fields that every entry has, each of which has an option of its own.
abbrev pub is_standard_name : List ℕ → Bool
is_standard_name name =
    bytes_eq name (codes "Title") || bytes_eq name (codes "UserName")
    || bytes_eq name (codes "Password") || bytes_eq name (codes "URL")
    || bytes_eq name (codes "Notes")

-- A field of one's own may have this name.
abbrev pub is_own_name : List ℕ → Bool
is_own_name name = is_filled name && not (is_standard_name name)

-- What is said fits together: the fields are of one's own, each tag is one, and where values are to
-- be hidden there are some.
abbrev pub is_fit_further : Said → Bool
is_fit_further said =
    list_all is_own_name (texts_of option.Set said)
    && list_all is_own_name (texts_of option.Unset said)
    && list_all is_tag (texts_of option.Tag said)
    && list_all is_tag (texts_of option.Untag said)
    && (not (is_given option.Protect said) || is_given option.Set said)

-- When an entry expires that a time in ISO 8601 says.
abbrev pub expiry_at : Option ℕ → Option Expiry
expiry_at = option_map At

-- When an entry expires by a text: `never`, or at a time.
abbrev pub expiry_named : List ℕ → Option Expiry
expiry_named text =
    if bytes_eq text (codes "never") then Some Never else expiry_at (iso_time text)

-- When an entry expires from now on, if that is to change; a text that is no time is refused.
abbrev pub expiry_asked : Option (List ℕ) → Option (Option Expiry)
expiry_asked None = Some None
expiry_asked (Some text) = option_map Some (expiry_named text)

-- What else of an entry is to change, with this expiry.
abbrev pub further_with : Said → Option Expiry → FurtherAsked
further_with said expiry = record {
  set = texts_of option.Set said;
  protect = is_given option.Protect said;
  unset = texts_of option.Unset said;
  tags = texts_of option.Tag said;
  untags = texts_of option.Untag said;
  expiry = expiry;
}

-- What else of an entry is to change, if it fits together.
abbrev pub further_of : Said → Option FurtherAsked
further_of said = if is_fit_further said
    then option_map (further_with said) (expiry_asked (text_of option.Expires said)) else None
