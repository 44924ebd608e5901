-- What is said to open databases, and whether it fits them.
use Rattle.std.specs.Prelude.{Bool, not, ◌&&◌, ◌||◌, if◌then◌else◌}
use Rattle.cli_options.specs.declared.forms.CommandOption.TheVariants as option
use Rattle.cli_options.specs.Said.{Said, is_due, is_given}

-- What opens a database fits it: nothing at a plain document, else a password or a key file.
abbrev pub is_fit : (plain no_password has_key : Bool) → Bool
is_fit plain no_password has_key =
    if plain then not (no_password || has_key) else (not no_password || has_key)

-- What opens the sources of a merge fits them. Where they are opened as the target is, that is no
-- plain document, and nothing is given for the sources alone.
abbrev pub is_fit_from : Said → Bool
is_fit_from said = if is_given option.SameCredentials said
    then not (is_given option.Plain said || is_given option.NoPasswordFrom said
    || is_given option.KeyFileFrom said)
    else is_fit (is_given option.Plain said) (is_given option.NoPasswordFrom said)
    (is_given option.KeyFileFrom said)

-- Nothing is due, and what opens each database fits it.
abbrev pub is_whole : Said → Bool
is_whole said =
    not (is_due said)
    && (is_fit (is_given option.Plain said) (is_given option.NoPassword said)
    (is_given option.KeyFile said) && is_fit_from said)

-- What opens a new database fits it: nothing at a plain document, else a password or a key file.
abbrev pub is_fit_new : Said → Bool
is_fit_new said = if is_given option.Plain said
    then not (is_given option.SetPassword said || is_given option.SetKeyFile said)
    else (is_given option.SetPassword said || is_given option.SetKeyFile said)

-- A part of a key is there after a change: it is set, or was there and is not unset.
abbrev pub has_part : (set unset before : Bool) → Bool
has_part set unset before = set || (before && not unset)

-- What changes the key of a database fits it: no part of the key is both set and unset, and one of
-- them is there afterwards.
abbrev pub is_fit_change : Said → Bool
is_fit_change said =
    not (is_given option.SetPassword said && is_given option.UnsetPassword said)
    && (not (is_given option.SetKeyFile said && is_given option.UnsetKeyFile said)
    && (has_part (is_given option.SetPassword said) (is_given option.UnsetPassword said)
    (not (is_given option.NoPassword said))
    || has_part (is_given option.SetKeyFile said) (is_given option.UnsetKeyFile said)
    (is_given option.KeyFile said)))
