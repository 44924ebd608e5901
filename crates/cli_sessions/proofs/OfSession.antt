-- The command of a line is over the database of its session.
use Rattle.std.proofs.Common.{◌≡◌, ◌≢◌, ◌<◌, ◌∙◌, refl, sym, ap, subst, arith, ℕ, List, [], ◌∷◌, ◌++◌, length, Bool, true, false, Option, Some, None}
use Rattle.std.specs.Prelude.{IfSome, Ok, is_some, not, ◌&&◌, ◌||◌, if◌then◌else◌}
use Rattle.std.specs.Option.{option_and_then, option_map, option_map_or, option_or}
use Rattle.std.proofs.lemmas.List.{get_or-set_other, get_or-set_same, length-set}
use Rattle.cli_profiles.specs.Generating.{generated_in}
use Rattle.cli_profiles.specs.Profiles.{IsProfile}
use Rattle.cli_profiles.specs.declared.profiles.PasswordProfile.{PasswordProfile}
use Rattle.cli_profiles.proofs.Alphabets.{generated_profile}
use Rattle.cli_parse.specs.CliNeeds.declared.command.Access.{Access}
use Rattle.cli_parse.specs.CliNeeds.declared.command.Command.{Command}
use Rattle.cli_parse.specs.CliNeeds.declared.command.Command.TheVariants.{Add, Restore}
use Rattle.cli_parse.specs.CliNeeds.declared.command.FurtherAsked.{FurtherAsked}
use Rattle.cli_parse.specs.CliNeeds.Needs.{generated_by, target_access, target_of}
use Rattle.cli_options.specs.declared.names.CommandName.{CommandName}
use Rattle.cli_options.specs.declared.names.CommandName.TheVariants as name
use Rattle.cli_options.specs.declared.forms.CommandOption.{CommandOption}
use Rattle.cli_options.specs.declared.forms.CommandOption.TheVariants as option
use Rattle.cli_options.specs.Credentials.{is_whole}
use Rattle.cli_options.specs.Options.{command_named, place_of}
use Rattle.cli_options.specs.Said.{Said, is_given, text_in, text_of, with_words}
use Rattle.cli_options.proofs.Saying.{IfSaid}
use Rattle.cli_parse.specs.Fields.{further_of}
use Rattle.cli_parse.specs.Words.{access_of, asked_with, command_at, command_saying, edit_by, edit_of, edit_with, has_change, is_fit_show, or_wrong_words, show_by, show_of, version_asked, version_numbered}
use Rattle.cli_sessions.specs.SessionLines.{IsOfSession, at_database, flag_text, in_session, is_line_name, line_access, line_by, line_command, line_in, line_saying, names_access, with_access, with_text_if}
use Rattle.cli_sessions.proofs.Keeping.{IsKept, words_keep}

-- ---- commands over a file that they open so

-- A command is one of those of lines, over this file, which it opens so; and a password that it generates can be chosen.
pub record IsOver (access : Access) (file : List ℕ) (command : Command) : Type 0 where
  pub kind : in_session command ≡ true
  pub database : target_of command ≡ file
  pub opening : target_access command ≡ access
  pub profile : IfSome (generated_by command) IsProfile

-- So is the command, if there is one.
abbrev IfOver : Access → List ℕ → Option Command → Type 0
IfOver access file command = IfSome command (IsOver access file)

-- A command that generates no password.
plainly : (access : Access) (file : List ℕ) (command : Command) → in_session command ≡ true → target_of command ≡ file
    → target_access command ≡ access → generated_by command ≡ None → IsOver access file command
plainly access file command kind is opens none = record {
  kind = kind;
  database = is;
  opening = opens;
  profile = subst (λ profile. IfSome profile IsProfile) (sym none) tt;
}

-- A command where a test is met, or where it is not.
if_over : (access : Access) (file : List ℕ) (b : Bool) (command : Option Command) → IfOver access file command
    → IfOver access file (if b then command else None)
if_over access file true command h = h
if_over access file false command h = tt

unless_over : (access : Access) (file : List ℕ) (b : Bool) (command : Option Command) → IfOver access file command
    → IfOver access file (if b then None else command)
unless_over access file true command h = tt
unless_over access file false command h = h

show_over : (said : Said) (file entry : List ℕ) (at : Option ℕ) → IfOver (access_of said) file (option_map (show_of said file entry) at)
show_over said file entry None = tt
show_over said file entry (Some at) = plainly (access_of said) file (show_of said file entry at) refl refl refl refl

add_over : (said : Said) (file entry : List ℕ) (generated : Option (Option PasswordProfile)) → IfSome generated (λ profile. IfSome profile IsProfile)
    → IfOver (access_of said) file (option_map (Add (access_of said) file entry) (option_map (asked_with said) generated))
add_over said file entry None g = tt
add_over said file entry (Some generated) g = record { kind = refl; database = refl; opening = refl; profile = g }

edit_over : (said : Said) (file entry : List ℕ) (generated : Option (Option PasswordProfile)) (further : Option FurtherAsked)
    → IfSome generated (λ profile. IfSome profile IsProfile)
    → IfOver (access_of said) file (edit_with said file entry (option_map (asked_with said) generated) further)
edit_over said file entry None further g = tt
edit_over said file entry (Some generated) None g = tt
edit_over said file entry (Some generated) (Some further) g = record { kind = refl; database = refl; opening = refl; profile = g }

restore_over : (said : Said) (file entry : List ℕ) (version : Option ℕ)
    → IfOver (access_of said) file (option_map (Restore (access_of said) file entry) version)
restore_over said file entry None = tt
restore_over said file entry (Some version) = plainly (access_of said) file (Restore (access_of said) file entry version) refl refl refl refl

edited_over : (said : Said) (file entry : List ℕ) (text : Option (List ℕ)) → IfOver (access_of said) file (edit_by said file entry text)
edited_over said file entry None =
    if_over (access_of said) file (has_change said) (edit_of said file entry)
    (edit_over said file entry (generated_in said) (further_of said) (generated_profile said))
edited_over said file entry (Some text) =
    unless_over (access_of said) file _ _ (restore_over said file entry (version_numbered text))

-- A command of a line whose first position is a file.
line_over : (command : CommandName) → is_line_name command ≡ true → (said : Said) (file : List ℕ) (rest : List (List ℕ))
    → IfOver (access_of said) file (command_at command said (file ∷ rest))
line_over name.Ls h said file [] = plainly (access_of said) file _ refl refl refl refl
line_over name.Ls h said file (a ∷ []) = plainly (access_of said) file _ refl refl refl refl
line_over name.Ls h said file (a ∷ b ∷ rest) = tt
line_over name.Show h said file [] = tt
line_over name.Show h said file (a ∷ []) =
    if_over (access_of said) file (is_fit_show said) (show_by said file a) (show_over said file a (version_asked (text_of option.At said)))
line_over name.Show h said file (a ∷ b ∷ rest) = tt
line_over name.Search h said file [] = tt
line_over name.Search h said file (a ∷ []) = plainly (access_of said) file _ refl refl refl refl
line_over name.Search h said file (a ∷ b ∷ rest) = tt
line_over name.Add h said file [] = tt
line_over name.Add h said file (a ∷ []) = add_over said file a (generated_in said) (generated_profile said)
line_over name.Add h said file (a ∷ b ∷ rest) = tt
line_over name.Edit h said file [] = tt
line_over name.Edit h said file (a ∷ []) = edited_over said file a (text_of option.Restore said)
line_over name.Edit h said file (a ∷ b ∷ rest) = tt
line_over name.Move h said file [] = tt
line_over name.Move h said file (a ∷ []) = tt
line_over name.Move h said file (a ∷ b ∷ []) = plainly (access_of said) file _ refl refl refl refl
line_over name.Move h said file (a ∷ b ∷ c ∷ rest) = tt
line_over name.Remove h said file [] = tt
line_over name.Remove h said file (a ∷ []) = plainly (access_of said) file _ refl refl refl refl
line_over name.Remove h said file (a ∷ b ∷ rest) = tt
line_over name.MakeGroup h said file [] = tt
line_over name.MakeGroup h said file (a ∷ []) = plainly (access_of said) file _ refl refl refl refl
line_over name.MakeGroup h said file (a ∷ b ∷ rest) = tt
line_over name.RemoveGroup h said file [] = tt
line_over name.RemoveGroup h said file (a ∷ []) = plainly (access_of said) file _ refl refl refl refl
line_over name.RemoveGroup h said file (a ∷ b ∷ rest) = tt
line_over name.Info h said file [] = plainly (access_of said) file _ refl refl refl refl
line_over name.Info h said file (a ∷ rest) = tt
line_over command h said file rest = cc

-- ---- what is said of a line's database

-- The positions begin with this file.
abbrev HasFile : List ℕ → Said → Type 0
HasFile file said = (rest : List (List ℕ)) × (said.positions ≡ file ∷ rest)

keeps_file : (file : List ℕ) → IsKept (HasFile file)
keeps_file file = record {
  text = λ said option text p. p;
  due = λ said due p. p;
  end = λ said p. p;
  position = λ said word p. (p.0 ++ word ∷ [], ap (λ (positions : List (List ℕ)). positions ++ word ∷ []) p.1);
}

-- There is a place for each option.
abbrev pub HasPlaces : Said → Type 0
HasPlaces said = length said.given ≡ 53

pub keeps_places : IsKept HasPlaces
keeps_places = record {
  text = λ said option text p. length-set said.given (place_of option) (Some text) ∙ p;
  due = λ said due p. p;
  end = λ said p. p;
  position = λ said word p. p;
}

-- Of two options the text of one leaves that of the other.
pub text_if_other : (f g : CommandOption) (text : Option (List ℕ)) (given : List (Option (List ℕ))) → place_of g ≢ place_of f
    → text_in g (with_text_if f text given) ≡ text_in g given
text_if_other f g None given other = refl
text_if_other f g (Some text) given other = get_or-set_other given (place_of f) (place_of g) (Some text) None other

text_if_same : (f : CommandOption) (text : Option (List ℕ)) (given : List (Option (List ℕ))) → place_of f < length given
    → text_in f (with_text_if f text given) ≡ option_or text (text_in f given)
text_if_same f None given h = refl
text_if_same f (Some text) given h = get_or-set_same given (place_of f) (Some text) None h

text_if_length : (f : CommandOption) (text : Option (List ℕ)) (given : List (Option (List ℕ))) → length (with_text_if f text given) ≡ length given
text_if_length f None given = refl
text_if_length f (Some text) given = length-set given (place_of f) (Some text)

-- No part of what opens a database is named.
pub record NamesNone (said : Said) : Type 0 where
  pub plain : text_of option.Plain said ≡ None
  pub no_password : text_of option.NoPassword said ≡ None
  pub key_file : text_of option.KeyFile said ≡ None

pub names_none : (said : Said) → names_access said ≡ false → NamesNone said
names_none said h = by (text_of option.Plain said) (text_of option.NoPassword said) (text_of option.KeyFile said) refl refl refl h
  where
    by : (p n k : Option (List ℕ)) → text_of option.Plain said ≡ p → text_of option.NoPassword said ≡ n → text_of option.KeyFile said ≡ k
        → (is_some p || is_some n || is_some k) ≡ false → NamesNone said
    by None None None p n k h = record { plain = p; no_password = n; key_file = k }
    by (Some t) n k p q r h = cc
    by None (Some t) k p q r h = cc
    by None None (Some t) p q r h = cc

-- How a session opened its database, and quietly where a line says so.
abbrev or_quiet : Access → Bool → Access
or_quiet access quiet = record access { quiet = access.quiet || quiet }

-- How the database is opened that is said to be opened as in a session.
opens : (access : Access) (said : Said) → HasPlaces said → NamesNone said
    → access_of (with_access access said) ≡ or_quiet access (is_given option.Quiet said)
opens access said places none = λ i. record {
  plain = (ap is_some (plain_text ∙ ap (option_or (flag_text access.plain)) none.plain) ∙ flag_alone access.plain) i;
  quiet = (ap is_some quiet_text ∙ flag_or access.quiet (text_of option.Quiet said)) i;
  key_file = (key_text ∙ ap (option_or access.key_file) none.key_file ∙ text_alone access.key_file) i;
  no_password = (ap is_some (password_text ∙ ap (option_or (flag_text access.no_password)) none.no_password) ∙ flag_alone access.no_password) i;
}
  where
    first : List (Option (List ℕ))
    first = with_text_if option.Plain (flag_text access.plain) said.given

    second : List (Option (List ℕ))
    second = with_text_if option.NoPassword (flag_text access.no_password) first

    third : List (Option (List ℕ))
    third = with_text_if option.KeyFile access.key_file second

    first_length : length first ≡ 53
    first_length = text_if_length option.Plain (flag_text access.plain) said.given ∙ places

    second_length : length second ≡ 53
    second_length = text_if_length option.NoPassword (flag_text access.no_password) first ∙ first_length

    third_length : length third ≡ 53
    third_length = text_if_length option.KeyFile access.key_file second ∙ second_length

    flag_alone : (b : Bool) → is_some (option_or (flag_text b) None) ≡ b
    flag_alone true = refl
    flag_alone false = refl

    flag_or : (b : Bool) (text : Option (List ℕ)) → is_some (option_or (flag_text b) text) ≡ (b || is_some text)
    flag_or true text = refl
    flag_or false text = refl

    text_alone : (text : Option (List ℕ)) → option_or text None ≡ text
    text_alone None = refl
    text_alone (Some text) = refl

    plain_text : text_in option.Plain (with_access access said).given ≡ option_or (flag_text access.plain) (text_of option.Plain said)
    plain_text =
        text_if_other option.Quiet option.Plain (flag_text access.quiet) third (omega arith)
        ∙ text_if_other option.KeyFile option.Plain access.key_file second (omega arith)
        ∙ text_if_other option.NoPassword option.Plain (flag_text access.no_password) first (omega arith)
        ∙ text_if_same option.Plain (flag_text access.plain) said.given (omega (arith, places))

    password_text : text_in option.NoPassword (with_access access said).given ≡ option_or (flag_text access.no_password) (text_of option.NoPassword said)
    password_text =
        text_if_other option.Quiet option.NoPassword (flag_text access.quiet) third (omega arith)
        ∙ text_if_other option.KeyFile option.NoPassword access.key_file second (omega arith)
        ∙ text_if_same option.NoPassword (flag_text access.no_password) first (omega (arith, first_length))
        ∙ ap (option_or (flag_text access.no_password)) (text_if_other option.Plain option.NoPassword (flag_text access.plain) said.given (omega arith))

    key_text : text_in option.KeyFile (with_access access said).given ≡ option_or access.key_file (text_of option.KeyFile said)
    key_text =
        text_if_other option.Quiet option.KeyFile (flag_text access.quiet) third (omega arith)
        ∙ text_if_same option.KeyFile access.key_file second (omega (arith, second_length))
        ∙ ap (option_or access.key_file) (text_if_other option.NoPassword option.KeyFile (flag_text access.no_password) first (omega arith)
        ∙ text_if_other option.Plain option.KeyFile (flag_text access.plain) said.given (omega arith))

    quiet_text : text_in option.Quiet (with_access access said).given ≡ option_or (flag_text access.quiet) (text_of option.Quiet said)
    quiet_text =
        text_if_same option.Quiet (flag_text access.quiet) third (omega (arith, third_length))
        ∙ ap (option_or (flag_text access.quiet)) (text_if_other option.KeyFile option.Quiet access.key_file second (omega arith)
        ∙ text_if_other option.NoPassword option.Quiet (flag_text access.no_password) first (omega arith)
        ∙ text_if_other option.Plain option.Quiet (flag_text access.plain) said.given (omega arith))

-- ---- the command of a line

-- What is said in a session of a command of lines.
saying_over : (access : Access) (command : CommandName) (said : Said) (file : List ℕ) → HasFile file said → HasPlaces said
    → IfOver (or_quiet access (is_given option.Quiet said)) file (line_saying access command said)
saying_over access command said file positions places = by (is_line_name command) (names_access said) refl refl
  where
    at : is_line_name command ≡ true → names_access said ≡ false
        → IfOver (or_quiet access (is_given option.Quiet said)) file (command_at command (with_access access said) said.positions)
    at l n =
        subst (λ (opens : Access). IfOver opens file (command_at command (with_access access said) said.positions)) (opens access said places (names_none said n))
        (subst (λ (positions : List (List ℕ)). IfOver (access_of (with_access access said)) file (command_at command (with_access access said) positions)) (sym positions.1)
        (line_over command l (with_access access said) file positions.0))

    by : (line names : Bool) → is_line_name command ≡ line → names_access said ≡ names
        → IfOver (or_quiet access (is_given option.Quiet said)) file
        (if line && not names then command_saying command (with_access access said) else None)
    by true false l n =
        if_over (or_quiet access (is_given option.Quiet said)) file (is_whole (with_access access said)) _ (at l n)
    by true true l n = tt
    by false names l n = tt

-- What a line says, where it says something.
said_over : (access : Access) (file : List ℕ) (command : CommandName) (said : Option Said) → IfSaid (HasFile file) said → IfSaid HasPlaces said
    → IfOver (or_quiet access (option_map_or (is_given option.Quiet) said false)) file
    (option_and_then (line_saying access command) said)
said_over access file command None f p = tt
said_over access file command (Some said) f p = saying_over access command said file f p

-- The command of a line is over its session's file.
pub line_is_over : (access : Access) (file : List ℕ) (words : List (List ℕ)) → IfSome (line_in access file words) (IsOver (line_access access file words) file)
line_is_over access file [] = tt
line_is_over access file (word ∷ words) = by (command_named word) refl
  where
    by : (command : Option CommandName) → command_named word ≡ command
        → IfOver (or_quiet access (option_map_or (is_given option.Quiet) (option_and_then (λ command. with_words command words (at_database file)) command) false))
        file (option_and_then (line_by access file words) command)
    by None e = tt
    by (Some command) e =
        said_over access file command (with_words command words (at_database file))
        (words_keep (HasFile file) (keeps_file file) command words (at_database file) ([], refl))
        (words_keep HasPlaces keeps_places command words (at_database file) refl)

-- The command that a line is.
pub over : (access : Access) (file : List ℕ) (words : List (List ℕ)) (command : Command) → line_in access file words ≡ Some command
    → IsOver (line_access access file words) file command
over access file words command e = subst (IfOver (line_access access file words) file) e (line_is_over access file words)

-- A command that is not wrong.
is_command : (found : Option Command) (command : Command) → or_wrong_words found ≡ Ok command → found ≡ Some command
is_command None command e = cc
is_command (Some found) command e = cc

-- The law of it.
pub of_session : (access : Access) (file : List ℕ) (words : List (List ℕ)) (command : Command) → line_command access file words ≡ Ok command
    → IsOfSession access file words command
of_session access file words command e =
    let is = over access file words command (is_command (line_in access file words) command e) in
    record { kind = is.kind; database = is.database; opening = is.opening }
