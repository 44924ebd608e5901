-- A line is what its words are in a call on the session's database.
use Rattle.std.proofs.Common.{◌≡◌, ◌≢◌, ◌∙◌, refl, sym, ap, arith, ℕ, List, [], ◌∷◌, ◌++◌, codes, append_assoc, Bool, true, false, cond, Option, Some, None}
use Rattle.std.specs.Prelude.{IfSome, is_some, not, ◌&&◌, ◌||◌}
use Rattle.std.specs.Option.{option_and_then}
use Rattle.cli_parse.specs.CliNeeds.declared.command.Access.{Access}
use Rattle.cli_options.specs.declared.names.CommandName.{CommandName}
use Rattle.cli_options.specs.declared.names.CommandName.TheVariants as name
use Rattle.cli_options.specs.declared.forms.CommandOption.{CommandOption}
use Rattle.cli_options.specs.declared.forms.CommandOption.TheVariants as option
use Rattle.cli_options.specs.Credentials.{is_fit, is_fit_from}
use Rattle.cli_options.specs.Options.{command_named, name_option, place_of}
use Rattle.cli_options.specs.Prefixes.{strip_prefix}
use Rattle.cli_options.specs.Said.{Said, is_due, is_given, is_option, nothing_said, repeated_with, text_in, unless_given, with_given, with_long, with_option, with_option_text, with_position, with_text, with_word, with_words}
use Rattle.cli_options.proofs.Flags.{joined}
use Rattle.cli_options.proofs.FlagWords.{read_option}
use Rattle.cli_options.proofs.Saying.{IfSaid, IsState, by_unless, same_from, text_keeps}
use Rattle.cli_parse.specs.Words.{command_at, command_by, command_of, command_saying, or_wrong_words}
use Rattle.cli_sessions.specs.SessionLines.{access_words, at_database, flag_text, is_line_name, key_file_words, line_by, line_command, line_saying, names_access, repeats_access, with_access, with_text_if, word_if}
use Rattle.cli_sessions.proofs.Keeping.{by_step, given_keeps}
use Rattle.cli_sessions.proofs.OfSession.{HasPlaces, keeps_places, names_none, text_if_other}
use Rattle.cli_sessions.proofs.Past.{IsSingle, finished, whole_words, words_past}

-- An option with its text, where there is one.
abbrev given_if : CommandOption → Option (List ℕ) → Said → Option Said
given_if f None said = Some said
given_if f (Some text) said = with_given said f text

-- What opens a database, one option after another.
abbrev given_access : Access → Said → Option Said
given_access access said =
    option_and_then (given_if option.Quiet (flag_text access.quiet))
    (option_and_then (given_if option.KeyFile access.key_file)
    (option_and_then (given_if option.NoPassword (flag_text access.no_password))
    (given_if option.Plain (flag_text access.plain) said)))

-- ---- the words of an access

-- A command takes the options that open a database, and `-q`.
record TakesAccess (command : CommandName) : Type 0 where
  plain : name_option command (codes "plain") ≡ Some option.Plain
  no_password : name_option command (codes "no-password") ≡ Some option.NoPassword
  key_file : name_option command (codes "key-file") ≡ Some option.KeyFile
  quiet : name_option command (codes "quiet") ≡ Some option.Quiet

takes_access : (command : CommandName) → is_line_name command ≡ true → TakesAccess command
takes_access name.Ls h = record { plain = refl; no_password = refl; key_file = refl; quiet = refl }
takes_access name.Show h = record { plain = refl; no_password = refl; key_file = refl; quiet = refl }
takes_access name.Search h = record { plain = refl; no_password = refl; key_file = refl; quiet = refl }
takes_access name.Add h = record { plain = refl; no_password = refl; key_file = refl; quiet = refl }
takes_access name.Edit h = record { plain = refl; no_password = refl; key_file = refl; quiet = refl }
takes_access name.Move h = record { plain = refl; no_password = refl; key_file = refl; quiet = refl }
takes_access name.Remove h = record { plain = refl; no_password = refl; key_file = refl; quiet = refl }
takes_access name.MakeGroup h = record { plain = refl; no_password = refl; key_file = refl; quiet = refl }
takes_access name.RemoveGroup h = record { plain = refl; no_password = refl; key_file = refl; quiet = refl }
takes_access name.Info h = record { plain = refl; no_password = refl; key_file = refl; quiet = refl }
takes_access command h = cc

-- No `--` was there, and no value is due.
abbrev IsBegun : Said → Type 0
IsBegun said = IsState false None said

-- A word says an option with this text.
abbrev Writes : CommandName → CommandOption → List ℕ → List ℕ → Type 0
Writes command f text word = (said : Said) → IsBegun said → with_word command said word ≡ with_given said f text

plain_written : (command : CommandName) → TakesAccess command → Writes command option.Plain [] (codes "--plain")
plain_written command takes said begun =
    read_option command said (codes "--plain") refl begun.0 begun.1 ∙ ap (λ (o : Option CommandOption). with_long said o None) takes.plain

no_password_written : (command : CommandName) → TakesAccess command → Writes command option.NoPassword [] (codes "--no-password")
no_password_written command takes said begun =
    read_option command said (codes "--no-password") refl begun.0 begun.1 ∙ ap (λ (o : Option CommandOption). with_long said o None) takes.no_password

quiet_written : (command : CommandName) → TakesAccess command → Writes command option.Quiet [] (codes "--quiet")
quiet_written command takes said begun =
    read_option command said (codes "--quiet") refl begun.0 begun.1 ∙ ap (λ (o : Option CommandOption). with_long said o None) takes.quiet

key_file_written : (command : CommandName) → TakesAccess command → (name : List ℕ) → Writes command option.KeyFile name (codes "--key-file=" ++ name)
key_file_written command takes name said begun =
    read_option command said (codes "--key-file=" ++ name) refl begun.0 begun.1
    ∙ ap (λ (o : Option CommandOption). with_long said o (Some name)) takes.key_file

-- A flag's word before others.
flag_first : (command : CommandName) (f : CommandOption) (word : List ℕ) → Writes command f [] word → (b : Bool) (words : List (List ℕ)) (said : Said)
    → IsBegun said → with_words command (word_if b word ++ words) said ≡ option_and_then (with_words command words) (given_if f (flag_text b) said)
flag_first command f word writes true words said begun = ap (option_and_then (with_words command words)) (writes said begun)
flag_first command f word writes false words said begun = refl

key_file_first : (command : CommandName) → TakesAccess command → (key_file : Option (List ℕ)) (words : List (List ℕ)) (said : Said) → IsBegun said
    → with_words command (key_file_words key_file ++ words) said ≡ option_and_then (with_words command words) (given_if option.KeyFile key_file said)
key_file_first command takes (Some name) words said begun = ap (option_and_then (with_words command words)) (key_file_written command takes name said begun)
key_file_first command takes None words said begun = refl

-- An option leaves it open what comes next.
if_begun : (f : CommandOption) (text : Option (List ℕ)) (said : Said) → IsBegun said → IfSaid IsBegun (given_if f text said)
if_begun f None said begun = begun
if_begun f (Some text) said begun = by_unless IsBegun _ _ (text_keeps false None said f text begun)

-- The next option after others.
next_first : (W V give : Said → Option Said) → ((s : Said) → IsBegun s → W s ≡ option_and_then V (give s)) → (o : Option Said) → IfSaid IsBegun o
    → option_and_then W o ≡ option_and_then V (option_and_then give o)
next_first W V give h o begun = same_from IsBegun W (λ s. option_and_then V (give s)) h o begun ∙ sym (joined give V o)

-- All of them before other words.
access_first : (command : CommandName) → TakesAccess command → (access : Access) (words : List (List ℕ)) (said : Said) → IsBegun said
    → with_words command (access_words access ++ words) said ≡ option_and_then (with_words command words) (given_access access said)
access_first command takes access words said begun =
    ap (λ (all : List (List ℕ)). with_words command all said)
    (append_assoc (plain ++ no_password ++ key_file) quiet words
    ∙ append_assoc (plain ++ no_password) key_file (quiet ++ words)
    ∙ append_assoc plain no_password (key_file ++ (quiet ++ words)))
    ∙ flag_first command option.Plain (codes "--plain") (plain_written command takes) access.plain (no_password ++ (key_file ++ (quiet ++ words))) said begun
    ∙ next_first (with_words command (no_password ++ (key_file ++ (quiet ++ words)))) (with_words command (key_file ++ (quiet ++ words))) second
    (flag_first command option.NoPassword (codes "--no-password") (no_password_written command takes) access.no_password (key_file ++ (quiet ++ words))) (first said) one
    ∙ next_first (with_words command (key_file ++ (quiet ++ words))) (with_words command (quiet ++ words)) third
    (key_file_first command takes access.key_file (quiet ++ words)) (option_and_then second (first said)) two
    ∙ next_first (with_words command (quiet ++ words)) (with_words command words) fourth
    (flag_first command option.Quiet (codes "--quiet") (quiet_written command takes) access.quiet words) (option_and_then third (option_and_then second (first said))) three
  where
    plain : List (List ℕ)
    plain = word_if access.plain (codes "--plain")

    no_password : List (List ℕ)
    no_password = word_if access.no_password (codes "--no-password")

    key_file : List (List ℕ)
    key_file = key_file_words access.key_file

    quiet : List (List ℕ)
    quiet = word_if access.quiet (codes "--quiet")

    first : Said → Option Said
    first = given_if option.Plain (flag_text access.plain)

    second : Said → Option Said
    second = given_if option.NoPassword (flag_text access.no_password)

    third : Said → Option Said
    third = given_if option.KeyFile access.key_file

    fourth : Said → Option Said
    fourth = given_if option.Quiet (flag_text access.quiet)

    one : IfSaid IsBegun (first said)
    one = if_begun option.Plain (flag_text access.plain) said begun

    two : IfSaid IsBegun (option_and_then second (first said))
    two = by_step IsBegun second (if_begun option.NoPassword (flag_text access.no_password)) (first said) one

    three : IfSaid IsBegun (option_and_then third (option_and_then second (first said)))
    three = by_step IsBegun third (if_begun option.KeyFile access.key_file) (option_and_then second (first said)) two

-- ---- before words, or after them

single_plain : IsSingle option.Plain
single_plain = record { once = refl; place = omega arith }

single_no_password : IsSingle option.NoPassword
single_no_password = record { once = refl; place = omega arith }

single_key_file : IsSingle option.KeyFile
single_key_file = record { once = refl; place = omega arith }

single_quiet : IsSingle option.Quiet
single_quiet = record { once = refl; place = omega arith }

-- What may be done before words, or after them.
abbrev IsEither : CommandName → List (List ℕ) → (Said → Option Said) → Type 0
IsEither command words give = (said : Said) → HasPlaces said
    → option_and_then (whole_words command words) (give said) ≡ option_and_then give (whole_words command words said)

nothing_done : (f : CommandOption) (o : Option Said) → o ≡ option_and_then (given_if f None) o
nothing_done f None = refl
nothing_done f (Some said) = refl

if_either : (command : CommandName) (words : List (List ℕ)) (f : CommandOption) → IsSingle f → (text : Option (List ℕ))
    → IsEither command words (given_if f text)
if_either command words f single None said places = nothing_done f (whole_words command words said)
if_either command words f single (Some text) said places = words_past f text single command words said places

if_places : (f : CommandOption) (text : Option (List ℕ)) (said : Said) → HasPlaces said → IfSaid HasPlaces (given_if f text said)
if_places f None said places = places
if_places f (Some text) said places = given_keeps HasPlaces keeps_places said f text places

-- Two such steps.
both_either : (command : CommandName) (words : List (List ℕ)) (F G : Said → Option Said) → ((s : Said) → HasPlaces s → IfSaid HasPlaces (F s))
    → IsEither command words F → IsEither command words G → IsEither command words (λ said. option_and_then G (F said))
both_either command words F G keeps one two said places =
    let W = whole_words command words in
    joined G W (F said)
    ∙ same_from HasPlaces (λ s. option_and_then W (G s)) (λ s. option_and_then G (W s)) two (F said) (keeps said places)
    ∙ sym (joined W G (F said))
    ∙ ap (option_and_then G) (one said places)
    ∙ joined F G (W said)

access_either : (command : CommandName) (words : List (List ℕ)) (access : Access) → IsEither command words (given_access access)
access_either command words access =
    both_either command words (λ said. option_and_then third (option_and_then second (first said))) fourth
    (λ said places. by_step HasPlaces third (if_places option.KeyFile access.key_file) (option_and_then second (first said)) (two said places))
    (both_either command words (λ said. option_and_then second (first said)) third two
    (both_either command words first second (if_places option.Plain (flag_text access.plain))
    (if_either command words option.Plain single_plain (flag_text access.plain))
    (if_either command words option.NoPassword single_no_password (flag_text access.no_password)))
    (if_either command words option.KeyFile single_key_file access.key_file))
    (if_either command words option.Quiet single_quiet (flag_text access.quiet))
  where
    first : Said → Option Said
    first = given_if option.Plain (flag_text access.plain)

    second : Said → Option Said
    second = given_if option.NoPassword (flag_text access.no_password)

    third : Said → Option Said
    third = given_if option.KeyFile access.key_file

    fourth : Said → Option Said
    fourth = given_if option.Quiet (flag_text access.quiet)

    two : (said : Said) → HasPlaces said → IfSaid HasPlaces (option_and_then second (first said))
    two said places =
        by_step HasPlaces second (if_places option.NoPassword (flag_text access.no_password)) (first said)
        (if_places option.Plain (flag_text access.plain) said places)

-- ---- after words that do not say it

-- What is said with the text of an option, where there is one.
abbrev with_if : CommandOption → Option (List ℕ) → Said → Said
with_if f text said = record said { given = with_text_if f text said.given }

-- An option that was not given before.
if_new : (f : CommandOption) → IsSingle f → (text : Option (List ℕ)) (said : Said) → (is_some text && is_given f said) ≡ false
    → given_if f text said ≡ Some (with_if f text said)
if_new f single None said h = refl
if_new f single (Some text) said h =
    ap (λ (b : Bool). unless_given (not b && is_given f said) (with_option_text said f text)) single.once
    ∙ ap (λ (b : Bool). unless_given b (with_option_text said f text)) h
    ∙ ap (λ (b : Bool). Some (record said { given = with_text said.given f text; repeated = repeated_with b said.repeated f text })) single.once

-- It is as new after another one.
still_new : (f g : CommandOption) (text other : Option (List ℕ)) (said : Said) → place_of g ≢ place_of f → (is_some other && is_given g said) ≡ false
    → (is_some other && is_given g (with_if f text said)) ≡ false
still_new f g text other said apart h =
    ap (λ (o : Option (List ℕ)). is_some other && is_some o) (text_if_other f g text said.given apart) ∙ h

none_new : (text : Option (List ℕ)) (f : CommandOption) (said : Said) → text_in f said.given ≡ None → (is_some text && is_given f said) ≡ false
none_new text f said e = ap (λ (o : Option (List ℕ)). is_some text && is_some o) e ∙ never (is_some text)
  where
    never : (b : Bool) → (b && false) ≡ false
    never true = refl
    never false = refl

-- Two tests of which neither is met.
neither : (a b : Bool) → (a || b) ≡ false → (a ≡ false) × (b ≡ false)
neither true b h = cc
neither false b h = (refl, h)

flag_new : (b : Bool) (said : Said) → (b && is_given option.Quiet said) ≡ false → (is_some (flag_text b) && is_given option.Quiet said) ≡ false
flag_new true said h = h
flag_new false said h = refl

access_new : (access : Access) (said : Said) → repeats_access access said ≡ false → given_access access said ≡ Some (with_access access said)
access_new access said h =
    let parts = neither (names_access said) (access.quiet && is_given option.Quiet said) h in
    let none = names_none said parts.0 in
    let quiet = flag_new access.quiet said parts.1 in
    let no_password = none_new (flag_text access.no_password) option.NoPassword said none.no_password in
    let key_file = none_new access.key_file option.KeyFile said none.key_file in
    ap (λ (o : Option Said). option_and_then fourth (option_and_then third (option_and_then second o)))
    (if_new option.Plain single_plain (flag_text access.plain) said (none_new (flag_text access.plain) option.Plain said none.plain))
    ∙ ap (λ (o : Option Said). option_and_then fourth (option_and_then third o))
    (if_new option.NoPassword single_no_password (flag_text access.no_password) one
    (still_new option.Plain option.NoPassword (flag_text access.plain) (flag_text access.no_password) said (omega arith) no_password))
    ∙ ap (option_and_then fourth)
    (if_new option.KeyFile single_key_file access.key_file two
    (still_new option.NoPassword option.KeyFile (flag_text access.no_password) access.key_file one (omega arith)
    (still_new option.Plain option.KeyFile (flag_text access.plain) access.key_file said (omega arith) key_file)))
    ∙ if_new option.Quiet single_quiet (flag_text access.quiet) three
    (still_new option.KeyFile option.Quiet access.key_file (flag_text access.quiet) two (omega arith)
    (still_new option.NoPassword option.Quiet (flag_text access.no_password) (flag_text access.quiet) one (omega arith)
    (still_new option.Plain option.Quiet (flag_text access.plain) (flag_text access.quiet) said (omega arith) quiet)))
  where
    second : Said → Option Said
    second = given_if option.NoPassword (flag_text access.no_password)

    third : Said → Option Said
    third = given_if option.KeyFile access.key_file

    fourth : Said → Option Said
    fourth = given_if option.Quiet (flag_text access.quiet)

    one : Said
    one = with_if option.Plain (flag_text access.plain) said

    two : Said
    two = with_if option.NoPassword (flag_text access.no_password) one

    three : Said
    three = with_if option.KeyFile access.key_file two

-- ---- lines and calls

-- Where a value is due there is no command.
due_saying : (command : CommandName) (said : Said) → is_due said ≡ true → command_saying command said ≡ None
due_saying command said d =
    ap (λ (b : Bool). cond (not b && (is_fit (is_given option.Plain said) (is_given option.NoPassword said) (is_given option.KeyFile said) && is_fit_from said))
    (command_at command said said.positions) None) d

saying_finished : (command : CommandName) (o : Option Said)
    → option_and_then (command_saying command) o ≡ option_and_then (command_saying command) (option_and_then finished o)
saying_finished command None = refl
saying_finished command (Some said) = by (is_due said) refl
  where
    by : (d : Bool) → is_due said ≡ d → command_saying command said ≡ option_and_then (command_saying command) (cond d None (Some said))
    by true e = due_saying command said e
    by false e = refl

-- What a line says, in a call and in a session.
said_same : (access : Access) (command : CommandName) → is_line_name command ≡ true → (said : Said) → repeats_access access said ≡ false
    → line_saying access command said ≡ option_and_then (command_saying command) (option_and_then (given_access access) (finished said))
said_same access command line said h =
    ap (λ (b : Bool). cond (b && not (names_access said)) (command_saying command (with_access access said)) None) line
    ∙ ap (λ (b : Bool). cond (not b) (command_saying command (with_access access said)) None) (neither (names_access said) _ h).0
    ∙ by (is_due said) refl
  where
    by : (d : Bool) → is_due said ≡ d
        → command_saying command (with_access access said)
        ≡ option_and_then (command_saying command) (option_and_then (given_access access) (cond d None (Some said)))
    by true e = due_saying command (with_access access said) e
    by false e = ap (option_and_then (command_saying command)) (sym (access_new access said h))

same_words : (access : Access) (command : CommandName) → is_line_name command ≡ true → (o : Option Said)
    → IfSome o (λ said. repeats_access access said ≡ false)
    → option_and_then (line_saying access command) o
    ≡ option_and_then (command_saying command) (option_and_then (given_access access) (option_and_then finished o))
same_words access command line None h = refl
same_words access command line (Some said) h = said_same access command line said h

-- The database as the first position.
database_first : (command : CommandName) (file : List ℕ) → is_option file ≡ false → with_word command nothing_said file ≡ Some (at_database file)
database_first command file o =
    ap (λ (b : Bool). cond (b && true) (with_option command nothing_said (strip_prefix (codes "--") file) (strip_prefix (codes "-") file)) (Some (with_position nothing_said file))) o

-- The words of a line, in a session and in a call.
words_same : (access : Access) (file : List ℕ) (words : List (List ℕ)) (command : CommandName) → is_line_name command ≡ true → is_option file ≡ false
    → IfSome (with_words command words (at_database file)) (λ said. repeats_access access said ≡ false)
    → line_by access file words command ≡ command_by (access_words access ++ file ∷ words) command
words_same access file words command line o h =
    let saying = command_saying command in
    let all = file ∷ words in
    same_words access command line (with_words command words (at_database file)) h
    ∙ ap (λ (said : Option Said). option_and_then saying (option_and_then (given_access access) (option_and_then finished (option_and_then (with_words command words) said))))
    (sym (database_first command file o))
    ∙ ap (option_and_then saying) (sym (access_either command all access nothing_said refl))
    ∙ ap (option_and_then saying) (sym (joined (with_words command all) finished (given_access access nothing_said)))
    ∙ sym (saying_finished command (option_and_then (with_words command all) (given_access access nothing_said)))
    ∙ ap (option_and_then saying) (sym (access_first command (takes_access command line) access all nothing_said (refl, refl)))

pub line_is_call : (access : Access) (file name : List ℕ) (words : List (List ℕ)) (command : CommandName) → command_named name ≡ Some command
    → is_line_name command ≡ true → is_option file ≡ false
    → IfSome (with_words command words (at_database file)) (λ said. repeats_access access said ≡ false)
    → line_command access file (name ∷ words) ≡ command_of (name ∷ access_words access ++ file ∷ words)
line_is_call access file name words command is line o h =
    ap (λ (named : Option CommandName). or_wrong_words (option_and_then (line_by access file words) named)) is
    ∙ ap or_wrong_words (words_same access file words command line o h)
    ∙ sym (ap (λ (named : Option CommandName). or_wrong_words (option_and_then (command_by (access_words access ++ file ∷ words)) named)) is)
