-- A command opens its database with a key, unless that is a plain document, and generates no
-- password that cannot be chosen.
use Rattle.std.proofs.Common.{◌≡◌, ◌∙◌, refl, sym, ap, subst, ℕ, List, [], ◌∷◌, length, Bool, true, false, Option, Some, None}
use Rattle.std.specs.Prelude.{IfSome, is_some, not, ◌&&◌, ◌||◌, if◌then◌else◌}
use Rattle.std.specs.Option.{option_and_then, option_map}
use Rattle.cli_profiles.specs.Generating.{generated_in, has_profile_option}
use Rattle.cli_profiles.specs.Profiles.{IsProfile}
use Rattle.cli_profiles.specs.declared.profiles.PasswordProfile.{PasswordProfile}
use Rattle.cli_profiles.proofs.Alphabets.{generated_profile}
use Rattle.cli_needs.specs.declared.command.Access.{Access}
use Rattle.cli_needs.specs.declared.command.Asked.{Asked}
use Rattle.cli_needs.specs.declared.command.Command.{Command}
use Rattle.cli_needs.specs.declared.command.Command.TheVariants.{Add, EditFile, Restore}
use Rattle.cli_needs.specs.declared.command.FileChange.{FileChange}
use Rattle.cli_needs.specs.declared.command.FurtherAsked.{FurtherAsked}
use Rattle.cli_needs.specs.declared.command.KdfAsked.{KdfAsked}
use Rattle.cli_options.specs.declared.names.CommandName.{CommandName}
use Rattle.cli_options.specs.declared.names.CommandName.TheVariants as name
use Rattle.cli_options.specs.declared.forms.CommandOption.TheVariants as option
use Rattle.cli_needs.specs.Needs.{HasKey, HasKeyAfter, HasKeys, asks_password, generated_by, is_filled, keeps_key_file, keeps_password, needs_of, sets_password, target_access, without_sources}
use Rattle.cli_parse.specs.Settings.{change_in, change_with, cipher_in, has_file_change, kdf_in, key_file_change, key_file_with, password_change, version_in}
use Rattle.cli_needs.specs.declared.command.PasswordChange.TheVariants as password
use Rattle.vault_model.specs.declared.forms.FileVersion.{FileVersion}
use Rattle.cli_needs.specs.KdbxFrame.declared.settings.Cipher.{Cipher}
use Rattle.cli_options.specs.Options.{command_named}
use Rattle.cli_needs.specs.declared.command.ExportFormat.{ExportFormat}
use Rattle.cli_needs.specs.declared.command.ImportFormat.{ImportFormat}
use Rattle.cli_options.specs.Credentials.{has_part, is_fit, is_fit_from, is_fit_new, is_whole}
use Rattle.cli_options.specs.Said.{Said, is_due, is_given, nothing_said, text_of, with_words}
use Rattle.cli_parse.specs.Fields.{further_of}
use Rattle.cli_parse.specs.Words.{access_from, access_new, access_of, access_sealed, access_source, add_at, asked_of, asked_with, command_at, command_by, command_in, command_saying, create_at, create_with, edit_at, edit_by, edit_file_at, edit_file_with, edit_of, edit_with, export_as, export_at, export_attachment_at, format_asked, has_change, history_at, import_as, import_at, import_attachment_at, import_format_asked, import_from, info_at, is_fit_create, is_fit_edit, is_fit_show, is_mergeable, list_at, make_group_at, merge_at, merge_of, move_at, remove_at, remove_attachment_at, remove_group_at, search_at, show_at, show_by, show_of, version_asked, version_numbered}

-- What a command opens has keys, and so has what it shows or writes; and a password that it
-- generates can be chosen.
abbrev IsKeyed : Command → Type 0
IsKeyed command =
    HasKeys (needs_of command) × HasKey (target_access command) × IfSome (generated_by command) IsProfile × HasKeyAfter command

-- The command, if there is one, has keys.
abbrev IfKey : Option Command → Type 0
IfKey r = IfSome r IsKeyed

key_given : (plain no_password key : Bool) → is_fit plain no_password key ≡ true → plain ≡ false → no_password ≡ true → key ≡ true
key_given true no_password key h p n = cc
key_given false false key h p n = cc
key_given false true key h p n = h

-- What is due and what is fit, in three parts.
whole_parts : (a b c : Bool) → (a && (b && c)) ≡ true → (b ≡ true) × (c ≡ true)
whole_parts true true true h = (refl, refl)
whole_parts true true false h = cc
whole_parts true false c h = cc
whole_parts false b c h = cc

-- A database that is opened by what fits it has a key.
pub target_key : (said : Said) → is_whole said ≡ true → HasKey (access_of said)
target_key said h p n =
    key_given (is_given option.Plain said) (is_given option.NoPassword said) (is_given option.KeyFile said)
    (whole_parts (not (is_due said)) (is_fit (is_given option.Plain said) (is_given option.NoPassword said) (is_given option.KeyFile said)) (is_fit_from said) h).0 p n

-- Whatever is given, a file that has no password has a key file.
sealed_key : (plain no_password key : Bool) → is_fit plain no_password key ≡ true → no_password ≡ true → key ≡ true
sealed_key true true key h n = cc
sealed_key true false key h n = cc
sealed_key false true key h n = h
sealed_key false false key h n = cc

sealed_target : (said : Said) → is_whole said ≡ true → HasKey (access_sealed said)
sealed_target said h p n =
    sealed_key (is_given option.Plain said) (is_given option.NoPassword said) (is_given option.KeyFile said)
    (whole_parts (not (is_due said)) (is_fit (is_given option.Plain said) (is_given option.NoPassword said) (is_given option.KeyFile said)) (is_fit_from said) h).0 n

-- How the sources are opened, by whether they are as their target.
from_key : (same : Bool) (access own : Access) → HasKey access → (same ≡ false → HasKey own) → HasKey (if same then access else own)
from_key true access own h g = h
from_key false access own h g = g refl

fit_own : (same first second : Bool) → same ≡ false → (if same then first else second) ≡ true → second ≡ true
fit_own true first second s h = cc
fit_own false first second s h = h

-- What is said gives the database and the sources a key.
record AreKeys (said : Said) : Type 0 where
  target : HasKey (access_of said)
  from : HasKey (access_from said)
  same : is_given option.SameCredentials said ≡ true → access_from said ≡ access_of said
  sealed : HasKey (access_sealed said)

from_same : (same : Bool) (access own : Access) → same ≡ true → (if same then access else own) ≡ access
from_same true access own h = refl
from_same false access own h = cc

whole_key : (said : Said) → is_whole said ≡ true → AreKeys said
whole_key said h = record {
  target = target_key said h;
  from = from_key (is_given option.SameCredentials said) (access_of said) _ (target_key said h)
      (λ s p n. key_given (is_given option.Plain said) (is_given option.NoPasswordFrom said) (is_given option.KeyFileFrom said)
      (fit_own (is_given option.SameCredentials said) _ _ s (whole_parts (not (is_due said)) _ (is_fit_from said) h).1) p n);
  same = from_same (is_given option.SameCredentials said) (access_of said) _;
  sealed = sealed_target said h;
}

-- A command without sources that opens a database in this way.
opened : (access : Access) → HasKey access → (file : List ℕ) (has_line : Bool) → HasKeys (without_sources access file has_line)
opened access h file has_line = record { target = h; sources = h; same = λ e. refl }

-- The same of what is said.
alone : (said : Said) → AreKeys said → (file : List ℕ) (has_line : Bool)
    → HasKeys (without_sources (access_of said) file has_line) × HasKey (access_of said) × Unit {0} × Unit {0}
alone said h file has_line = (opened (access_of said) h.target file has_line, h.target, tt, tt)

-- A command, if a test is met.
if_key : (b : Bool) (r : Option Command) → IfKey r → IfKey (if b then r else None)
if_key true r h = h
if_key false r h = tt

-- A command, unless a test is met.
unless_key : (b : Bool) (r : Option Command) → IfKey r → IfKey (if b then None else r)
unless_key true r h = tt
unless_key false r h = h

-- A command by the number of its positions.
by_positions : (at : List (List ℕ) → Option Command) → IfKey (at []) → ((a : List ℕ) → IfKey (at (a ∷ [])))
    → ((a b : List ℕ) → IfKey (at (a ∷ b ∷ []))) → ((a b c : List ℕ) (rest : List (List ℕ)) → IfKey (at (a ∷ b ∷ c ∷ rest)))
    → (positions : List (List ℕ)) → IfKey (at positions)
by_positions at none one two more [] = none
by_positions at none one two more (a ∷ []) = one a
by_positions at none one two more (a ∷ b ∷ []) = two a b
by_positions at none one two more (a ∷ b ∷ c ∷ rest) = more a b c rest

move_key : (said : Said) → AreKeys said → (a b c : List ℕ) (rest : List (List ℕ)) → IfKey (move_at said (a ∷ b ∷ c ∷ rest))
move_key said h a b c [] = alone said h a false
move_key said h a b c (d ∷ rest) = tt

merge_key : (said : Said) → AreKeys said → (positions : List (List ℕ)) → IfKey (merge_at said positions)
merge_key said h [] = tt
merge_key said h (file ∷ sources) =
    if_key (is_mergeable (length sources)) (Some (merge_of said file sources)) (record { target = h.target; sources = h.from; same = h.same }, h.target, tt, tt)

export_key : (said : Said) → AreKeys said → (file : List ℕ) (format : Option ExportFormat) → IfKey (export_as said file format)
export_key said h file None = tt
export_key said h file (Some format) = alone said h file false

-- What a new database has: a key file where it is no plain document and has no password.
new_key : (plain password key : Bool) → (if plain then not (password || key) else (password || key)) ≡ true
    → plain ≡ false → not (plain || password) ≡ true → key ≡ true
new_key true password key h p n = cc
new_key false true key h p n = cc
new_key false false key h p n = h

-- A source has no key file, and needs none.
source_key : (said : Said) (format : ImportFormat) → HasKey (access_source said format)
source_key said format p n = cc

import_key : (said : Said) (source file : List ℕ) (format : Option ImportFormat) → IfKey (import_as said source file format)
import_key said source file None = tt
import_key said source file (Some format) = by (is_fit_new said) refl
  where
    by : (b : Bool) → is_fit_new said ≡ b → IfKey (if b then Some (import_from said source file format) else None)
    by false e = tt
    by true e = (
      opened (access_source said format) (source_key said format) source (asks_password (access_new said)),
      λ p n. new_key (is_given option.Plain said) (is_given option.SetPassword said) (is_given option.SetKeyFile said) e p n,
      tt,
      tt,
    )

-- A new database has a key where what it is to be fits together.
fits_new : (new plain : Bool) → (new && plain) ≡ true → new ≡ true
fits_new true plain h = refl
fits_new false plain h = cc

new_access_key : (said : Said) → is_fit_new said ≡ true → HasKey (access_new said)
new_access_key said h p n =
    new_key (is_given option.Plain said) (is_given option.SetPassword said) (is_given option.SetKeyFile said) h p n

create_key : (said : Said) (file : List ℕ) → IfKey (create_at said (file ∷ []))
create_key said file = by (is_fit_create said) refl
  where
    made : HasKey (access_new said) → (cipher : Option (Option Cipher)) (kdf : Option (Option KdfAsked)) → IfKey (create_with said file cipher kdf)
    made h None kdf = tt
    made h (Some cipher) None = tt
    made h (Some cipher) (Some kdf) = (record { target = h; sources = h; same = λ e. refl }, h, tt, tt)

    by : (b : Bool) → is_fit_create said ≡ b → IfKey (if b then create_with said file (cipher_in said) (kdf_in said) else None)
    by false e = tt
    by true e = made (new_access_key said (fits_new (is_fit_new said) _ e)) (cipher_in said) (kdf_in said)

-- ---- a file that is changed

and_false : (b : Bool) → false ≡ (b && false)
and_false true = refl
and_false false = refl

and_true : (b : Bool) → b ≡ (b && true)
and_true true = refl
and_true false = refl

-- A password is there afterwards where it is set, or was there and is not unset.
kept_password : (set unset : Bool) (access : Access)
    → keeps_password access (if set then password.Set else (if unset then password.Unset else password.Keep)) ≡ has_part set unset (not access.no_password)
kept_password true unset access = refl
kept_password false true access = and_false (not access.no_password)
kept_password false false access = and_true (not access.no_password)

-- And so is a key file.
kept_key_file : (set : Option (List ℕ)) (unset : Bool) (access : Access) → keeps_key_file access (key_file_with set unset) ≡ has_part (is_some set) unset (is_some access.key_file)
kept_key_file (Some name) unset access = refl
kept_key_file None true access = and_false (is_some access.key_file)
kept_key_file None false access = and_true (is_some access.key_file)

-- The third of three tests, after another.
third_of : (a b c d : Bool) → (a && (b && (c && d))) ≡ true → d ≡ true
third_of true true true true h = refl
third_of true true true false h = cc
third_of true true false d h = cc
third_of true false c d h = cc
third_of false b c d h = cc

-- A file that is changed keeps a part of its key.
part_kept : (said : Said) → is_fit_edit said ≡ true → keeps_password (access_sealed said) (password_change said) || keeps_key_file (access_sealed said) (key_file_change said) ≡ true
part_kept said h =
    let access = access_sealed said in
    ap (λ b. b || keeps_key_file access (key_file_change said)) (kept_password (is_given option.SetPassword said) (is_given option.UnsetPassword said) access)
    ∙ ap (λ b. has_part (is_given option.SetPassword said) (is_given option.UnsetPassword said) (not access.no_password) || b)
    (kept_key_file (text_of option.SetKeyFile said) (is_given option.UnsetKeyFile said) access)
    ∙ third_of (has_file_change said) (not (is_given option.SetPassword said && is_given option.UnsetPassword said))
    (not (is_given option.SetKeyFile said && is_given option.UnsetKeyFile said)) _ h

changed_by : (said : Said) (cipher : Option (Option Cipher)) (kdf : Option (Option KdfAsked)) (version : Option (Option FileVersion)) (change : FileChange)
    → change_with said cipher kdf version ≡ Some change → (password_change said ≡ change.password) × (key_file_change said ≡ change.key_file)
changed_by said (Some cipher) (Some kdf) (Some version) change h =
    let is : ◌≡◌ {A = FileChange} (record {
      password = password_change said;
      key_file = key_file_change said;
      cipher = cipher;
      kdf = kdf;
      version = version;
    }) change = cc h in
    (ap (λ (c : FileChange). c.password) is, ap (λ (c : FileChange). c.key_file) is)
changed_by said None kdf version change h = cc
changed_by said (Some cipher) None version change h = cc
changed_by said (Some cipher) (Some kdf) None change h = cc

edit_file_key : (said : Said) → AreKeys said → (file : List ℕ) → IfKey (edit_file_at said (file ∷ []))
edit_file_key said h file = by (is_fit_edit said) refl
  where
    made : is_fit_edit said ≡ true → (change : Option FileChange) → change_in said ≡ change → IfKey (option_map (EditFile (access_sealed said) file) change)
    made fit None e = tt
    made fit (Some change) e =
        let c = changed_by said (cipher_in said) (kdf_in said) (version_in said) change e in (
          opened (access_sealed said) h.sealed file (sets_password change.password),
          h.sealed,
          tt,
          record {
            sealed = refl;
            part = ap (λ p. keeps_password (access_sealed said) p || keeps_key_file (access_sealed said) change.key_file) (sym c.0)
                ∙ ap (λ k. keeps_password (access_sealed said) (password_change said) || keeps_key_file (access_sealed said) k) (sym c.1)
                ∙ part_kept said fit;
          },
        )

    by : (b : Bool) → is_fit_edit said ≡ b → IfKey (if b then edit_file_with said file else None)
    by false e = tt
    by true e = made e (change_in said) refl

-- A command by the values that an entry is to have.
asked_key : (F : Asked → Command) → ((asked : Asked) → IfSome asked.generated IsProfile → IsKeyed (F asked)) → (said : Said)
    → IfKey (option_map F (asked_of said))
asked_key F h said = by (generated_in said) (generated_profile said)
  where
    by : (generated : Option (Option PasswordProfile)) → IfSome generated (λ profile. IfSome profile IsProfile)
        → IfKey (option_map F (option_map (asked_with said) generated))
    by None g = tt
    by (Some generated) g = h (asked_with said generated) g

add_key : (said : Said) → AreKeys said → (file entry : List ℕ) → IfKey (add_at said (file ∷ entry ∷ []))
add_key said h file entry =
    asked_key (Add (access_of said) file entry)
    (λ asked generated. (opened (access_of said) h.target file asked.password, h.target, generated, tt)) said

edit_key : (said : Said) → AreKeys said → (file entry : List ℕ) → IfKey (edit_of said file entry)
edit_key said h file entry = by (generated_in said) (generated_profile said) (further_of said)
  where
    by : (generated : Option (Option PasswordProfile)) → IfSome generated (λ profile. IfSome profile IsProfile) → (further : Option FurtherAsked)
        → IfKey (edit_with said file entry (option_map (asked_with said) generated) further)
    by None g further = tt
    by (Some generated) g None = tt
    by (Some generated) g (Some further) = (record { target = h.target; sources = h.target; same = λ e. refl }, h.target, g, tt)

-- An attachment that is taken out, printed or not.
export_attachment_key : (said : Said) → AreKeys said → (positions : List (List ℕ)) → IfKey (export_attachment_at said positions)
export_attachment_key said h (file ∷ entry ∷ name ∷ []) = if_key (is_given option.Stdout said) _ (alone said h file false)
export_attachment_key said h (file ∷ entry ∷ name ∷ to ∷ []) = unless_key (is_given option.Stdout said) _ (alone said h file false)
export_attachment_key said h [] = tt
export_attachment_key said h (a ∷ []) = tt
export_attachment_key said h (a ∷ b ∷ []) = tt
export_attachment_key said h (a ∷ b ∷ c ∷ d ∷ e ∷ rest) = tt

-- One that is put in, if it has a name.
import_attachment_key : (said : Said) → AreKeys said → (a b c : List ℕ) (rest : List (List ℕ)) → IfKey (import_attachment_at said (a ∷ b ∷ c ∷ rest))
import_attachment_key said h a b c [] = tt
import_attachment_key said h a b c (d ∷ []) = if_key (is_filled c) _ (alone said h a false)
import_attachment_key said h a b c (d ∷ e ∷ rest) = tt

remove_attachment_key : (said : Said) → AreKeys said → (a b c : List ℕ) (rest : List (List ℕ)) → IfKey (remove_attachment_at said (a ∷ b ∷ c ∷ rest))
remove_attachment_key said h a b c [] = alone said h a false
remove_attachment_key said h a b c (d ∷ rest) = tt

-- A version that is shown, if its number is one.
show_key : (said : Said) → AreKeys said → (file entry : List ℕ) (at : Option ℕ) → IfKey (option_map (show_of said file entry) at)
show_key said h file entry None = tt
show_key said h file entry (Some at) = alone said h file false

-- A version that is restored, if its number is one.
restore_key : (said : Said) → AreKeys said → (file entry : List ℕ) (version : Option ℕ) → IfKey (option_map (Restore (access_of said) file entry) version)
restore_key said h file entry None = tt
restore_key said h file entry (Some version) = alone said h file false

edited_key : (said : Said) → AreKeys said → (file entry : List ℕ) (text : Option (List ℕ)) → IfKey (edit_by said file entry text)
edited_key said h file entry None = if_key (has_change said) _ (edit_key said h file entry)
edited_key said h file entry (Some text) =
    unless_key (has_change said || has_profile_option said) _ (restore_key said h file entry (version_numbered text))

command_key : (command : CommandName) (said : Said) → AreKeys said → (positions : List (List ℕ)) → IfKey (command_at command said positions)
command_key name.Ls said h =
    by_positions (list_at said) tt (λ a. alone said h a false) (λ a b. alone said h a false) (λ a b c r. tt)
command_key name.Show said h =
    by_positions (show_at said) tt (λ a. tt) (λ a b. if_key (is_fit_show said) (show_by said a b) (show_key said h a b (version_asked (text_of option.At said)))) (λ a b c r. tt)
command_key name.History said h = by_positions (history_at said) tt (λ a. tt) (λ a b. alone said h a false) (λ a b c r. tt)
command_key name.Search said h = by_positions (search_at said) tt (λ a. tt) (λ a b. alone said h a false) (λ a b c r. tt)
command_key name.Add said h = by_positions (add_at said) tt (λ a. tt) (add_key said h) (λ a b c r. tt)
command_key name.Edit said h =
    by_positions (edit_at said) tt (λ a. tt) (λ a b. edited_key said h a b (text_of option.Restore said)) (λ a b c r. tt)
command_key name.Move said h = by_positions (move_at said) tt (λ a. tt) (λ a b. tt) (move_key said h)
command_key name.Remove said h = by_positions (remove_at said) tt (λ a. tt) (λ a b. alone said h a false) (λ a b c r. tt)
command_key name.MakeGroup said h = by_positions (make_group_at said) tt (λ a. tt) (λ a b. alone said h a false) (λ a b c r. tt)
command_key name.RemoveGroup said h = by_positions (remove_group_at said) tt (λ a. tt) (λ a b. alone said h a false) (λ a b c r. tt)
command_key name.Merge said h = merge_key said h
command_key name.Import said h =
    by_positions (import_at said) tt (λ a. tt) (λ a b. import_key said a b (import_format_asked (text_of option.ImportFormat said)))
    (λ a b c r. tt)
command_key name.Export said h =
    by_positions (export_at said) tt (λ a. export_key said h a (format_asked (text_of option.Format said))) (λ a b. tt) (λ a b c r. tt)
command_key name.Create said h = by_positions (create_at said) tt (create_key said) (λ a b. tt) (λ a b c r. tt)
command_key name.EditFile said h =
    by_positions (edit_file_at said) tt (edit_file_key said h) (λ a b. tt) (λ a b c r. tt)
command_key name.Info said h = by_positions (info_at said) tt (λ a. alone said h a false) (λ a b. tt) (λ a b c r. tt)
command_key name.ExportAttachment said h = export_attachment_key said h
command_key name.ImportAttachment said h =
    by_positions (import_attachment_at said) tt (λ a. tt) (λ a b. tt) (import_attachment_key said h)
command_key name.RemoveAttachment said h =
    by_positions (remove_attachment_at said) tt (λ a. tt) (λ a b. tt) (remove_attachment_key said h)
command_key name.Generate said h = λ positions. tt
command_key name.SelfTest said h = λ positions. tt
command_key name.Open said h = λ positions. tt

-- A command that is said has keys.
pub saying_key : (command : CommandName) (said : Said) → IfKey (command_saying command said)
saying_key command said = by (is_whole said) refl
  where
    by : (b : Bool) → is_whole said ≡ b → IfKey (if b then command_at command said said.positions else None)
    by true w = command_key command said (whole_key said w) said.positions
    by false w = tt

-- A step more.
then_key : {A : Type 0} (F : A → Option Command) → ((a : A) → IfKey (F a)) → (o : Option A) → IfKey (option_and_then F o)
then_key F h None = tt
then_key F h (Some a) = h a

words_key : (words : List (List ℕ)) → IfKey (command_in words)
words_key [] = tt
words_key (word ∷ words) =
    then_key (command_by words)
    (λ command. then_key (command_saying command) (saying_key command) (with_words command words nothing_said))
    (command_named word)

-- A command that words are opens what has keys.
pub has_key : (words : List (List ℕ)) (command : Command) → command_in words ≡ Some command → HasKeys (needs_of command)
has_key words command h = (subst IfKey h (words_key words)).0

-- What it shows or writes has a key too.
pub has_target_key : (words : List (List ℕ)) (command : Command) → command_in words ≡ Some command → HasKey (target_access command)
has_target_key words command h = (subst IfKey h (words_key words)).1

-- A password that it generates can be chosen.
pub has_profile : (words : List (List ℕ)) (command : Command) → command_in words ≡ Some command → IfSome (generated_by command) IsProfile
has_profile words command h = (subst IfKey h (words_key words)).2

-- A file that it changes keeps a part of its key.
pub has_key_after : (words : List (List ℕ)) (command : Command) → command_in words ≡ Some command → HasKeyAfter command
has_key_after words command h = (subst IfKey h (words_key words)).3
