-- Words have a cause exactly where they are no command, with a database or without one, and open no
-- session.
use Rattle.std.proofs.Common.{◌≡◌, ◌≤◌, arith, inl, inr, ℕ, suc, Bool, true, false, List, [], ◌∷◌, length, Option, Some, None, refl, sym, ap, ap₂, ◌∙◌}
use Rattle.std.specs.Prelude.{not, ◌&&◌, ◌||◌, if◌then◌else◌, is_some, nat_lt, slice_get}
use Rattle.std.proofs.lemmas.Bool.{le-ltb, lt-ltb, ltb-false, ltb-true, ne_eqb}
use Rattle.std.proofs.lemmas.Option.{slice_get_cases}
use Rattle.std.specs.Option.{option_and_then, option_map, option_map_or, option_or}
use Rattle.cli_options.specs.declared.names.CommandName.{CommandName}
use Rattle.cli_options.specs.declared.names.CommandName.TheVariants as name
use Rattle.cli_options.specs.declared.forms.CommandOption.TheVariants as option
use Rattle.cli_options.specs.Credentials.{is_fit, is_fit_from, is_fit_new, is_whole}
use Rattle.cli_options.specs.Options.{command_named}
use Rattle.cli_options.specs.Said.{Said, is_due, is_given, nothing_said, text_of, with_word, with_words}
use Rattle.cli_profiles.specs.Generating.{generated_in, has_profile_option}
use Rattle.cli_profiles.specs.Profiles.{alphabet_of, length_asked, length_named, profile_in, profile_with}
use Rattle.cli_profiles.specs.declared.profiles.PasswordProfile.{PasswordProfile}
use Rattle.cli_needs.specs.declared.command.Asked.{Asked}
use Rattle.cli_needs.specs.declared.command.Command.{Command}
use Rattle.cli_needs.specs.declared.command.Command.TheVariants.{Add, ExportAttachment, ImportAttachment, Restore}
use Rattle.cli_needs.specs.declared.command.ExportFormat.{ExportFormat}
use Rattle.cli_needs.specs.declared.command.FurtherAsked.{FurtherAsked}
use Rattle.cli_needs.specs.declared.command.ImportFormat.{ImportFormat}
use Rattle.cli_needs.specs.Needs.{is_filled}
use Rattle.cli_parse.specs.Fields.{further_of}
use Rattle.cli_parse.specs.Words.{access_of, asked_of, asked_with, command_at, command_by, command_in, command_saying, create_at, edit_by, edit_file_at, edit_of, edit_with, export_as, export_at, format_asked, format_named, has_change, import_as, import_at, import_format_asked, import_format_named, is_mergeable, merge_at, merge_of, show_of}
use Rattle.cli_standalone.specs.declared.standalone.Standalone.{Standalone}
use Rattle.cli_standalone.specs.declared.standalone.Standalone.TheVariants.{Password, SelfTest}
use Rattle.cli_standalone.specs.Standalone.{standalone_at, standalone_by, standalone_of, standalone_saying, test_count}
use Rattle.cli_sessions.specs.declared.opening.SessionDatabase.{SessionDatabase}
use Rattle.cli_sessions.specs.Openings.{opening_at, opening_by, opening_of, opening_saying}
use Rattle.cli_causes.specs.declared.cause.Cause.{Cause}
use Rattle.cli_causes.specs.declared.cause.Cause.TheVariants.{EmptyAttachmentName, FewPositions, FileBesideStdout, NeedsGenerate, NoFileOrStdout, NoKeyFile, NoKeyFileFrom, NotTogether, NotWithPlain, NotWithSame, NothingToChange, UnknownCount, UnknownExportFormat, UnknownImportFormat, UnknownLength}
use Rattle.cli_causes.specs.Fields.{further_cause}
use Rattle.cli_causes.specs.Files.{new_key_cause}
use Rattle.cli_causes.specs.First.{first_of}
use Rattle.cli_causes.proofs.FieldCauses.{further_agrees}
use Rattle.cli_causes.proofs.FileCauses.{create_agrees, edit_file_agrees, fits_new}
use Rattle.cli_causes.proofs.VersionCauses.{restore_agrees, shown_agrees}
use Rattle.cli_causes.proofs.Tests.{or_false, some_if, some_mapped, some_or}
use Rattle.cli_causes.specs.Causes.{alphabet_cause, cause_from, cause_of, change_cause, credentials_cause, due_cause, edit_cause, export_format_cause, extra_cause, fewest, generated_cause, import_format_cause, length_cause, most, name_cause, own_cause, positions_cause, profile_cause, profile_option_cause, said_cause, word_cause}

-- ---- what opens databases

fits : (p n k s m f : Bool)
    → is_some (if p
    then first_of ((n, NotWithPlain option.NoPassword) ∷ (k, NotWithPlain option.KeyFile) ∷ (m, NotWithPlain option.NoPasswordFrom) ∷ (f, NotWithPlain option.KeyFileFrom)
    ∷ (s, NotWithPlain option.SameCredentials) ∷ [])
    else first_of ((n && not k, NoKeyFile) ∷ (s && m, NotWithSame option.NoPasswordFrom) ∷ (s && f, NotWithSame option.KeyFileFrom) ∷ (m && not f, NoKeyFileFrom) ∷ []))
    ≡ not (is_fit p n k && (if s then not (p || m || f) else is_fit p m f))
fits true true k s m f = refl
fits true false true s m f = refl
fits true false false true true f = refl
fits true false false false true f = refl
fits true false false true false true = refl
fits true false false false false true = refl
fits true false false true false false = refl
fits true false false false false false = refl
fits false true false s m f = refl
fits false true true true true f = refl
fits false true true true false true = refl
fits false true true true false false = refl
fits false true true false true true = refl
fits false true true false true false = refl
fits false true true false false f = refl
fits false false k true true f = refl
fits false false k true false true = refl
fits false false k true false false = refl
fits false false k false true true = refl
fits false false k false true false = refl
fits false false k false false f = refl

-- ---- formats

import_formats : (said : Said) (source file : List ℕ) (new : Option Cause) (t : Option (List ℕ)) → is_some new ≡ not (is_fit_new said)
    → is_some (option_or new (import_format_cause t)) ≡ not (is_some (import_as said source file (import_format_asked t)))
import_formats said source file new t h = some_or new (import_format_cause t) ∙ ap (λ b. b || is_some (import_format_cause t)) h ∙ by (is_fit_new said) t
  where
    named : (o : Option ImportFormat) (name : List ℕ) (fit : Bool) (command : ImportFormat → Command) (none : Option ImportFormat → Option Command)
        → none None ≡ None → ((format : ImportFormat) → none (Some format) ≡ (if fit then Some (command format) else None))
        → (not fit || is_some (if is_some o then None else Some (UnknownImportFormat name))) ≡ not (is_some (none o))
    named None name true command none e f = ap (λ o. not (is_some o)) (sym e)
    named None name false command none e f = ap (λ o. not (is_some o)) (sym e)
    named (Some format) name true command none e f = ap (λ o. not (is_some o)) (sym (f format))
    named (Some format) name false command none e f = ap (λ o. not (is_some o)) (sym (f format))

    by : (fit : Bool) (t : Option (List ℕ)) → (not (is_fit_new said) || is_some (import_format_cause t)) ≡ not (is_some (import_as said source file (import_format_asked t)))
    by fit t = rest t
      where
        plain : (fit : Bool) (command : Command) → (not fit || false) ≡ not (is_some (if fit then Some command else None))
        plain true command = refl
        plain false command = refl

        rest : (t : Option (List ℕ)) → (not (is_fit_new said) || is_some (import_format_cause t)) ≡ not (is_some (import_as said source file (import_format_asked t)))
        rest None = plain (is_fit_new said) _
        rest (Some name) = named (import_format_named name) name (is_fit_new said) _ (import_as said source file) refl (λ format. refl)

export_formats : (said : Said) (file : List ℕ) (t : Option (List ℕ)) → is_some (export_format_cause t) ≡ not (is_some (export_as said file (format_asked t)))
export_formats said file None = refl
export_formats said file (Some name) = by (format_named name)
  where
    by : (o : Option ExportFormat) → is_some (if is_some o then None else Some (UnknownExportFormat name)) ≡ not (is_some (export_as said file o))
    by None = refl
    by (Some format) = refl

-- ---- generated passwords

lengths : (t : Option (List ℕ)) (alphabet : List ℕ)
    → is_some (option_or (length_cause t) (alphabet_cause alphabet)) ≡ not (is_some (profile_with (length_asked t) alphabet))
lengths None [] = refl
lengths None (c ∷ cs) = refl
lengths (Some text) alphabet = by (length_named text) alphabet
  where
    by : (n : Option ℕ) (alphabet : List ℕ)
        → is_some (option_or (if is_some n then None else Some (UnknownLength text)) (alphabet_cause alphabet)) ≡ not (is_some (profile_with n alphabet))
    by None alphabet = refl
    by (Some n) [] = refl
    by (Some n) (c ∷ cs) = refl

profile_agrees : (said : Said) → is_some (profile_cause said) ≡ not (is_some (profile_in said))
profile_agrees said = lengths (text_of option.Length said) (alphabet_of said)

-- The first option of a profile is there where any is.
any_option : (a b c d e f : Bool)
    → is_some (first_of ((a, NeedsGenerate option.Length) ∷ (b, NeedsGenerate option.Exclude) ∷ (c, NeedsGenerate option.Lower) ∷ (d, NeedsGenerate option.Upper)
    ∷ (e, NeedsGenerate option.Numeric) ∷ (f, NeedsGenerate option.Special) ∷ []))
    ≡ (a || b || (c || d || e || f))
any_option true b c d e f = refl
any_option false true c d e f = refl
any_option false false true d e f = refl
any_option false false false true e f = refl
any_option false false false false true f = refl
any_option false false false false false true = refl
any_option false false false false false false = refl

generated_agrees : (said : Said) → is_some (generated_cause said) ≡ not (is_some (generated_in said))
generated_agrees said = by (is_given option.Generate said) (is_given option.EntryPassword said)
  where
    no_profile : Option (Option PasswordProfile)
    no_profile = None

    none_or : (b : Bool) → b ≡ not (is_some (if b then no_profile else Some None))
    none_or true = refl
    none_or false = refl

    by : (generate line : Bool)
        → is_some (if generate then (if line then Some (NotTogether option.Generate option.EntryPassword) else profile_cause said) else profile_option_cause said)
        ≡ not (is_some (if generate then (if line then None else option_map Some (profile_in said)) else (if has_profile_option said then None else Some None)))
    by true true = refl
    by true false = profile_agrees said ∙ ap not (sym (some_mapped Some (profile_in said)))
    by false line =
        any_option (is_given option.Length said) (is_given option.Exclude said) (is_given option.Lower said) (is_given option.Upper said)
        (is_given option.Numeric said) (is_given option.Special said)
        ∙ none_or (has_profile_option said)

-- A command of which a generated password is one value.
asked_agrees : (F : Asked → Command) (said : Said) → is_some (generated_cause said) ≡ not (is_some (option_map F (asked_of said)) || false)
asked_agrees F said =
    generated_agrees said ∙ ap not (sym (some_mapped (asked_with said) (generated_in said)))
    ∙ ap not (sym (some_mapped F (asked_of said))) ∙ ap not (sym (or_false (is_some (option_map F (asked_of said)))))

edit_agrees : (said : Said) (file entry : List ℕ)
    → is_some (option_or (generated_cause said) (option_or (further_cause said) (change_cause said)))
    ≡ not (is_some (if has_change said then edit_of said file entry else None) || false)
edit_agrees said file entry =
    some_or (generated_cause said) _
    ∙ ap₂ (λ (a b : Bool). a || b) (generated_agrees said ∙ ap not (sym (some_mapped (asked_with said) (generated_in said))))
    (some_or (further_cause said) (change_cause said) ∙ ap (λ (a : Bool). a || is_some (change_cause said)) (further_agrees said))
    ∙ by (has_change said) (asked_of said) (further_of said)
  where
    by : (change : Bool) (asked : Option Asked) (further : Option FurtherAsked)
        → (not (is_some asked) || (not (is_some further) || is_some (if change then None else Some NothingToChange)))
        ≡ not (is_some (if change then edit_with said file entry asked further else None) || false)
    by true None further = refl
    by true (Some asked) None = refl
    by true (Some asked) (Some further) = refl
    by false None further = refl
    by false (Some asked) None = refl
    by false (Some asked) (Some further) = refl

-- An edit of values, or of a version.
edited_agrees : (said : Said) (file entry : List ℕ) (t : Option (List ℕ)) → is_some (edit_cause said t) ≡ not (is_some (edit_by said file entry t) || false)
edited_agrees said file entry None = edit_agrees said file entry
edited_agrees said file entry (Some text) = restore_agrees said (Restore (access_of said) file entry) text

-- ---- positions

-- There is an element at a place exactly where the list is longer.
some_at : {A : Type 0} (xs : List A) (i : ℕ) → is_some (slice_get xs i) ≡ nat_lt i (length xs)
some_at xs i =
    elim (slice_get_cases xs i).1 [
      | inl h ↦ ap is_some h.2 ∙ sym (lt-ltb i (length xs) h.1)
      | inr h ↦ ap is_some h.1 ∙ sym (le-ltb i (length xs) h.0)
    ]

-- Where there are positions enough, a cause is one of them that is too many.
enough : (command : CommandName) (positions : List (List ℕ)) → fewest command ≤ length positions
    → positions_cause command positions ≡ option_map (extra_cause command) (slice_get positions (most command))
enough command positions h =
    ap (λ (few : Bool). if few then Some (FewPositions command) else option_map (extra_cause command) (slice_get positions (most command)))
    (le-ltb (length positions) (fewest command) h)

-- A position more than a command takes is a cause.
one_more : (command : CommandName) (said : Said) (positions : List (List ℕ)) → fewest command ≤ length positions → is_some (slice_get positions (most command)) ≡ true
    → (is_some (positions_cause command positions) || is_some (own_cause command said positions)) ≡ true
one_more command said positions h more =
    ap (λ (o : Option Cause). is_some o || is_some (own_cause command said positions)) (enough command positions h)
    ∙ ap (λ (b : Bool). b || is_some (own_cause command said positions)) (some_mapped (extra_cause command) (slice_get positions (most command)) ∙ more)

-- The session that the command of this name opens at these positions.
abbrev opened_at : CommandName → Said → List (List ℕ) → Option SessionDatabase
opened_at name.Open said positions = opening_at said positions
opened_at command said positions = None

-- Of a command at these positions there is a cause exactly where it is none, with a database or
-- without one, and opens no session.
abbrev Agrees : CommandName → Said → List (List ℕ) → Type 0
Agrees command said positions =
    (is_some (positions_cause command positions) || is_some (own_cause command said positions))
    ≡ not (is_some (command_at command said positions)
    || (is_some (standalone_at command said positions) || is_some (opened_at command said positions)))

not_not : (b : Bool) → b ≡ not (not b)
not_not true = refl
not_not false = refl

shifted : (a b : ℕ) → nat_lt a b ≡ nat_lt (suc a) (suc b)
shifted a b = by (nat_lt a b) refl
  where
    by : (less : Bool) → nat_lt a b ≡ less → nat_lt a b ≡ nat_lt (suc a) (suc b)
    by true e = e ∙ sym (lt-ltb (suc a) (suc b) (omega (arith, ltb-true a b e)))
    by false e = e ∙ sym (le-ltb (suc a) (suc b) (omega (arith, ltb-false a b e)))

mergeable : (count : ℕ) → is_mergeable (suc count) ≡ not (nat_lt 17 (suc (suc count)))
mergeable count =
    ap (λ (b : Bool). not b && not (nat_lt 16 (suc count))) (ne_eqb (suc count) 0 (λ e. omega (arith, e)))
    ∙ ap not (shifted 16 (suc count))

merge_agrees : (said : Said) (positions : List (List ℕ)) → Agrees name.Merge said positions
merge_agrees said [] = refl
merge_agrees said (a ∷ []) = refl
merge_agrees said (a ∷ b ∷ rest) =
    ap (λ (o : Option Cause). is_some o || false) (enough name.Merge (a ∷ b ∷ rest) (omega arith))
    ∙ or_false (is_some (option_map (extra_cause name.Merge) (slice_get (a ∷ b ∷ rest) 17)))
    ∙ some_mapped (extra_cause name.Merge) (slice_get (a ∷ b ∷ rest) 17) ∙ some_at (a ∷ b ∷ rest) 17 ∙ not_not (nat_lt 17 (length (a ∷ b ∷ rest)))
    ∙ ap not (sym (mergeable (length rest))) ∙ ap not (sym (some_if (is_mergeable (length (b ∷ rest))) (merge_of said a (b ∷ rest))))
    ∙ ap not (sym (or_false (is_some (merge_at said (a ∷ b ∷ rest)))))

export_attachment_agrees : (said : Said) (positions : List (List ℕ)) → Agrees name.ExportAttachment said positions
export_attachment_agrees said [] = refl
export_attachment_agrees said (a ∷ []) = refl
export_attachment_agrees said (a ∷ b ∷ []) = refl
export_attachment_agrees said (a ∷ b ∷ c ∷ []) = by (is_given option.Stdout said)
  where
    by : (printed : Bool)
        → is_some (if printed then None else Some NoFileOrStdout)
        ≡ not (is_some (if printed then Some (ExportAttachment (access_of said) a b c None) else None) || false)
    by true = refl
    by false = refl
export_attachment_agrees said (a ∷ b ∷ c ∷ d ∷ []) = by (is_given option.Stdout said)
  where
    by : (printed : Bool)
        → is_some (if printed then Some (FileBesideStdout d) else None)
        ≡ not (is_some (if printed then None else Some (ExportAttachment (access_of said) a b c (Some d))) || false)
    by true = refl
    by false = refl
export_attachment_agrees said (a ∷ b ∷ c ∷ d ∷ e ∷ rest) =
    one_more name.ExportAttachment said (a ∷ b ∷ c ∷ d ∷ e ∷ rest) (omega arith) refl

import_attachment_agrees : (said : Said) (positions : List (List ℕ)) → Agrees name.ImportAttachment said positions
import_attachment_agrees said [] = refl
import_attachment_agrees said (a ∷ []) = refl
import_attachment_agrees said (a ∷ b ∷ []) = refl
import_attachment_agrees said (a ∷ b ∷ c ∷ []) = refl
import_attachment_agrees said (a ∷ b ∷ c ∷ d ∷ []) = by (is_filled c)
  where
    by : (filled : Bool)
        → is_some (if filled then None else Some EmptyAttachmentName)
        ≡ not (is_some (if filled then Some (ImportAttachment (access_of said) a b c d (is_given option.Force said)) else None) || false)
    by true = refl
    by false = refl
import_attachment_agrees said (a ∷ b ∷ c ∷ d ∷ e ∷ rest) =
    one_more name.ImportAttachment said (a ∷ b ∷ c ∷ d ∷ e ∷ rest) (omega arith) refl

agrees : (command : CommandName) (said : Said) (positions : List (List ℕ)) → Agrees command said positions
agrees name.Ls said [] = refl
agrees name.Ls said (a ∷ []) = refl
agrees name.Ls said (a ∷ b ∷ []) = refl
agrees name.Ls said (a ∷ b ∷ c ∷ rest) = one_more name.Ls said (a ∷ b ∷ c ∷ rest) (omega arith) refl
agrees name.Show said [] = refl
agrees name.Show said (a ∷ []) = refl
agrees name.Show said (a ∷ b ∷ []) =
    shown_agrees said (show_of said a b) (text_of option.At said)
agrees name.Show said (a ∷ b ∷ c ∷ rest) = one_more name.Show said (a ∷ b ∷ c ∷ rest) (omega arith) refl
agrees name.History said [] = refl
agrees name.History said (a ∷ []) = refl
agrees name.History said (a ∷ b ∷ []) = refl
agrees name.History said (a ∷ b ∷ c ∷ rest) = one_more name.History said (a ∷ b ∷ c ∷ rest) (omega arith) refl
agrees name.Search said [] = refl
agrees name.Search said (a ∷ []) = refl
agrees name.Search said (a ∷ b ∷ []) = refl
agrees name.Search said (a ∷ b ∷ c ∷ rest) = one_more name.Search said (a ∷ b ∷ c ∷ rest) (omega arith) refl
agrees name.Add said [] = refl
agrees name.Add said (a ∷ []) = refl
agrees name.Add said (a ∷ b ∷ []) = asked_agrees (Add (access_of said) a b) said
agrees name.Add said (a ∷ b ∷ c ∷ rest) = one_more name.Add said (a ∷ b ∷ c ∷ rest) (omega arith) refl
agrees name.Edit said [] = refl
agrees name.Edit said (a ∷ []) = refl
agrees name.Edit said (a ∷ b ∷ []) = edited_agrees said a b (text_of option.Restore said)
agrees name.Edit said (a ∷ b ∷ c ∷ rest) = one_more name.Edit said (a ∷ b ∷ c ∷ rest) (omega arith) refl
agrees name.Move said [] = refl
agrees name.Move said (a ∷ []) = refl
agrees name.Move said (a ∷ b ∷ []) = refl
agrees name.Move said (a ∷ b ∷ c ∷ []) = refl
agrees name.Move said (a ∷ b ∷ c ∷ d ∷ rest) = one_more name.Move said (a ∷ b ∷ c ∷ d ∷ rest) (omega arith) refl
agrees name.Remove said [] = refl
agrees name.Remove said (a ∷ []) = refl
agrees name.Remove said (a ∷ b ∷ []) = refl
agrees name.Remove said (a ∷ b ∷ c ∷ rest) = one_more name.Remove said (a ∷ b ∷ c ∷ rest) (omega arith) refl
agrees name.MakeGroup said [] = refl
agrees name.MakeGroup said (a ∷ []) = refl
agrees name.MakeGroup said (a ∷ b ∷ []) = refl
agrees name.MakeGroup said (a ∷ b ∷ c ∷ rest) = one_more name.MakeGroup said (a ∷ b ∷ c ∷ rest) (omega arith) refl
agrees name.RemoveGroup said [] = refl
agrees name.RemoveGroup said (a ∷ []) = refl
agrees name.RemoveGroup said (a ∷ b ∷ []) = refl
agrees name.RemoveGroup said (a ∷ b ∷ c ∷ rest) = one_more name.RemoveGroup said (a ∷ b ∷ c ∷ rest) (omega arith) refl
agrees name.Merge said positions = merge_agrees said positions
agrees name.Import said [] = refl
agrees name.Import said (a ∷ []) = refl
agrees name.Import said (a ∷ b ∷ []) =
    import_formats said a b (new_key_cause name.Import said) (text_of option.ImportFormat said)
    (fits_new name.Import (is_given option.Plain said) (is_given option.SetPassword said) (is_given option.SetKeyFile said))
    ∙ ap not (sym (or_false (is_some (import_at said (a ∷ b ∷ [])))))
agrees name.Import said (a ∷ b ∷ c ∷ rest) = one_more name.Import said (a ∷ b ∷ c ∷ rest) (omega arith) refl
agrees name.Create said [] = refl
agrees name.Create said (a ∷ []) = create_agrees said a ∙ ap not (sym (or_false (is_some (create_at said (a ∷ [])))))
agrees name.Create said (a ∷ b ∷ rest) = one_more name.Create said (a ∷ b ∷ rest) (omega arith) refl
agrees name.Export said [] = refl
agrees name.Export said (a ∷ []) =
    export_formats said a (text_of option.Format said) ∙ ap not (sym (or_false (is_some (export_at said (a ∷ [])))))
agrees name.Export said (a ∷ b ∷ rest) = one_more name.Export said (a ∷ b ∷ rest) (omega arith) refl
agrees name.EditFile said [] = refl
agrees name.EditFile said (a ∷ []) = edit_file_agrees said a ∙ ap not (sym (or_false (is_some (edit_file_at said (a ∷ [])))))
agrees name.EditFile said (a ∷ b ∷ rest) = one_more name.EditFile said (a ∷ b ∷ rest) (omega arith) refl
agrees name.Info said [] = refl
agrees name.Info said (a ∷ []) = refl
agrees name.Info said (a ∷ b ∷ rest) = one_more name.Info said (a ∷ b ∷ rest) (omega arith) refl
agrees name.ExportAttachment said positions = export_attachment_agrees said positions
agrees name.ImportAttachment said positions = import_attachment_agrees said positions
agrees name.RemoveAttachment said [] = refl
agrees name.RemoveAttachment said (a ∷ []) = refl
agrees name.RemoveAttachment said (a ∷ b ∷ []) = refl
agrees name.RemoveAttachment said (a ∷ b ∷ c ∷ []) = refl
agrees name.RemoveAttachment said (a ∷ b ∷ c ∷ d ∷ rest) = one_more name.RemoveAttachment said (a ∷ b ∷ c ∷ d ∷ rest) (omega arith) refl
agrees name.Generate said [] =
    profile_agrees said ∙ ap not (sym (some_mapped Password (profile_in said)))
    ∙ ap not (sym (or_false (is_some (option_map Password (profile_in said)))))
agrees name.Generate said (a ∷ rest) = one_more name.Generate said (a ∷ rest) (omega arith) refl
agrees name.SelfTest said [] = refl
agrees name.SelfTest said (a ∷ []) = by (test_count a)
  where
    by : (count : Option ℕ) → is_some (if is_some count then None else Some (UnknownCount a)) ≡ not (is_some (option_map SelfTest count) || false)
    by None = refl
    by (Some count) = refl
agrees name.SelfTest said (a ∷ b ∷ rest) = one_more name.SelfTest said (a ∷ b ∷ rest) (omega arith) refl
agrees name.Open said [] = refl
agrees name.Open said (a ∷ []) = refl
agrees name.Open said (a ∷ b ∷ rest) = one_more name.Open said (a ∷ b ∷ rest) (omega arith) refl

-- ---- what all words say

in_order : (due positions credentials own fit command standalone opened : Bool) → credentials ≡ not fit
    → (positions || own) ≡ not (command || (standalone || opened))
    → (due || (positions || (credentials || own)))
    ≡ not ((if not due && fit then command else false)
    || ((if not due && fit then standalone else false) || (if not due && fit then opened else false)))
in_order true positions credentials own fit command standalone opened h g = refl
in_order false true credentials own true command standalone opened h g = g
in_order false true credentials own false command standalone opened h g = refl
in_order false false credentials own true command standalone opened h g = ap (λ c. c || own) h ∙ g
in_order false false credentials own false command standalone opened h g = ap (λ c. c || own) h

some_when : {A : Type 0} (met : Bool) (o : Option A) → is_some (if met then o else None) ≡ (if met then is_some o else false)
some_when true o = refl
some_when false o = refl

false_when : (met : Bool) → (if met then false else false) ≡ false
false_when true = refl
false_when false = refl

-- A session is opened where all words fit together.
opened_when : (command : CommandName) (said : Said)
    → (if is_whole said then is_some (opened_at command said said.positions) else false) ≡ is_some (opening_saying command said)
opened_when name.Open said = sym (some_when (is_whole said) (opening_at said said.positions))
opened_when command said = false_when (is_whole said)

-- The cause in all words, as its parts.
parted : (due positions credentials own : Option Cause)
    → is_some (option_or due (option_or positions (option_or credentials own))) ≡ (is_some due || (is_some positions || (is_some credentials || is_some own)))
parted (Some x) positions credentials own = refl
parted None (Some x) credentials own = refl
parted None None (Some x) own = refl
parted None None None own = refl

-- A command with a database is asked for, or one without, or a session.
abbrev is_asked : Option Command → Option Standalone → Option SessionDatabase → Bool
is_asked command standalone database = is_some command || (is_some standalone || is_some database)

said_agrees : (command : CommandName) (last : List ℕ) (said : Said)
    → is_some (said_cause command last said) ≡ not (is_asked (command_saying command said) (standalone_saying command said) (opening_saying command said))
said_agrees command last said =
    parted (due_cause last said.due) (positions_cause command said.positions) (credentials_cause said) (own_cause command said said.positions)
    ∙ ap (λ d. d || (is_some (positions_cause command said.positions) || (is_some (credentials_cause said) || is_some (own_cause command said said.positions)))) (some_mapped _ said.due)
    ∙ in_order (is_due said) (is_some (positions_cause command said.positions)) (is_some (credentials_cause said)) (is_some (own_cause command said said.positions))
    (is_fit (is_given option.Plain said) (is_given option.NoPassword said) (is_given option.KeyFile said) && is_fit_from said)
    (is_some (command_at command said said.positions)) (is_some (standalone_at command said said.positions)) (is_some (opened_at command said said.positions))
    (fits (is_given option.Plain said) (is_given option.NoPassword said) (is_given option.KeyFile said) (is_given option.SameCredentials said)
    (is_given option.NoPasswordFrom said) (is_given option.KeyFileFrom said))
    (agrees command said said.positions)
    ∙ ap₂ (λ (a b : Bool). not (a || (b || (if is_whole said then is_some (opened_at command said said.positions) else false))))
    (sym (some_when (is_whole said) (command_at command said said.positions))) (sym (some_when (is_whole said) (standalone_at command said said.positions)))
    ∙ ap (λ (o : Bool). not (is_some (command_saying command said) || (is_some (standalone_saying command said) || o))) (opened_when command said)

-- ---- words

from_agrees : (command : CommandName) (previous : List ℕ) (words : List (List ℕ)) (said : Said)
    → is_some (cause_from command previous words said)
    ≡ not (is_asked (option_and_then (command_saying command) (with_words command words said)) (option_and_then (standalone_saying command) (with_words command words said))
    (option_and_then (opening_saying command) (with_words command words said)))
from_agrees command previous [] said = said_agrees command previous said
from_agrees command previous (word ∷ words) said = by (λ next. from_agrees command word words next) (with_word command said word)
  where
    by : ((next : Said) → is_some (cause_from command word words next)
        ≡ not (is_asked (option_and_then (command_saying command) (with_words command words next)) (option_and_then (standalone_saying command) (with_words command words next))
        (option_and_then (opening_saying command) (with_words command words next))))
        → (o : Option Said) → is_some (option_map_or (cause_from command word words) o (Some (word_cause command previous word said.due)))
        ≡ not (is_asked (option_and_then (command_saying command) (option_and_then (with_words command words) o))
        (option_and_then (standalone_saying command) (option_and_then (with_words command words) o))
        (option_and_then (opening_saying command) (option_and_then (with_words command words) o)))
    by step None = refl
    by step (Some next) = step next

-- Words have a cause exactly where they are no command, with a database or without one, and open no
-- session.
pub cause_agrees : (words : List (List ℕ))
    → is_some (cause_of words) ≡ not (is_some (command_in words) || (is_some (standalone_of words) || is_some (opening_of words)))
cause_agrees [] = refl
cause_agrees (word ∷ words) = by (command_named word)
  where
    by : (o : Option CommandName) → is_some (option_map_or (λ command. cause_from command word words nothing_said) o (Some (name_cause word)))
        ≡ not (is_asked (option_and_then (command_by words) o) (option_and_then (standalone_by words) o) (option_and_then (opening_by words) o))
    by None = refl
    by (Some command) = from_agrees command word words nothing_said
