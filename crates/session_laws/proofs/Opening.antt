-- The call of a line opens the database of its session.
use Rattle.std.proofs.Common.{◌≡◌, ℕ, Bool, true, false, List, [], Option, None, Result, Ok, refl, sym, ap, subst, ◌∙◌}
use Rattle.outside_core.specs.Files.{FileMap}
use Rattle.cli_messages.specs.declared.answers.Refusal.{Refusal}
use Rattle.cli_needs.specs.declared.command.Access.{Access}
use Rattle.cli_needs.specs.declared.command.Command.{Command}
use Rattle.cli_needs.specs.declared.command.Command.TheVariants.{Ls, Show, History, Search, Add, Edit, Restore, ExportAttachment, ImportAttachment, RemoveAttachment, Move, Remove, MakeGroup, RemoveGroup, Merge, Import, Create, Export, EditFile, Info}
use Rattle.cli_needs.specs.Needs as from
use Rattle.cli_needs.specs.Needs.{ImportNeeds, Needs, Origin, access_made, file_made, import_of, needs_of, origin_of}
use Rattle.cli_lines.specs.Lines.{LastLines, Lines, lines_with}
use Rattle.cli_sessions.specs.SessionLines.{in_session}
use Rattle.vault_model.specs.Tree.{BareDoc}
use Rattle.outside_core.specs.Results.{◌>>=◌}
use Rattle.cli_files.specs.Files.{Databases, Opened}
use Rattle.cli_files.specs.Tasks.{task_with}
use Rattle.cli_files.proofs.HeldKeys.{in_turn}
use Rattle.call_input.specs.CliDatabases.Databases.{database_of, databases_of, sources_of}
use Rattle.call_input.specs.CliDatabases.Held.{HoldAll, HoldsBy}
use Rattle.call_input.proofs.CliDatabases.HeldFiles.{database_held, databases_given}
use Rattle.call_input.specs.Attaching.{attached_by}
use Rattle.call_input.specs.Opening.{databases_by, databases_for, one_database}
use Rattle.call_input.specs.Reading.{opened_task}
use Rattle.call_input.proofs.ReadTasks.{opened_is}
use Rattle.cli_sessions.specs.declared.opening.SessionDatabase.{SessionDatabase}
use Rattle.session_laws.proofs.LineCommands.{IsOver}
use Rattle.session_laws.specs.SessionLaws.{IsInFiles, no_last}
use Rattle.session_laws.proofs.Written.{Reopens}

-- ---- what a command of lines opens

-- A command opens one database, and nothing beside it.
record OpensAlone (command : Command) : Type 0 where
  pub origin : origin_of command ≡ from.Opened
  pub import : import_of command ≡ None
  pub sources : (needs_of command).sources ≡ []

opens_alone : (command : Command) → in_session command ≡ true → OpensAlone command
opens_alone (Ls access file group recursive flat ids) s = record { origin = refl; import = refl; sources = refl }
opens_alone (Show access file entry clear all attachments names totp at) s = record { origin = refl; import = refl; sources = refl }
opens_alone (History access file entry) s = record { origin = refl; import = refl; sources = refl }
opens_alone (Search access file term) s = record { origin = refl; import = refl; sources = refl }
opens_alone (Add access file entry asked) s = record { origin = refl; import = refl; sources = refl }
opens_alone (Edit access file entry asked further) s = record { origin = refl; import = refl; sources = refl }
opens_alone (Restore access file entry version) s = record { origin = refl; import = refl; sources = refl }
opens_alone (ExportAttachment access file entry name to) s = cc
opens_alone (ImportAttachment access file entry name source replaces) s = cc
opens_alone (RemoveAttachment access file entry name) s = cc
opens_alone (Move access file node group) s = record { origin = refl; import = refl; sources = refl }
opens_alone (Remove access file entry) s = record { origin = refl; import = refl; sources = refl }
opens_alone (MakeGroup access file group) s = record { origin = refl; import = refl; sources = refl }
opens_alone (RemoveGroup access file group) s = record { origin = refl; import = refl; sources = refl }
opens_alone (Merge access file names from asked dry details) s = cc
opens_alone (Import access format source from file) s = cc
opens_alone (Create access file name cipher kdf) s = cc
opens_alone (Export access format file) s = cc
opens_alone (EditFile access file change) s = cc
opens_alone (Info access file) s = record { origin = refl; import = refl; sources = refl }

-- ---- files that hold the database

-- What a session opens, without a line after the passwords.
abbrev pub session_needs : SessionDatabase → Needs
session_needs database = from.without_sources database.access database.file false

-- The files hold a database that is alike that of the session.
abbrev pub Reopened : SessionDatabase → Option (List ℕ) → FileMap → Opened → Type 0
Reopened database password files opened =
    Reopens database.access.plain database.access.key_file database.file password files opened

same_target : (target : Opened) (sources : List BareDoc) (databases : Databases)
    → ◌≡◌ {A = Result Databases Refusal} (Ok (record { target = target; sources = sources })) (Ok databases) → target ≡ databases.target
same_target target sources databases h =
    let is : ◌≡◌ {A = Databases} (record { target = target; sources = sources }) databases = cc in
    ap (λ (d : Databases). d.target) is

-- The first of the databases of a call is what its file holds.
pub target_opened : (needs : Needs) (lines : Lines) (files : FileMap) (databases : Databases) → databases_of needs lines files ≡ Ok databases
    → database_of needs lines.password files ≡ Ok databases.target
unfolding databases_of
target_opened needs lines files databases h =
    let t = in_turn (database_of needs lines.password files) (λ target. sources_of needs lines files >>= λ sources. Ok (record { target = target; sources = sources })) databases h in
    let s = in_turn (sources_of needs lines files) (λ sources. Ok (record { target = t.0; sources = sources })) databases t.1.1 in
    t.1.0 ∙ ap Ok (same_target t.0 s.0 databases s.1.1)

pub from_files : (time : ℕ) (database : SessionDatabase) (password : Option (List ℕ)) (files : FileMap) (opened : Opened)
    → IsInFiles time database password files opened → Reopened database password files opened
from_files time database password files opened h = record {
  target = h.target;
  holds = database_held (session_needs database) password files h.target (target_opened (session_needs database) (lines_with password [] no_last) files (one_database h.target) h.opens);
  alike = h.alike;
}

pub in_files : (time : ℕ) (database : SessionDatabase) (password : Option (List ℕ)) (files : FileMap) (opened : Opened)
    → Reopened database password files opened → IsInFiles time database password files opened
in_files time database password files opened r = record {
  target = r.target;
  opens = databases_given (session_needs database) (lines_with password [] no_last) files (one_database r.target) (record { target = r.holds; sources = tt });
  alike = r.alike;
}

-- ---- the call of a line

module _ (database : SessionDatabase) (command : Command) (over : IsOver database command) where
  alone : OpensAlone command
  alone = opens_alone command over.kind

  abbrev needs : Needs
  needs = needs_of command

  its_file : needs.file ≡ database.file
  its_file = sym (ap (λ (import : Option ImportNeeds). file_made import needs.file) alone.import) ∙ over.file

  its_access : from.target_access command ≡ needs.access
  its_access = ap (λ (import : Option ImportNeeds). access_made import needs.access) alone.import

  its_plain : needs.access.plain ≡ database.access.plain
  its_plain = sym (ap (λ (a : Access). a.plain) its_access) ∙ over.plain

  its_key_file : needs.access.key_file ≡ database.access.key_file
  its_key_file = sym (ap (λ (a : Access). a.key_file) its_access) ∙ over.key_file

  its_database : (password : Option (List ℕ)) (files : FileMap) (target : Opened)
      → HoldsBy database.access.plain database.access.key_file database.file password files target
      → HoldsBy needs.access.plain needs.access.key_file needs.file password files target
  its_database password files target h =
      subst (λ (plain : Bool). HoldsBy plain needs.access.key_file needs.file password files target) (sym its_plain)
      (subst (λ (key_file : Option (List ℕ)). HoldsBy database.access.plain key_file needs.file password files target) (sym its_key_file)
      (subst (λ (file : List ℕ). HoldsBy database.access.plain database.access.key_file file password files target) (sym its_file) h))

  its_databases : (lines : Lines) (time : ℕ) (files : FileMap) (target : Opened)
      → HoldsBy database.access.plain database.access.key_file database.file lines.password files target
      → databases_for command lines time files ≡ Ok (one_database target)
  its_databases lines time files target h =
      ap (λ (origin : Origin). databases_by origin needs lines time files) alone.origin
      ∙ databases_given needs lines files (one_database target)
      (record {
        target = its_database lines.password files target h;
        sources = subst (λ (names : List (List ℕ)). HoldAll needs.from needs.same lines.password names lines.sources files []) (sym alone.sources) tt;
      })

  pub line_opens : (password : Option (List ℕ)) (lines : LastLines) (time : ℕ) (files : FileMap) (target : Opened)
      → HoldsBy database.access.plain database.access.key_file database.file password files target
      → opened_task command (lines_with password [] lines) time files
      ≡ Ok (task_with command (lines_with password [] lines) (one_database target) None)
  line_opens password lines time files target h =
      opened_is command (lines_with password [] lines) time files (one_database target) None
      (its_databases (lines_with password [] lines) time files target h)
      (ap (λ (origin : Origin). attached_by origin files) alone.origin)
