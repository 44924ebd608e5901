-- What a call results in over files that agree on those that its words name.
use Rattle.std.proofs.Common.{◌≡◌, ◌⊎◌, ℕ, Bool, true, false, inl, inr, List, [], ◌∷◌, ◌++◌, Option, None, Some, Result, Ok, Err, refl, sym, ap, subst, ◌∙◌}
use Rattle.std.proofs.lemmas.Option.{same_Some}
use Rattle.std.specs.FinMap as map
use Rattle.outside_core.specs.Files.{FileMap}
use Rattle.outside_core.specs.Results.{◌>>=◌}
use Rattle.key_core.specs.Keys.{composite_key}
use Rattle.kdbx_open.specs.Files.{opening_of}
use Rattle.kdbx_frame.specs.declared.sealings.Sealing.{Sealing}
use Rattle.vault_model.specs.Join.{IsIn}
use Rattle.vault_model.specs.Tree.{BareDoc}
use Rattle.vault_model.proofs.Tests.{in_back, in_front}
use Rattle.tree_core.proofs.Options.{never}
use Rattle.cli_messages.specs.declared.answers.Refusal.{Refusal}
use Rattle.cli_pages.specs.Pages.{page_of}
use Rattle.cli_messages.specs.Phases.{StreamAnswer, after_left, then_left, with_left}
use Rattle.cli_needs.specs.declared.command.Access.{Access}
use Rattle.cli_needs.specs.declared.command.Command.{Command}
use Rattle.cli_needs.specs.declared.command.FileChange.{FileChange}
use Rattle.cli_needs.specs.declared.command.KeyFileChange.{KeyFileChange}
use Rattle.cli_needs.specs.declared.command.KeyFileChange.TheVariants as key_file
use Rattle.cli_needs.specs.declared.command.Command.TheVariants.{Ls, Show, History, Search, Add, Edit, Restore, ExportAttachment, ImportAttachment, RemoveAttachment, Move, Remove, MakeGroup, RemoveGroup, Merge, Import, Create, Export, EditFile, Info}
use Rattle.cli_needs.specs.Needs as from
use Rattle.cli_needs.specs.Needs.{CreateNeeds, ImportNeeds, Needs, Origin, database_files, exported_to, files_by, files_named, files_of, key_files, needs_of, new_key_files, origin_of, source_files, target_of}
use Rattle.cli_parse.specs.Words.{command_of}
use Rattle.cli_profiles.specs.declared.profiles.PasswordProfile.{PasswordProfile}
use Rattle.cli_self_test.specs.SelfTest.{self_test}
use Rattle.cli_standalone.specs.declared.standalone.Standalone.{Standalone}
use Rattle.cli_standalone.specs.declared.standalone.Standalone.TheVariants.{Password, SelfTest}
use Rattle.cli_standalone.specs.Standalone.{standalone_of}
use Rattle.cli_generating.specs.Generated.{generated}
use Rattle.cli_lines.specs.Lines.{Lines, lines_of}
use Rattle.cli_writing.specs.Writing.{NewFile, file_or_refusal, plain_file}
use Rattle.cli_files.specs.Files.{Opened, key_in, key_of, of_file}
use Rattle.cli_files.specs.Tasks.{Task, task_with}
use Rattle.cli_databases.specs.Databases.{database_of, databases_of, docs_from, document_in, held_in, held_under, password_from, plain_of, sealed_in, sources_of, vault_or_refusal}
use Rattle.cli_importing.specs.Imports.{at_stamp, source_by, imported_of, new_sealing, refuse_file, sealing_of, source_of}
use Rattle.cli_resealing.specs.Asked.{asked_settings, with_resealed}
use Rattle.cli_resealing.specs.Created.{created_of, empty_document, undrawn_id}
use Rattle.cli_resealing.specs.Edited.{changed_of, edited_of, key_after, key_made, settings_in, under_key}
use Rattle.cli_commands.specs.Commands.{Change}
use Rattle.call_input.specs.Attaching.{attached_by, attached_for}
use Rattle.call_input.specs.Opening.{alone, databases_by, databases_for}
use Rattle.call_input.specs.Reading.{opened_task, task_of}
use Rattle.call_run.specs.Endings.{Ending, Targets, attachment_file, carried_out, change_of_task, ended_so, ended_with, ending_with, targets_of}
use Rattle.stream_core.specs.InnerStream.{NoKeystream}
use Rattle.vault_model.specs.declared.forms.DocForm.TheVariants.{Plain}
use Rattle.doc_write.specs.Written.{write_outcome}
use Rattle.doc_write.specs.declared.writing.WriteFail.{WriteFail}
use Rattle.kdbx_seal.specs.Answers.{size_refusal}
use Rattle.kdbx_seal.specs.Made.{made_file}
use Rattle.kdbx_seal.specs.declared.fail.SealFail.{SealFail}
use Rattle.cli_sealing.specs.Draws.{draws_of}
use Rattle.cli_sealing.specs.Sealing.{file_by, file_unless, sealed_file, settings_for}
use Rattle.keepass_call.specs.Outcome.{World, answer_of, command_answer, ended, page_or_answer, password_answer, printed, printed_password, standalone_answer, standalone_or_command, test_answer}
use Rattle.call_input.specs.Reading.{left_of}
use Rattle.keepass_call.proofs.HeldTasks.{is_task}
use Rattle.call_conditions.specs.Agreeing.{AgreeOn}
use Rattle.outcome_laws.specs.Named.{OnlyNamedFilesCount, OnlyNamedIsWritten, PagesNeedNoFile, with_files}

-- ---- phases over other files

-- phases whose first parts are the same, and whose next parts are the same after it
bind_same : {A B E : Type 0} (r s : Result A E) (next later : A → Result B E) → r ≡ s → ((x : A) → next x ≡ later x) → (r >>= next) ≡ (s >>= later)
bind_same {A = A} {B = B} {E = E} r s next later e f = ap (λ t. t >>= next) e ∙ of s
  where
    of : (t : Result A E) → (t >>= next) ≡ (t >>= later)
    of (Ok x) = f x
    of (Err e) = refl

module _ (F G : FileMap) where
  keys_same : (key : Option (List ℕ)) → AgreeOn (key_files key) F G → key_of key F ≡ key_of key G
  keys_same None agree = refl
  keys_same (Some name) agree = ap (λ bytes. key_in name bytes >>= λ key. Ok (Some key)) (agree name (inl refl))

  under_same : (file composite : List ℕ) → map.get F file ≡ map.get G file → held_under file F composite ≡ held_under file G composite
  unfolding held_under
  under_same file composite e = ap (λ bytes. vault_or_refusal file composite (opening_of bytes composite)) e

  held_same : (plain : Bool) (key : Option (List ℕ)) (file : List ℕ) (password : Option (List ℕ)) → AgreeOn (key_files key ++ file ∷ []) F G → held_in plain key file password F ≡ held_in plain key file password G
  held_same true key file password agree = ap (plain_of file) (agree file (in_back (key_files key) (file ∷ []) file (inl refl)))
  held_same false key file password agree =
      bind_same (key_of key F) (key_of key G) (sealed_in file F password) (sealed_in file G password)
      (keys_same key (λ name i. agree name (in_front (key_files key) (file ∷ []) name i)))
      (λ k. under_same file (composite_key password k) (agree file (in_back (key_files key) (file ∷ []) file (inl refl))))

  document_same : (access : Access) (name : List ℕ) (password : Option (List ℕ)) → AgreeOn (database_files access name) F G → document_in access name password F ≡ document_in access name password G
  document_same access name password agree = ap (λ r. r >>= λ (opened : Opened). Ok opened.doc) (held_same access.plain access.key_file name password agree)

  docs_same : (from : Access) (same : Bool) (target : Option (List ℕ)) (names : List (List ℕ)) (lines : List (Option (List ℕ))) (docs : List BareDoc) → AgreeOn (source_files from names) F G
      → docs_from from same target names lines docs F ≡ docs_from from same target names lines docs G
  unfolding docs_from
  docs_same from same target [] lines docs agree = refl
  docs_same from same target (name ∷ names) [] docs agree = refl
  docs_same from same target (name ∷ names) (line ∷ lines) docs agree =
      bind_same (document_in from name (password_from same target line) F) (document_in from name (password_from same target line) G)
      (λ doc. docs_from from same target names lines (docs ++ doc ∷ []) F) (λ doc. docs_from from same target names lines (docs ++ doc ∷ []) G)
      (document_same from name (password_from same target line) (λ n i. agree n (in_front (database_files from name) (source_files from names) n i)))
      (λ doc. docs_same from same target names lines (docs ++ doc ∷ []) (λ n i. agree n (in_back (database_files from name) (source_files from names) n i)))

  databases_same : (needs : Needs) (lines : Lines) → AgreeOn (files_of needs) F G → databases_of needs lines F ≡ databases_of needs lines G
  unfolding databases_of
  databases_same needs lines agree =
      let own = database_files needs.access needs.file in
      let others = source_files needs.from needs.sources in
      bind_same (database_of needs lines.password F) (database_of needs lines.password G)
      (λ target. sources_of needs lines F >>= λ sources. Ok (record { target = target; sources = sources }))
      (λ target. sources_of needs lines G >>= λ sources. Ok (record { target = target; sources = sources }))
      (held_same needs.access.plain needs.access.key_file needs.file lines.password (λ n i. agree n (in_front own others n i)))
      (λ target. ap (λ r. r >>= λ sources. Ok (record { target = target; sources = sources }))
      (docs_same needs.from needs.same lines.password needs.sources lines.sources [] (λ n i. agree n (in_back own others n i))))

  sealing_same : (plain : Bool) (key password : Option (List ℕ)) → AgreeOn (key_files key) F G → sealing_of plain key password F ≡ sealing_of plain key password G
  sealing_same true key password agree = refl
  sealing_same false key password agree = ap (λ r. r >>= λ key. Ok (Some (new_sealing password key))) (keys_same key agree)

  import_same : (import : ImportNeeds) (lines : Lines) (time : ℕ) → AgreeOn (import.source ∷ import.file ∷ key_files import.access.key_file) F G → imported_of import lines time F ≡ imported_of import lines time G
  unfolding imported_of
  import_same import lines time agree =
      let seal = sealing_same import.access.plain import.access.key_file lines.more (λ n i. agree n (inr (inr i))) in
      bind_same (source_of import lines.password time F) (source_of import lines.password time G)
      (λ source. refuse_file import.file (map.get F import.file) >>= λ _. (sealing_of import.access.plain import.access.key_file lines.more F >>= λ sealing. Ok (record { doc = source.doc; sealing = sealing; passed_over = source.passed_over })))
      (λ source. refuse_file import.file (map.get G import.file) >>= λ _. (sealing_of import.access.plain import.access.key_file lines.more G >>= λ sealing. Ok (record { doc = source.doc; sealing = sealing; passed_over = source.passed_over })))
      (ap (of_file import.source (source_by import.format import.source lines.password time)) (agree import.source (inl refl)))
      (λ source. bind_same (refuse_file import.file (map.get F import.file)) (refuse_file import.file (map.get G import.file))
      (λ _. (sealing_of import.access.plain import.access.key_file lines.more F >>= λ sealing. Ok (record { doc = source.doc; sealing = sealing; passed_over = source.passed_over })))
      (λ _. (sealing_of import.access.plain import.access.key_file lines.more G >>= λ sealing. Ok (record { doc = source.doc; sealing = sealing; passed_over = source.passed_over })))
      (ap (refuse_file import.file) (agree import.file (inr (inl refl))))
      (λ x. ap (λ r. r >>= λ sealing. Ok (record { doc = source.doc; sealing = sealing; passed_over = source.passed_over })) seal))

  created_same : (create : CreateNeeds) (lines : Lines) (time : ℕ) → AgreeOn (create.file ∷ key_files create.access.key_file) F G → created_of create lines time F ≡ created_of create lines time G
  unfolding created_of
  created_same create lines time agree =
      let made = λ (sealing : Option Sealing). at_stamp create.file time (Ok (empty_document create.name undrawn_id time))
      >>= λ doc. with_resealed create.file (asked_settings create.cipher create.kdf None) (record { doc = doc; sealing = sealing; passed_over = [] }) in
      let seal = sealing_same create.access.plain create.access.key_file lines.password (λ n i. agree n (inr i)) in
      bind_same (refuse_file create.file (map.get F create.file)) (refuse_file create.file (map.get G create.file))
      (λ _. (sealing_of create.access.plain create.access.key_file lines.password F >>= made))
      (λ _. (sealing_of create.access.plain create.access.key_file lines.password G >>= made))
      (ap (refuse_file create.file) (agree create.file (inl refl)))
      (λ x. ap (λ r. r >>= made) seal)

  after_same : (change : KeyFileChange) (old : Option (List ℕ)) → AgreeOn (new_key_files change) F G → key_after change old F ≡ key_after change old G
  after_same key_file.Keep old agree = refl
  after_same (key_file.Set name) old agree = keys_same (Some name) agree
  after_same key_file.Unset old agree = refl

  edited_same : (needs : Needs) (change : FileChange) (lines : Lines) → AgreeOn (database_files needs.access needs.file ++ new_key_files change.key_file) F G → edited_of needs change lines F ≡ edited_of needs change lines G
  unfolding edited_of
  edited_same needs change lines agree =
      let own = database_files needs.access needs.file in
      let keys = key_files needs.access.key_file in
      bind_same (key_of needs.access.key_file F) (key_of needs.access.key_file G)
      (λ old. sealed_in needs.file F lines.password old >>= λ opened. changed_of needs.file change lines old opened F)
      (λ old. sealed_in needs.file G lines.password old >>= λ opened. changed_of needs.file change lines old opened G)
      (keys_same needs.access.key_file (λ n i. agree n (in_front own (new_key_files change.key_file) n (in_front keys (needs.file ∷ []) n i))))
      (λ old. bind_same (sealed_in needs.file F lines.password old) (sealed_in needs.file G lines.password old)
      (λ opened. changed_of needs.file change lines old opened F) (λ opened. changed_of needs.file change lines old opened G)
      (under_same needs.file (composite_key lines.password old)
      (agree needs.file (in_front own (new_key_files change.key_file) needs.file (in_back keys (needs.file ∷ []) needs.file (inl refl)))))
      (λ opened. ap (λ r. r >>= λ new. with_resealed needs.file (settings_in change) (under_key (key_made change lines new) opened))
      (after_same change.key_file old (λ n i. agree n (in_back own (new_key_files change.key_file) n i)))))

  by_same : (origin : Origin) (needs : Needs) (lines : Lines) (time : ℕ) → AgreeOn (files_by origin needs) F G → databases_by origin needs lines time F ≡ databases_by origin needs lines time G
  by_same from.Opened needs lines time agree = databases_same needs lines agree
  by_same (from.Exported to) needs lines time agree =
      bind_same (refuse_file to (map.get F to)) (refuse_file to (map.get G to)) (λ absent. databases_of needs lines F) (λ absent. databases_of needs lines G)
      (ap (refuse_file to) (agree to (inl refl))) (λ absent. databases_same needs lines (λ n i. agree n (inr i)))
  by_same (from.Attached source) needs lines time agree = databases_same needs lines (λ n i. agree n (in_front (files_of needs) (source ∷ []) n i))
  by_same (from.Imported import) needs lines time agree = ap alone (import_same import lines time agree)
  by_same (from.Created create) needs lines time agree = ap alone (created_same create lines time agree)
  by_same (from.Changed change) needs lines time agree = ap alone (edited_same needs change lines agree)

  -- the file that is put into a database
  attached_same : (origin : Origin) (needs : Needs) → AgreeOn (files_by origin needs) F G → attached_by origin F ≡ attached_by origin G
  attached_same from.Opened needs agree = refl
  attached_same (from.Exported to) needs agree = refl
  attached_same (from.Attached source) needs agree =
      ap (λ bytes. of_file source (λ read. Ok read) bytes >>= λ read. Ok (Some read)) (agree source (in_back (files_of needs) (source ∷ []) source (inl refl)))
  attached_same (from.Imported import) needs agree = refl
  attached_same (from.Created create) needs agree = refl
  attached_same (from.Changed change) needs agree = refl

  opened_same : (command : Command) (lines : Lines) (time : ℕ) → AgreeOn (files_named (Ok command)) F G → opened_task command lines time F ≡ opened_task command lines time G
  opened_same command lines time agree =
      bind_same (databases_for command lines time F) (databases_for command lines time G)
      (λ databases. attached_for command F >>= λ attached. Ok (task_with command lines databases attached))
      (λ databases. attached_for command G >>= λ attached. Ok (task_with command lines databases attached))
      (by_same (origin_of command) (needs_of command) lines time agree)
      (λ databases. ap (λ r. r >>= λ attached. Ok (task_with command lines databases attached)) (attached_same (origin_of command) (needs_of command) agree))

  command_same : (time : ℕ) (input : List ℕ) (c : Result Command Refusal) → AgreeOn (files_named c) F G
      → (c >>= λ command. ((lines_of (needs_of command) input).answer >>= λ lines. opened_task command lines time F))
      ≡ (c >>= λ command. ((lines_of (needs_of command) input).answer >>= λ lines. opened_task command lines time G))
  command_same time input (Err refusal) agree = refl
  command_same time input (Ok command) agree =
      bind_same (lines_of (needs_of command) input).answer (lines_of (needs_of command) input).answer
      (λ lines. opened_task command lines time F) (λ lines. opened_task command lines time G)
      refl (λ lines. opened_same command lines time agree)

  task_same : (words : List (List ℕ)) (time : ℕ) (input : List ℕ) → AgreeOn (files_named (command_of words)) F G → task_of words time input F ≡ task_of words time input G
  unfolding task_of
  task_same words time input agree = command_same time input (command_of words) agree

-- ---- the outcome

command_answers_same : (words : List (List ℕ)) (time : ℕ) (world : World) (files : FileMap) → AgreeOn (files_named (command_of words)) world.files files → (standalone : Option Standalone)
    → standalone_or_command standalone words time world ≡ standalone_or_command standalone words time (with_files world files)
unfolding command_answer
command_answers_same words time world files agree (Some standalone) = refl
command_answers_same words time world files agree None = ap (λ r. then_left (with_left r world.dice) (carried_out time)) (task_same world.files files words time world.input agree)

answer_same : (words : List (List ℕ)) (time : ℕ) (world : World) (files : FileMap) → AgreeOn (files_named (command_of words)) world.files files → (page : Option (List ℕ))
    → page_or_answer page words time world ≡ page_or_answer page words time (with_files world files)
answer_same words time world files agree (Some page) = refl
answer_same words time world files agree None = command_answers_same words time world files agree (standalone_of words)

pub only_named_files_count : OnlyNamedFilesCount
only_named_files_count words time world files agree =
    ap (λ (a : StreamAnswer Ending). ended (left_of words world.input) a.answer a.left) (answer_same words time world files agree (page_of words))

pub pages_need_no_file : PagesNeedNoFile
pages_need_no_file words time world files page is =
    ap (λ (a : StreamAnswer Ending). ended (left_of words world.input) a.answer a.left)
    (ap (λ p. page_or_answer p words time world) is ∙ sym (ap (λ p. page_or_answer p words time (with_files world files)) is))

-- ---- the file that is written

abbrev file_in : Result Ending Refusal → Option NewFile
file_in (Ok ending) = ending.file
file_in (Err refusal) = None

abbrev name_made : List ℕ → Result NewFile Refusal → List ℕ
name_made name (Ok file) = file.name
name_made name (Err refusal) = name

-- The file is that of the database, or the one that a command makes of an attachment.
abbrev IsTarget : Targets → Option NewFile → Type 0
IsTarget targets None = Unit {0}
IsTarget targets (Some file) = (file.name ≡ targets.database) ⊎ (targets.attachment ≡ Some file.name)

attachment_name : (targets : Targets) (to bytes : Option (List ℕ)) → targets.attachment ≡ to → IsTarget targets (attachment_file to bytes)
attachment_name targets None None is = tt
attachment_name targets None (Some bytes) is = tt
attachment_name targets (Some to) None is = tt
attachment_name targets (Some to) (Some bytes) is = inr is

written_name : (targets : Targets) (text : List ℕ) (made : Result NewFile Refusal) (left : List ℕ) → ((file : NewFile) → made ≡ Ok file → file.name ≡ targets.database)
    → IsTarget targets (file_in (after_left made left (λ file rest. with_left (Ok (ending_with text file)) rest)).answer)
written_name targets text (Ok file) left is = inl (is file refl)
written_name targets text (Err refusal) left is = tt

ended_name : (targets : Targets) (text : List ℕ) (sealing : Option Sealing) (doc : Option BareDoc) (attachment : Option (List ℕ)) (dice : List ℕ)
    → IsTarget targets (file_in (ended_so targets sealing text doc attachment dice).answer)
unfolding file_by
ended_name targets text sealing None attachment dice = attachment_name targets targets.attachment attachment refl
ended_name targets text None (Some doc) attachment dice =
    written_name targets text (plain_file targets.database doc) dice (λ file is. plain_name targets.database (write_outcome Plain NoKeystream None doc) file is)
  where
    plain_name : (name : List ℕ) (r : Result (List ℕ) WriteFail) (file : NewFile) → file_or_refusal name r ≡ Ok file → file.name ≡ name
    plain_name name (Ok text) file is = ap (name_made name) (sym is)
    plain_name name (Err why) file is = cc is
ended_name targets text (Some sealing) (Some doc) attachment dice =
    let s = settings_for sealing.settings doc in
    let name = targets.database in
    written_name targets text (sealed_file name sealing.settings sealing.composite doc dice).answer (sealed_file name sealing.settings sealing.composite doc dice).left
    (λ file is. sealed_name name (size_refusal s (draws_of s dice) doc) (made_file s (draws_of s dice) sealing.composite doc) file is)
  where
    sealed_name : (name : List ℕ) (why : Option SealFail) (bytes : List ℕ) (file : NewFile) → file_unless name why bytes ≡ Ok file → file.name ≡ name
    sealed_name name None bytes file is = ap (name_made name) (sym is)
    sealed_name name (Some why) bytes file is = cc is

after_name : (targets : Targets) (sealing : Option Sealing) (answer : Result Change Refusal) (dice : List ℕ)
    → IsTarget targets (file_in (after_left answer dice (λ change left. ended_with targets sealing change left)).answer)
after_name targets sealing (Ok change) dice = ended_name targets change.text sealing change.doc change.attachment dice
after_name targets sealing (Err refusal) dice = tt

carried_name : (time : ℕ) (task : Task) (dice : List ℕ) → IsTarget (targets_of task.command) (file_in (carried_out time task dice).answer)
unfolding carried_out
carried_name time task dice = after_name (targets_of task.command) task.opened.sealing (change_of_task time task dice).answer (change_of_task time task dice).left

opened_target : (needs : Needs) → IsIn needs.file (files_of needs)
opened_target needs =
    in_front (database_files needs.access needs.file) (source_files needs.from needs.sources) needs.file (in_back (key_files needs.access.key_file) (needs.file ∷ []) needs.file (inl refl))

target_named : (command : Command) → IsIn (target_of command) (files_named (Ok command))
target_named (Ls access file group recursive flat ids) = opened_target (needs_of (Ls access file group recursive flat ids))
target_named (Show access file entry clear all attachments names totp at) = opened_target (needs_of (Show access file entry clear all attachments names totp at))
target_named (History access file entry) = opened_target (needs_of (History access file entry))
target_named (Search access file term) = opened_target (needs_of (Search access file term))
target_named (Add access file entry asked) = opened_target (needs_of (Add access file entry asked))
target_named (Edit access file entry asked further) = opened_target (needs_of (Edit access file entry asked further))
target_named (Restore access file entry version) = opened_target (needs_of (Restore access file entry version))
target_named (ExportAttachment access file entry name None) = opened_target (needs_of (ExportAttachment access file entry name None))
target_named (ExportAttachment access file entry name (Some to)) = inr (opened_target (needs_of (ExportAttachment access file entry name (Some to))))
target_named (ImportAttachment access file entry name source replaces) =
    let needs = needs_of (ImportAttachment access file entry name source replaces) in
    in_front (files_of needs) (source ∷ []) file (opened_target needs)
target_named (RemoveAttachment access file entry name) = opened_target (needs_of (RemoveAttachment access file entry name))
target_named (Move access file node group) = opened_target (needs_of (Move access file node group))
target_named (Remove access file entry) = opened_target (needs_of (Remove access file entry))
target_named (MakeGroup access file group) = opened_target (needs_of (MakeGroup access file group))
target_named (RemoveGroup access file group) = opened_target (needs_of (RemoveGroup access file group))
target_named (Merge access file names from same dry details) = opened_target (needs_of (Merge access file names from same dry details))
target_named (Import access format source from file) = inr (inl refl)
target_named (Create access file name cipher kdf) = inl refl
target_named (Export access format file) = opened_target (needs_of (Export access format file))
target_named (EditFile access file change) = in_front (database_files access file) (new_key_files change.key_file) file (in_back (key_files access.key_file) (file ∷ []) file (inl refl))
target_named (Info access file) = opened_target (needs_of (Info access file))

exported_named : (command : Command) (other : List ℕ) → exported_to command ≡ Some other → IsIn other (files_named (Ok command))
exported_named (Ls access file group recursive flat ids) other is = never other is
exported_named (Show access file entry clear all attachments names totp at) other is = never other is
exported_named (History access file entry) other is = never other is
exported_named (Search access file term) other is = never other is
exported_named (Add access file entry asked) other is = never other is
exported_named (Edit access file entry asked further) other is = never other is
exported_named (Restore access file entry version) other is = never other is
exported_named (ExportAttachment access file entry name None) other is = never other is
exported_named (ExportAttachment access file entry name (Some to)) other is = inl (same_Some to other is)
exported_named (ImportAttachment access file entry name source replaces) other is = never other is
exported_named (RemoveAttachment access file entry name) other is = never other is
exported_named (Move access file node group) other is = never other is
exported_named (Remove access file entry) other is = never other is
exported_named (MakeGroup access file group) other is = never other is
exported_named (RemoveGroup access file group) other is = never other is
exported_named (Merge access file names from same dry details) other is = never other is
exported_named (Import access format source from file) other is = never other is
exported_named (Create access file name cipher kdf) other is = never other is
exported_named (Export access format file) other is = never other is
exported_named (EditFile access file change) other is = never other is
exported_named (Info access file) other is = never other is

target_in : (command : Command) (file : NewFile) → IsTarget (targets_of command) (Some file) → IsIn file.name (files_named (Ok command))
target_in command file (inl is) = subst (λ (n : List ℕ). IsIn n (files_named (Ok command))) (sym is) (target_named command)
target_in command file (inr is) = exported_named command file.name is

ended_file : (left : List ℕ) (answer : Result Ending Refusal) (dice : List ℕ) → (ended left answer dice).file ≡ file_in answer
ended_file left (Ok ending) dice = refl
ended_file left (Err refusal) dice = refl

-- a password is written to no file
password_file : (profile : PasswordProfile) (dice : List ℕ) → file_in (password_answer profile dice).answer ≡ None
unfolding password_answer
password_file profile dice = of (generated profile.alphabet profile.length dice).answer (generated profile.alphabet profile.length dice).left
  where
    of : (answer : Result (List ℕ) Refusal) (left : List ℕ) → file_in (after_left answer left (λ password left. with_left (Ok (printed_password password)) left)).answer ≡ None
    of (Ok password) left = refl
    of (Err refusal) left = refl

-- nor is the report of a test
test_file : (count : ℕ) (dice : List ℕ) → file_in (test_answer count dice).answer ≡ None
unfolding test_answer
test_file count dice = of (self_test count)
  where
    of : (answer : Result (List ℕ) Refusal) → file_in (printed answer) ≡ None
    of (Ok text) = refl
    of (Err refusal) = refl

standalone_file : (standalone : Standalone) (dice : List ℕ) → file_in (standalone_answer standalone dice).answer ≡ None
standalone_file (Password profile) dice = password_file profile dice
standalone_file (SelfTest count) dice = test_file count dice

named_by : (words : List (List ℕ)) (time : ℕ) (world : World) (file : NewFile) → (standalone : Option Standalone)
    → file_in (standalone_or_command standalone words time world).answer ≡ Some file → IsIn file.name (files_named (command_of words))
unfolding command_answer
named_by words time world file (Some standalone) has = never file (sym (standalone_file standalone world.dice) ∙ has)
named_by words time world file None has = of (task_of words time world.input world.files) refl has
  where
    of : (t : Result Task Refusal) → task_of words time world.input world.files ≡ t → file_in (after_left t world.dice (carried_out time)).answer ≡ Some file → IsIn file.name (files_named (command_of words))
    of (Err refusal) is h = never file h
    of (Ok task) is h =
        let command = (is_task words time world task is).is_command in
        let target : IsTarget (targets_of task.command) (Some file) = subst (λ (f : Option NewFile). IsTarget (targets_of task.command) f) h (carried_name time task world.dice) in
        subst (λ (c : Result Command Refusal). IsIn file.name (files_named c)) (sym command) (target_in task.command file target)

named_in : (words : List (List ℕ)) (time : ℕ) (world : World) (file : NewFile) → (page : Option (List ℕ)) → file_in (page_or_answer page words time world).answer ≡ Some file
    → IsIn file.name (files_named (command_of words))
named_in words time world file (Some page) has = never file has
named_in words time world file None has = named_by words time world file (standalone_of words) has

pub only_named_is_written : OnlyNamedIsWritten
only_named_is_written words time world file is =
    named_in words time world file (page_of words)
    (sym (ended_file (left_of words world.input) (answer_of words time world).answer (answer_of words time world).left) ∙ is)
