-- A database that is made or changed, phase after phase.
use Rattle.std.proofs.Common.{◌≡◌, ℕ, List, [], sym, ◌∙◌, ap, subst, Option, None, Result, Ok}
use Rattle.std.specs.FinMap as finmap
use Rattle.outside_core.specs.Files.{FileMap}
use Rattle.outside_core.specs.Results.{◌>>=◌}
use Rattle.kdbx_frame.specs.declared.sealings.Sealing.{Sealing}
use Rattle.kdbx_settings.specs.declared.changing.SettingsChange.{SettingsChange}
use Rattle.vault_model.specs.Tree.{BareDoc}
use Rattle.cli_messages.specs.Phases.{Returns, Stops}
use Rattle.cli_messages.specs.declared.answers.Refusal.{Refusal}
use Rattle.cli_messages.specs.declared.answers.Stop.{Stop}
use Rattle.cli_needs.specs.Needs.{CreateNeeds, Needs}
use Rattle.cli_needs.specs.declared.command.FileChange.{FileChange}
use Rattle.cli_lines.specs.Lines.{Lines}
use Rattle.cli_databases.specs.CliFiles.Files.{Opened, key_of}
use Rattle.cli_databases.specs.CliFiles.SeenOpened.{opened_seen}
use Rattle.cli_databases.specs.CliFiles.declared.documents.Opened as memory
use Rattle.cli_databases.specs.Databases.{sealed_in}
use Rattle.cli_databases.proofs.Phases.{stops_both}
use Rattle.cli_importing.specs.Imports.{at_stamp, refuse_file, sealing_of}
use Rattle.cli_resealing.specs.Asked.{asked_settings, with_resealed}
use Rattle.cli_resealing.specs.Created.{created_of, empty_document, undrawn_id}
use Rattle.cli_resealing.specs.Edited.{changed_of, edited_of}

-- ---- a database that is made

module _ (create : CreateNeeds) (lines : Lines) (time : ℕ) (files : FileMap) (file : List ℕ) (password : Option (List ℕ)) (u : Unit {0})
    (n : file ≡ create.file) (w : password ≡ lines.password) (absent : refuse_file file (finmap.get files file) ≡ Ok u) where
  abbrev made : Option Sealing → BareDoc → Result Opened Refusal
  made sealing doc =
      with_resealed create.file (asked_settings create.cipher create.kdf None) (record { doc = doc; sealing = sealing; passed_over = [] })

  abbrev with_sealing : Option Sealing → Result Opened Refusal
  with_sealing sealing = at_stamp create.file time (Ok (empty_document create.name undrawn_id time)) >>= made sealing

  -- No file has its name.
  created_from : (P : Result Opened Refusal → Type 0)
      → P (sealing_of create.access.plain create.access.key_file lines.password files >>= with_sealing) → P (created_of create lines time files)
  unfolding created_of
  created_from P h =
      subst (λ (r : Result (Unit {0}) Refusal). P (r >>= λ v. sealing_of create.access.plain create.access.key_file lines.password files >>= with_sealing))
      (sym (subst (λ (x : List ℕ). refuse_file x (finmap.get files x) ≡ Ok u) n absent)) h

  -- Its key file is refused.
  pub sealing_refused : (stop : Stop) → Stops stop (sealing_of create.access.plain create.access.key_file password files)
      → Stops stop (created_of create lines time files)
  sealing_refused stop h =
      created_from (Stops stop) (stops_both stop (sealing_of create.access.plain create.access.key_file lines.password files) with_sealing
      (subst (λ (x : Option (List ℕ)). Stops stop (sealing_of create.access.plain create.access.key_file x files)) w h))

  module _ (sealing : Option Sealing) (s : sealing_of create.access.plain create.access.key_file password files ≡ Ok sealing) where
    created_with : (P : Result Opened Refusal → Type 0) → P (with_sealing sealing) → P (created_of create lines time files)
    created_with P h =
        created_from P (subst (λ (r : Result (Option Sealing) Refusal). P (r >>= with_sealing))
        (sym (subst (λ (x : Option (List ℕ)). sealing_of create.access.plain create.access.key_file x files ≡ Ok sealing) w s)) h)

    -- Its moment is refused.
    pub moment_refused : (stop : Stop) → Stops stop (at_stamp file time (Ok (empty_document create.name undrawn_id time)))
        → Stops stop (created_of create lines time files)
    moment_refused stop h =
        created_with (Stops stop) (stops_both stop (at_stamp create.file time (Ok (empty_document create.name undrawn_id time))) (made sealing)
        (subst (λ (x : List ℕ). Stops stop (at_stamp x time (Ok (empty_document create.name undrawn_id time)))) n h))

    -- It is sealed as is asked for.
    pub created_returns : (doc : BareDoc) (asked : SettingsChange) (result : Result memory.Opened Stop)
        → at_stamp file time (Ok (empty_document create.name undrawn_id time)) ≡ Ok doc → asked ≡ asked_settings create.cipher create.kdf None
        → Returns opened_seen result (with_resealed file asked (record { doc = doc; sealing = sealing; passed_over = [] }))
        → Returns opened_seen result (created_of create lines time files)
    created_returns doc asked result d a h =
        created_with (Returns opened_seen result)
        (subst (λ (r : Result BareDoc Refusal). Returns opened_seen result (r >>= made sealing))
        (sym (subst (λ (x : List ℕ). at_stamp x time (Ok (empty_document create.name undrawn_id time)) ≡ Ok doc) n d))
        (subst (λ (x : List ℕ). Returns opened_seen result (with_resealed x (asked_settings create.cipher create.kdf None) (record { doc = doc; sealing = sealing; passed_over = [] }))) n
        (subst (λ (x : SettingsChange). Returns opened_seen result (with_resealed file x (record { doc = doc; sealing = sealing; passed_over = [] }))) a h)))

-- ---- a database whose file is changed

module _ (needs : Needs) (change : FileChange) (lines : Lines) (files : FileMap) (file : List ℕ) (key_file password key : Option (List ℕ))
    (n : file ≡ needs.file) (k : key_file ≡ needs.access.key_file) (w : password ≡ lines.password) (gives : key_of key_file files ≡ Ok key) where
  -- Its key file is read.
  edited_from : (P : Result Opened Refusal → Type 0)
      → P (sealed_in needs.file files lines.password key >>= λ opened. changed_of needs.file change lines key opened files) → P (edited_of needs change lines files)
  unfolding edited_of
  edited_from P h =
      subst (λ (r : Result (Option (List ℕ)) Refusal). P (r >>= λ old. sealed_in needs.file files lines.password old
      >>= λ opened. changed_of needs.file change lines old opened files))
      (sym (ap (λ (x : Option (List ℕ)). key_of x files) (sym k) ∙ gives)) h

  -- Its file is refused.
  pub file_refused : (stop : Stop) → Stops stop (sealed_in file files password key) → Stops stop (edited_of needs change lines files)
  file_refused stop h =
      edited_from (Stops stop) (stops_both stop (sealed_in needs.file files lines.password key) (λ opened. changed_of needs.file change lines key opened files)
      (subst (λ (f : List ℕ). Stops stop (sealed_in f files lines.password key)) n
      (subst (λ (p : Option (List ℕ)). Stops stop (sealed_in file files p key)) w h)))

  -- It is opened, and then changed.
  pub edited_returns : (kept : Option (List ℕ)) (opened : Opened) (result : Result memory.Opened Stop) → kept ≡ key
      → sealed_in file files password key ≡ Ok opened → Returns opened_seen result (changed_of file change lines kept opened files)
      → Returns opened_seen result (edited_of needs change lines files)
  edited_returns kept opened result s o h =
      let is : sealed_in needs.file files lines.password key ≡ Ok opened =
      subst (λ (f : List ℕ). sealed_in f files lines.password key ≡ Ok opened) n
      (subst (λ (p : Option (List ℕ)). sealed_in file files p key ≡ Ok opened) w o) in
      edited_from (Returns opened_seen result)
      (subst (λ (r : Result Opened Refusal). Returns opened_seen result (r >>= λ o. changed_of needs.file change lines key o files)) (sym is)
      (subst (λ (f : List ℕ). Returns opened_seen result (changed_of f change lines key opened files)) n
      (subst (λ (x : Option (List ℕ)). Returns opened_seen result (changed_of file change lines x opened files)) s h)))
