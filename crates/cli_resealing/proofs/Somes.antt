-- What is known of such databases, whatever the store reports.
use Rattle.std.proofs.Common.{◌≡◌, ℕ, List, [], sym, ◌∙◌, ap, subst, Option, None, Result, Ok, Err}
use Rattle.std.specs.Prelude.{IfOk}
use Rattle.vault_model.specs.Tree.{BareDoc}
use Rattle.vault_model.specs.declared.forms.FileVersion.{FileVersion}
use Rattle.kdbx_frame.specs.declared.sealings.Sealing.{Sealing}
use Rattle.kdbx_frame.specs.declared.settings.Cipher.{Cipher}
use Rattle.kdbx_settings.specs.declared.changing.SettingsChange.{SettingsChange}
use Rattle.cli_messages.specs.Phases.{Returns}
use Rattle.cli_messages.specs.declared.answers.Stop.{Stop}
use Rattle.cli_needs.specs.Needs.{CreateNeeds, Needs}
use Rattle.cli_needs.specs.declared.command.FileChange.{FileChange}
use Rattle.cli_needs.specs.declared.command.KdfAsked.{KdfAsked}
use Rattle.cli_lines.specs.Lines.{Lines}
use Rattle.cli_databases.specs.CliFiles.Files.{Opened}
use Rattle.cli_databases.specs.CliFiles.SeenOpened.{opened_seen}
use Rattle.cli_databases.specs.CliFiles.SomeFiles.{SomeKey}
use Rattle.cli_databases.specs.CliFiles.declared.documents.Opened as memory
use Rattle.cli_databases.specs.SomeFiles.{IsSealedUnder}
use Rattle.cli_importing.specs.Held.{SomeSealing}
use Rattle.cli_importing.specs.Imports.{at_stamp}
use Rattle.cli_importing.proofs.HeldImports.{in_time}
use Rattle.cli_resealing.specs.Asked.{asked_settings, with_resealed}
use Rattle.cli_resealing.specs.Created.{empty_document, undrawn_id}
use Rattle.cli_resealing.specs.Held.{SomeChanged, SomeCreated, SomeEdited}
use Rattle.cli_resealing.proofs.Helds.{same_document}
use Rattle.key_core.specs.Keys.{composite_key}

-- The settings that are asked for, part by part.
pub asked_same : (cipher cipher' : Option Cipher) (kdf kdf' : Option KdfAsked) (version version' : Option FileVersion) → cipher ≡ cipher' → kdf ≡ kdf' → version ≡ version'
    → asked_settings cipher kdf version ≡ asked_settings cipher' kdf' version'
asked_same cipher cipher' kdf kdf' version version' c k v =
    ap (λ x. asked_settings x kdf version) c ∙ ap (λ x. asked_settings cipher' x version) k ∙ ap (λ x. asked_settings cipher' kdf' x) v

pub some_created : (create : CreateNeeds) (lines : Lines) (time : ℕ) (doc : BareDoc) (file : List ℕ) (password : Option (List ℕ)) (sealing : Option Sealing) (asked : SettingsChange)
    (result : Result memory.Opened Stop) → file ≡ create.file → at_stamp file time (Ok (empty_document create.name undrawn_id time)) ≡ Ok doc
    → password ≡ lines.password → SomeSealing create.access.plain create.access.key_file password sealing → asked ≡ asked_settings create.cipher create.kdf None
    → Returns opened_seen result (with_resealed file asked (record { doc = doc; sealing = sealing; passed_over = [] }))
    → IfOk result (λ opened. SomeCreated create lines time (opened_seen opened))
some_created create lines time doc file password sealing asked (Err stop) name made line sealed asks h = tt
some_created create lines time doc file password sealing asked (Ok opened) name made line sealed asks h =
    let new = asked_settings create.cipher create.kdf None in
    let t = in_time file time (Ok (empty_document create.name undrawn_id time)) doc made in
    let is : empty_document create.name undrawn_id time ≡ doc = cc t.1 in
    let same = same_document file asked (record { doc = doc; sealing = sealing; passed_over = [] }) (opened_seen opened) h in
    record {
      in_time = t.0;
      is_empty = same ∙ sym is;
      sealing = sealing;
      sealed = subst (λ (p : Option (List ℕ)). SomeSealing create.access.plain create.access.key_file p sealing) line sealed;
      changed = subst (λ (d : BareDoc). with_resealed create.file new (record { doc = d; sealing = sealing; passed_over = [] }) ≡ Ok (opened_seen opened)) (sym same)
          (subst (λ (f : List ℕ). with_resealed f new (record { doc = doc; sealing = sealing; passed_over = [] }) ≡ Ok (opened_seen opened)) name
          (subst (λ (a : SettingsChange). with_resealed file a (record { doc = doc; sealing = sealing; passed_over = [] }) ≡ Ok (opened_seen opened)) asks h));
    }

pub some_edited : (needs : Needs) (change : FileChange) (lines : Lines) (file : List ℕ) (key_file password key kept : Option (List ℕ)) (before : Opened)
    (result : Result memory.Opened Stop) → file ≡ needs.file → key_file ≡ needs.access.key_file → password ≡ lines.password → kept ≡ key → SomeKey key_file key
    → IsSealedUnder (composite_key password key) before
    → IfOk result (λ opened. SomeChanged file change lines kept before (opened_seen opened))
    → IfOk result (λ opened. SomeEdited needs change lines (opened_seen opened))
some_edited needs change lines file key_file password key kept before (Err stop) name names line same some sealed h = tt
some_edited needs change lines file key_file password key kept before (Ok opened) name names line same some sealed h = record {
  before = before;
  sealed = record {
    key = key;
    gives_key = subst (λ (f : Option (List ℕ)). SomeKey f key) names some;
    sealed = subst (λ (p : Option (List ℕ)). IsSealedUnder (composite_key p key) before) line sealed;
  };
  changed = subst (λ (f : List ℕ). SomeChanged f change lines key before (opened_seen opened)) name
      (subst (λ (k : Option (List ℕ)). SomeChanged file change lines k before (opened_seen opened)) same h);
}
