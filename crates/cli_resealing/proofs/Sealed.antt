-- Whether such a database is sealed.
use Rattle.std.proofs.Common.{◌≡◌, ℕ, List, [], refl, sym, ◌∙◌, ap, true, Option, Some, None, Result, Ok, Err}
use Rattle.std.specs.Prelude.{is_some, not, option_map}
use Rattle.outside_core.specs.Results.{◌>>=◌}
use Rattle.vault_model.specs.Tree.{BareDoc}
use Rattle.kdbx_frame.specs.declared.sealings.Sealing.{Sealing}
use Rattle.kdbx_frame.specs.declared.settings.Settings.{Settings}
use Rattle.kdbx_settings.specs.declared.changing.SettingsChange.{SettingsChange}
use Rattle.cli_messages.specs.declared.answers.Refusal.{Refusal}
use Rattle.cli_needs.specs.Needs.{CreateNeeds, Needs}
use Rattle.cli_needs.specs.declared.command.FileChange.{FileChange}
use Rattle.cli_lines.specs.Lines.{Lines}
use Rattle.cli_databases.specs.CliFiles.Files.{Opened}
use Rattle.cli_importing.proofs.Sealings.{sealed_anew}
use Rattle.cli_resealing.specs.Asked.{asked_settings, resealed, with_resealed, with_settings}
use Rattle.cli_resealing.specs.Edited.{key_made, settings_in, under_key}
use Rattle.cli_resealing.specs.Held.{SomeCreated, SomeEdited}

settled : (composite : List ℕ) (r : Result Settings Refusal) (sealing : Option Sealing)
    → ◌≡◌ {A = Result (Option Sealing) Refusal} (r >>= λ settings. Ok (with_settings composite settings)) (Ok sealing) → is_some sealing ≡ true
settled composite (Ok settings) sealing h =
    let is : with_settings composite settings ≡ sealing = cc h in
    ap is_some (sym is)
settled composite (Err refusal) sealing h = cc

-- A file is sealed after other settings were asked for where it was before.
resealed_so : (file : List ℕ) (change : SettingsChange) (doc : BareDoc) (before sealing : Option Sealing) → resealed file change doc before ≡ Ok sealing
    → is_some sealing ≡ is_some before
resealed_so file change doc None sealing h =
    let is : ◌≡◌ {A = Option Sealing} None sealing = cc h in
    ap is_some (sym is)
resealed_so file change doc (Some before) sealing h = settled before.composite _ sealing h

by_parts : (doc : BareDoc) (r : Result (Option Sealing) Refusal) (now : Opened)
    → ◌≡◌ {A = Result Opened Refusal} (r >>= λ sealing. Ok (record { doc = doc; sealing = sealing; passed_over = [] })) (Ok now) → r ≡ Ok now.sealing
by_parts doc (Ok sealing) now h =
    let is : ◌≡◌ {A = Opened} (record { doc = doc; sealing = sealing; passed_over = [] }) now = cc h in
    ap (λ (o : Opened). Ok o.sealing) is
by_parts doc (Err refusal) now h = cc

stays_sealed : (file : List ℕ) (change : SettingsChange) (before now : Opened) → with_resealed file change before ≡ Ok now → is_some now.sealing ≡ is_some before.sealing
stays_sealed file change before now h =
    resealed_so file change before.doc before.sealing now.sealing (by_parts before.doc (resealed file change before.doc before.sealing) now h)

-- An empty database is sealed exactly where it is to be no plain document.
pub sealed_created : (create : CreateNeeds) (lines : Lines) (time : ℕ) (opened : Opened) → SomeCreated create lines time opened
    → is_some opened.sealing ≡ not create.access.plain
sealed_created create lines time opened h =
    stays_sealed create.file (asked_settings create.cipher create.kdf None) (record { doc = opened.doc; sealing = h.sealing; passed_over = [] }) opened h.changed
    ∙ sealed_anew create.access.plain create.access.key_file lines.password h.sealing h.sealed

rekeyed : List ℕ → Sealing → Sealing
rekeyed composite s = record { settings = s.settings; composite = composite }

still_sealed : (composite : List ℕ) (o : Opened) → is_some o.sealing ≡ true → is_some (under_key composite o).sealing ≡ true
unfolding rekeyed
still_sealed composite o h = by o.sealing h
  where
    by : (sealing : Option Sealing) → is_some sealing ≡ true → is_some (option_map (rekeyed composite) sealing) ≡ true
    by (Some sealing) h = refl
    by None h = cc

-- A file that is changed stays sealed.
pub sealed_edited : (needs : Needs) (change : FileChange) (lines : Lines) (opened : Opened) → SomeEdited needs change lines opened → is_some opened.sealing ≡ true
sealed_edited needs change lines opened h =
    let made = key_made change lines h.changed.new in
    stays_sealed needs.file (settings_in change) (under_key made h.before) opened h.changed.changed
    ∙ still_sealed made h.before (ap (λ (o : Opened). is_some o.sealing) (sym h.sealed.sealed.1.1))
