-- What such a database is and what its files hold, both ways.
use Rattle.std.proofs.Common.{◌≡◌, ℕ, List, [], sym, ◌∙◌, ap, subst, false, Option, Some, None, Result, Ok, Err}
use Rattle.std.specs.FinMap as finmap
use Rattle.outside_core.specs.Files.{FileMap}
use Rattle.outside_core.specs.Results.{◌>>=◌}
use Rattle.vault_model.specs.Tree.{BareDoc}
use Rattle.kdbx_frame.specs.declared.sealings.Sealing.{Sealing}
use Rattle.kdbx_settings.specs.declared.changing.SettingsChange.{SettingsChange}
use Rattle.cli_messages.specs.declared.answers.Refusal.{Refusal}
use Rattle.cli_needs.specs.Needs.{CreateNeeds, Needs}
use Rattle.cli_needs.specs.declared.command.FileChange.{FileChange}
use Rattle.cli_needs.specs.declared.command.KeyFileChange.{KeyFileChange}
use Rattle.cli_needs.specs.declared.command.KeyFileChange.TheVariants as key_file
use Rattle.cli_lines.specs.Lines.{Lines}
use Rattle.cli_databases.specs.CliFiles.Files.{Opened, key_of}
use Rattle.cli_databases.specs.CliFiles.Held.{GivesKey}
use Rattle.cli_databases.proofs.CliFiles.HeldKeys.{in_turn, key_given, key_held}
use Rattle.cli_databases.specs.Databases.{sealed_in}
use Rattle.cli_databases.specs.Held.{IsSealed}
use Rattle.cli_databases.proofs.HeldFiles.{database_given, database_held}
use Rattle.cli_importing.specs.Imports.{at_stamp, refuse_file, sealing_of}
use Rattle.cli_importing.proofs.HeldImports.{absent_by, in_time, sealing_given, sealing_held, stamped}
use Rattle.cli_resealing.specs.Asked.{asked_settings, resealed, with_resealed}
use Rattle.cli_resealing.specs.Created.{created_of, empty_document, undrawn_id}
use Rattle.cli_resealing.specs.Edited.{changed_of, edited_of, key_after, key_made, settings_in, under_key}
use Rattle.cli_resealing.specs.Held.{GivesKeyAfter, HoldsCreated, HoldsEdited}

-- ---- how a file is sealed

-- The document stays.
same_by : (doc : BareDoc) (r : Result (Option Sealing) Refusal) (now : Opened)
    → ◌≡◌ {A = Result Opened Refusal} (r >>= λ sealing. Ok (record { doc = doc; sealing = sealing; passed_over = [] })) (Ok now) → now.doc ≡ doc
same_by doc (Ok sealing) now h =
    let is : ◌≡◌ {A = Opened} (record { doc = doc; sealing = sealing; passed_over = [] }) now = cc h in
    ap (λ (o : Opened). o.doc) (sym is)
same_by doc (Err refusal) now h = cc

pub same_document : (file : List ℕ) (change : SettingsChange) (before now : Opened) → with_resealed file change before ≡ Ok now → now.doc ≡ before.doc
same_document file change before now h = same_by before.doc (resealed file change before.doc before.sealing) now h

-- ---- an empty database

pub created_held : (create : CreateNeeds) (lines : Lines) (time : ℕ) (files : FileMap) (opened : Opened)
    → created_of create lines time files ≡ Ok opened → HoldsCreated create lines time files opened
unfolding created_of
created_held create lines time files opened h =
    let empty = empty_document create.name undrawn_id time in
    let f = in_turn (refuse_file create.file (finmap.get files create.file)) _ opened h in
    let s = in_turn (sealing_of create.access.plain create.access.key_file lines.password files) _ opened f.1.1 in
    let d = in_turn (at_stamp create.file time (Ok empty))
    (λ doc. with_resealed create.file (asked_settings create.cipher create.kdf None) (record { doc = doc; sealing = s.0; passed_over = [] })) opened s.1.1 in
    let t = in_time create.file time (Ok empty) d.0 d.1.0 in
    let is : empty ≡ d.0 = cc t.1 in
    let same = same_document create.file (asked_settings create.cipher create.kdf None) (record { doc = d.0; sealing = s.0; passed_over = [] }) opened d.1.1 in
    record {
      in_time = t.0;
      is_empty = same ∙ sym is;
      absent = absent_by create.file (finmap.get files create.file) f.0 f.1.0;
      sealing = s.0;
      sealed = sealing_held create.access.plain create.access.key_file lines.password files s.0 s.1.0;
      changed = subst (λ (doc : BareDoc). with_resealed create.file (asked_settings create.cipher create.kdf None) (record { doc = doc; sealing = s.0; passed_over = [] }) ≡ Ok opened) (sym same) d.1.1;
    }

pub created_given : (create : CreateNeeds) (lines : Lines) (time : ℕ) (files : FileMap) (opened : Opened)
    → HoldsCreated create lines time files opened → created_of create lines time files ≡ Ok opened
unfolding created_of
created_given create lines time files opened h =
    let asked = asked_settings create.cipher create.kdf None in
    let empty = empty_document create.name undrawn_id time in
    let next = at_stamp create.file time (Ok empty) in
    ap (λ r. r >>= λ u. sealing_of create.access.plain create.access.key_file lines.password files >>= λ sealing. next >>= λ doc. with_resealed create.file asked (record { doc = doc; sealing = sealing; passed_over = [] }))
    (ap (refuse_file create.file) h.absent)
    ∙ ap (λ r. r >>= λ sealing. next >>= λ doc. with_resealed create.file asked (record { doc = doc; sealing = sealing; passed_over = [] }))
    (sealing_given create.access.plain create.access.key_file lines.password files h.sealing h.sealed)
    ∙ ap (λ r. r >>= λ doc. with_resealed create.file asked (record { doc = doc; sealing = h.sealing; passed_over = [] }))
    (stamped create.file time (Ok empty) h.in_time ∙ ap Ok (sym h.is_empty))
    ∙ h.changed

-- ---- a file that is changed

-- What a command asks for, of a sealed file.
sealed_needs : Needs → Needs
sealed_needs needs = record needs { access = record needs.access { plain = false } }

-- The same key of a key file.
one_key : (key_file : Option (List ℕ)) (files : FileMap) (one other : Option (List ℕ)) → key_of key_file files ≡ Ok one → GivesKey key_file files other → one ≡ other
one_key key_file files one other h g =
    let is : ◌≡◌ {A = Result (Option (List ℕ)) Refusal} (Ok one) (Ok other) = sym h ∙ key_given key_file files other g in
    cc is

after_held : (change : KeyFileChange) (files : FileMap) (old new : Option (List ℕ)) → key_after change old files ≡ Ok new → GivesKeyAfter change files old new
after_held key_file.Keep files old new h = cc h
after_held (key_file.Set name) files old new h = key_held (Some name) files new h
after_held key_file.Unset files old new h = cc h

after_given : (change : KeyFileChange) (files : FileMap) (old new : Option (List ℕ)) → GivesKeyAfter change files old new → key_after change old files ≡ Ok new
after_given key_file.Keep files old new h = ap Ok (sym h)
after_given (key_file.Set name) files old new h = key_given (Some name) files new h
after_given key_file.Unset files old new h = ap Ok (sym h)

pub edited_held : (needs : Needs) (change : FileChange) (lines : Lines) (files : FileMap) (opened : Opened)
    → edited_of needs change lines files ≡ Ok opened → HoldsEdited needs change lines files opened
unfolding edited_of sealed_needs
edited_held needs change lines files opened h =
    let k = in_turn (key_of needs.access.key_file files) _ opened h in
    let o = in_turn (sealed_in needs.file files lines.password k.0) (λ before. changed_of needs.file change lines k.0 before files) opened k.1.1 in
    let n = in_turn (key_after change.key_file k.0 files)
    (λ new. with_resealed needs.file (settings_in change) (under_key (key_made change lines new) o.0)) opened o.1.1 in
    let sealed : IsSealed needs.access.key_file needs.file lines.password files o.0 =
    database_held (sealed_needs needs) lines.password files o.0
    (ap (λ r. r >>= sealed_in needs.file files lines.password) k.1.0 ∙ o.1.0) in
    record {
      before = o.0;
      sealed = sealed;
      new = n.0;
      gives_new = after_held change.key_file files sealed.key n.0
          (subst (λ (key : Option (List ℕ)). key_after change.key_file key files ≡ Ok n.0)
          (one_key needs.access.key_file files k.0 sealed.key k.1.0 sealed.gives_key) n.1.0);
      changed = n.1.1;
    }

pub edited_given : (needs : Needs) (change : FileChange) (lines : Lines) (files : FileMap) (opened : Opened)
    → HoldsEdited needs change lines files opened → edited_of needs change lines files ≡ Ok opened
unfolding edited_of sealed_needs
edited_given needs change lines files opened h =
    let s = h.sealed in
    let key = key_given needs.access.key_file files s.key s.gives_key in
    let sealed : sealed_in needs.file files lines.password s.key ≡ Ok h.before =
    sym (ap (λ r. r >>= sealed_in needs.file files lines.password) key)
    ∙ database_given (sealed_needs needs) lines.password files h.before s in
    ap (λ r. r >>= λ old. sealed_in needs.file files lines.password old >>= λ before. changed_of needs.file change lines old before files) key
    ∙ ap (λ r. r >>= λ before. changed_of needs.file change lines s.key before files) sealed
    ∙ ap (λ r. r >>= λ new. with_resealed needs.file (settings_in change) (under_key (key_made change lines new) h.before))
    (after_given change.key_file files s.key h.new h.gives_new)
    ∙ h.changed
