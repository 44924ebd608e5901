-- What an import makes and what its files hold, both ways.
use Rattle.std.proofs.Common.{◌≡◌, ◌≤◌, ℕ, List, refl, sym, ◌∙◌, ap, subst, Bool, true, false, nat_lt, if◌then◌else◌, Option, Some, None, Result, Ok, Err}
use Rattle.std.proofs.lemmas.Bool.{le-ltb, ltb-false}
use Rattle.std.specs.FinMap as finmap
use Rattle.bitwarden_core.specs.Documents.{bitwarden_document}
use Rattle.bitwarden_forms.specs.declared.fails.BitwardenFail.{BitwardenFail}
use Rattle.outside_core.specs.Files.{FileMap}
use Rattle.outside_core.specs.Results.{◌>>=◌}
use Rattle.time_core.specs.Times.{last_stamp}
use Rattle.vault_model.specs.Tree.{BareDoc}
use Rattle.doc_forms.specs.Documents.{DocumentAndHash}
use Rattle.doc_forms.specs.declared.fails.DocFail.{DocFail}
use Rattle.kdbx_frame.specs.declared.sealings.Sealing.{Sealing}
use Rattle.psafe_core.specs.Outcome.{psafe_outcome}
use Rattle.psafe_file.specs.declared.fails.PsafeFail.{PsafeFail}
use Rattle.table_reading.specs.Documents.{csv_document}
use Rattle.table_reading.specs.declared.fails.TableFail.{TableFail}
use Rattle.std.specs.Prelude.{IfOk}
use Rattle.cli_messages.specs.Messages.{refusal_of}
use Rattle.cli_messages.specs.Phases.{Returns}
use Rattle.cli_messages.specs.declared.answers.Stop.{Stop}
use Rattle.cli_messages.specs.declared.answers.Reason.TheVariants.{StampLimit}
use Rattle.cli_messages.specs.declared.answers.Refusal.{Refusal}
use Rattle.cli_needs.specs.Needs.{ImportNeeds}
use Rattle.cli_needs.specs.declared.command.ImportFormat.{ImportFormat}
use Rattle.cli_needs.specs.declared.command.ImportFormat.TheVariants.{Xml, Psafe, Csv, Bitwarden}
use Rattle.cli_lines.specs.Lines.{Lines}
use Rattle.cli_files.specs.Files.{Opened, key_of, plain_document}
use Rattle.cli_files.proofs.HeldKeys.{given, in_turn, key_given, key_held, used}
use Rattle.cli_importing.specs.SeenSource.{source_seen}
use Rattle.cli_importing.specs.declared.sources.Source as memory
use Rattle.cli_importing.specs.Held.{HoldsImport, IsDocumentBy, IsSealingBy, IsSourceBy}
use Rattle.cli_importing.specs.Imports.{Source, at_stamp, bitwarden_or_refusal, document_by, given_password, imported_of, new_sealing, passed_by, plain_or_refusal, refuse_file, safe_or_refusal, sealing_of, source_by, source_of, table_or_refusal, with_passed}

-- ---- documents

plain_by : (name : List ℕ) (r : Result DocumentAndHash DocFail) (doc : BareDoc) → plain_or_refusal name r ≡ Ok doc
    → (read : DocumentAndHash) × ((r ≡ Ok read) × (read.0 ≡ doc))
plain_by name (Ok read) doc h = (read, (refl, cc))
plain_by name (Err why) doc h = cc

safe_by : (name : List ℕ) (r : Result BareDoc PsafeFail) (doc : BareDoc) → safe_or_refusal name r ≡ Ok doc → r ≡ Ok doc
safe_by name (Ok made) doc h = cc
safe_by name (Err why) doc h = cc

table_by : (name : List ℕ) (r : Result BareDoc TableFail) (doc : BareDoc) → table_or_refusal name r ≡ Ok doc → r ≡ Ok doc
table_by name (Ok made) doc h = cc
table_by name (Err why) doc h = cc

bitwarden_by : (name : List ℕ) (r : Result BareDoc BitwardenFail) (doc : BareDoc) → bitwarden_or_refusal name r ≡ Ok doc → r ≡ Ok doc
bitwarden_by name (Ok made) doc h = cc
bitwarden_by name (Err why) doc h = cc

unless_late : (late : Bool) (refusal : Refusal) (made : Result BareDoc Refusal) (doc : BareDoc)
    → (if late then Err refusal else made) ≡ Ok doc → (late ≡ false) × (made ≡ Ok doc)
unless_late true refusal made doc h = cc
unless_late false refusal made doc h = (refl, h)

pub in_time : (name : List ℕ) (time : ℕ) (made : Result BareDoc Refusal) (doc : BareDoc) → at_stamp name time made ≡ Ok doc
    → (time ≤ last_stamp) × (made ≡ Ok doc)
in_time name time made doc h =
    let u = unless_late (nat_lt last_stamp time) (refusal_of StampLimit name) made doc h in
    (ltb-false last_stamp time u.0, u.1)

pub stamped : (name : List ℕ) (time : ℕ) (made : Result BareDoc Refusal) → time ≤ last_stamp → at_stamp name time made ≡ made
stamped name time made h = ap (λ (b : Bool). if b then Err (refusal_of StampLimit name) else made) (le-ltb last_stamp time h)

document_held : (format : ImportFormat) (name : List ℕ) (password : Option (List ℕ)) (time : ℕ) (bytes : List ℕ) (doc : BareDoc)
    → document_by format name password time bytes ≡ Ok doc → IsDocumentBy format password time bytes doc
document_held Xml name password time bytes doc h = plain_by name (plain_document bytes) doc h
document_held Psafe name password time bytes doc h =
    let t = in_time name time (safe_or_refusal name (psafe_outcome bytes (given_password password) time)) doc h in
    (t.0, safe_by name (psafe_outcome bytes (given_password password) time) doc t.1)
document_held Csv name password time bytes doc h =
    let t = in_time name time (table_or_refusal name (csv_document bytes time)) doc h in
    (t.0, table_by name (csv_document bytes time) doc t.1)
document_held Bitwarden name password time bytes doc h =
    let t = in_time name time (bitwarden_or_refusal name (bitwarden_document bytes time)) doc h in
    (t.0, bitwarden_by name (bitwarden_document bytes time) doc t.1)

document_given : (format : ImportFormat) (name : List ℕ) (password : Option (List ℕ)) (time : ℕ) (bytes : List ℕ) (doc : BareDoc)
    → IsDocumentBy format password time bytes doc → document_by format name password time bytes ≡ Ok doc
document_given Xml name password time bytes doc h = ap (plain_or_refusal name) h.1.0 ∙ ap Ok h.1.1
document_given Psafe name password time bytes doc h =
    stamped name time (safe_or_refusal name (psafe_outcome bytes (given_password password) time)) h.0 ∙ ap (safe_or_refusal name) h.1
document_given Csv name password time bytes doc h =
    stamped name time (table_or_refusal name (csv_document bytes time)) h.0 ∙ ap (table_or_refusal name) h.1
document_given Bitwarden name password time bytes doc h =
    stamped name time (bitwarden_or_refusal name (bitwarden_document bytes time)) h.0 ∙ ap (bitwarden_or_refusal name) h.1

passed_with : (names : List (List ℕ)) (made : Result BareDoc Refusal) (source : Source) → with_passed names made ≡ Ok source
    → (made ≡ Ok source.doc) × (source.passed_over ≡ names)
passed_with names (Ok doc) source h =
    let is : ◌≡◌ {A = Source} (record { doc = doc; passed_over = names }) source = cc h in
    (ap (λ (s : Source). Ok s.doc) is, sym (ap (λ (s : Source). s.passed_over) is))
passed_with names (Err why) source h = cc

source_held : (format : ImportFormat) (name : List ℕ) (password : Option (List ℕ)) (time : ℕ) (bytes : List ℕ) (source : Source)
    → source_by format name password time bytes ≡ Ok source → IsSourceBy format password time bytes source
source_held format name password time bytes source h =
    let p = passed_with (passed_by format bytes) (document_by format name password time bytes) source h in
    (document_held format name password time bytes source.doc p.0, p.1)

source_given : (format : ImportFormat) (name : List ℕ) (password : Option (List ℕ)) (time : ℕ) (bytes : List ℕ) (source : Source)
    → IsSourceBy format password time bytes source → source_by format name password time bytes ≡ Ok source
source_given format name password time bytes source h =
    ap (with_passed (passed_by format bytes)) (document_given format name password time bytes source.doc h.0)
    ∙ ap (λ names. Ok (record { doc = source.doc; passed_over = names })) (sym h.1)

-- Bytes that were read are a source so.
pub some_read : (result : Result memory.Source Stop) (format : ImportFormat) (name : List ℕ) (password : Option (List ℕ)) (time : ℕ) (bytes : List ℕ)
    → Returns source_seen result (source_by format name password time bytes)
    → IfOk result (λ source. (b : List ℕ) × IsSourceBy format password time b (source_seen source))
some_read (Ok source) format name password time bytes h = (bytes, source_held format name password time bytes (source_seen source) h)
some_read (Err stop) format name password time bytes h = tt

-- ---- the new file

pub absent_by : (name : List ℕ) (file : Option (List ℕ)) (u : Unit {0}) → refuse_file name file ≡ Ok u → file ≡ None
absent_by name None u h = refl
absent_by name (Some bytes) u h = cc

pub sealing_held : (plain : Bool) (key_file password : Option (List ℕ)) (files : FileMap) (sealing : Option Sealing)
    → sealing_of plain key_file password files ≡ Ok sealing → IsSealingBy plain key_file password files sealing
sealing_held true key_file password files sealing h = cc
sealing_held false key_file password files sealing h =
    let k = in_turn (key_of key_file files) (λ key. Ok (Some (new_sealing password key))) sealing h in
    (k.0, (key_held key_file files k.0 k.1.0, let is : sealing ≡ Some (new_sealing password k.0) = cc k.1.1 in is))

pub sealing_given : (plain : Bool) (key_file password : Option (List ℕ)) (files : FileMap) (sealing : Option Sealing)
    → IsSealingBy plain key_file password files sealing → sealing_of plain key_file password files ≡ Ok sealing
sealing_given true key_file password files sealing h = ap Ok (sym h)
sealing_given false key_file password files sealing h =
    ap (λ r. r >>= λ key. Ok (Some (new_sealing password key))) (key_given key_file files h.0 h.1.0) ∙ ap Ok (sym h.1.1)

-- ---- the database

pub import_held : (import : ImportNeeds) (lines : Lines) (time : ℕ) (files : FileMap) (opened : Opened)
    → imported_of import lines time files ≡ Ok opened → HoldsImport import lines time files opened
unfolding imported_of
import_held import lines time files opened h =
    let d = in_turn (source_of import lines.password time files) _ opened h in
    let f = in_turn (refuse_file import.file (finmap.get files import.file)) _ opened d.1.1 in
    let s = in_turn (sealing_of import.access.plain import.access.key_file lines.more files) (λ sealing. Ok (record { doc = d.0.doc; sealing = sealing; passed_over = d.0.passed_over })) opened f.1.1 in
    let is : ◌≡◌ {A = Opened} (record { doc = d.0.doc; sealing = s.0; passed_over = d.0.passed_over }) opened = cc s.1.1 in
    let u = used import.source files (source_by import.format import.source lines.password time) d.0 (finmap.get files import.source) refl d.1.0 in
    let i = source_held import.format import.source lines.password time u.bytes d.0 u.gives in
    subst (λ (o : Opened). HoldsImport import lines time files o) is
    (record {
      bytes = u.bytes;
      there = u.there;
      is = i.0;
      passed = i.1;
      absent = absent_by import.file (finmap.get files import.file) f.0 f.1.0;
      sealing = sealing_held import.access.plain import.access.key_file lines.more files s.0 s.1.0;
    })

pub import_given : (import : ImportNeeds) (lines : Lines) (time : ℕ) (files : FileMap) (opened : Opened)
    → HoldsImport import lines time files opened → imported_of import lines time files ≡ Ok opened
unfolding imported_of
import_given import lines time files opened h =
    let source : Source = record { doc = opened.doc; passed_over = opened.passed_over } in
    ap (λ r. r >>= λ source. refuse_file import.file (finmap.get files import.file) >>= λ u. sealing_of import.access.plain import.access.key_file lines.more files >>= λ sealing. Ok (record { doc = source.doc; sealing = sealing; passed_over = source.passed_over }))
    (given import.source files (source_by import.format import.source lines.password time) source h.bytes h.there
    (source_given import.format import.source lines.password time h.bytes source (h.is, h.passed)))
    ∙ ap (λ r. r >>= λ u. sealing_of import.access.plain import.access.key_file lines.more files >>= λ sealing. Ok (record { doc = opened.doc; sealing = sealing; passed_over = opened.passed_over }))
    (ap (refuse_file import.file) h.absent)
    ∙ ap (λ r. r >>= λ sealing. Ok (record { doc = opened.doc; sealing = sealing; passed_over = opened.passed_over }))
    (sealing_given import.access.plain import.access.key_file lines.more files opened.sealing h.sealing)
