-- A source that is not read, as the refusal of its document.
use Rattle.std.proofs.Common.{◌≡◌, ◌≢◌, ◌-◌, ℕ, List, length, refl, sym, ◌∙◌, ap, subst, arith, Result, Err}
use Rattle.std.specs.List.{slice_range}
use Rattle.std.proofs.lemmas.List.{take_all}
use Rattle.bitwarden_forms.specs.Refusals as bitwarden_reader
use Rattle.bitwarden_forms.specs.declared.fails.BitwardenFail.{BitwardenFail}
use Rattle.bitwarden_forms.specs.declared.fails.BitwardenFail.TheVariants as bitwarden
use Rattle.outside_core.specs.Results.{Fails}
use Rattle.vault_model.specs.Tree.{BareDoc}
use Rattle.doc_forms.specs.Documents.{DocumentAndHash}
use Rattle.doc_forms.specs.Refusals as reader
use Rattle.doc_forms.specs.declared.fails.DocFail.{DocFail}
use Rattle.doc_forms.specs.declared.fails.DocFail.TheVariants as doc
use Rattle.psafe_file.specs.Results as safe_reader
use Rattle.psafe_file.specs.declared.fails.PsafeFail.{PsafeFail}
use Rattle.psafe_file.specs.declared.fails.PsafeFail.TheVariants as safe
use Rattle.table_reading.specs.Refusals as table_reader
use Rattle.table_reading.specs.declared.fails.TableFail.{TableFail}
use Rattle.table_reading.specs.declared.fails.TableFail.TheVariants as table
use Rattle.cli_messages.specs.Messages.{Refuses, refusal_of}
use Rattle.cli_messages.specs.Phases.{IsMemoryStop, Stops}
use Rattle.cli_messages.specs.declared.answers.Reason.{Reason}
use Rattle.cli_messages.specs.declared.answers.Refusal.{Refusal}
use Rattle.cli_messages.specs.declared.answers.Stop.{Stop}
use Rattle.cli_messages.specs.declared.answers.Stop.TheVariants.{Refused, FileFault, InputFault, NoMemory}
use Rattle.cli_files.specs.Answers.{document_answer}
use Rattle.cli_importing.specs.Answers.{IsBitwardenStop, IsDocumentStop, IsSafeStop, IsTableStop, bitwarden_answer, safe_answer, table_answer}
use Rattle.cli_importing.specs.Imports.{bitwarden_or_refusal, plain_or_refusal, safe_or_refusal, table_or_refusal, with_passed}

-- Bytes that are lent from the first to the last.
pub lent_whole : (bytes lent : List ℕ) (n : ℕ) → lent ≡ slice_range bytes 0 n → n ≡ length bytes → lent ≡ bytes
lent_whole bytes lent n is whole = is ∙ take_all (n - 0) bytes (omega (arith, whole))

refused_so : (stop : Stop) (refusal : Refusal) (defined : Result BareDoc Refusal) → Refuses stop refusal → defined ≡ Err refusal → Stops stop defined
refused_so (Refused given) refusal defined h is = is ∙ ap Err (sym h)
refused_so (FileFault name) refusal defined h is = absurd h
refused_so InputFault refusal defined h is = absurd h
refused_so NoMemory refusal defined h is = tt

without_memory : (stop : Stop) (defined : Result BareDoc Refusal) → IsMemoryStop stop → Stops stop defined
without_memory (Refused given) defined h = absurd h
without_memory (FileFault name) defined h = absurd h
without_memory InputFault defined h = absurd h
without_memory NoMemory defined h = tt

-- A document that is refused gives no source.
pub source_refused : (names : List (List ℕ)) (stop : Stop) (made : Result BareDoc Refusal) → Stops stop made → Stops stop (with_passed names made)
source_refused names (Refused given) made h = ap (with_passed names) h
source_refused names (FileFault name) made h = tt
source_refused names InputFault made h = tt
source_refused names NoMemory made h = tt

-- ---- plain documents

-- It is refused as is defined.
pub document_refused : (why : DocFail) (stop : Stop) (name : List ℕ) (r : Result DocumentAndHash DocFail) → IsDocumentStop why name stop → Fails (reader.meaning_of why) r
    → Stops stop (plain_or_refusal name r)
document_refused doc.NoMemory stop name r h is = without_memory stop (plain_or_refusal name r) h
document_refused why stop name r h is = refused_so stop (refusal_of (document_answer why) name) (plain_or_refusal name r) h (ap (plain_or_refusal name) is)

document_stop_by : (why : DocFail) (stop : Stop) (name : List ℕ) → why ≢ doc.NoMemory → Refuses stop (refusal_of (document_answer why) name) → IsDocumentStop why name stop
document_stop_by doc.NoMemory stop name other h = absurd (other refl)
document_stop_by why stop name other h = h

-- What is refused for another reason than memory.
pub document_stop_for : (why : DocFail) (stop : Stop) (name : List ℕ) (reason : Reason) → reason ≡ document_answer why → why ≢ doc.NoMemory
    → Refuses stop (refusal_of reason name) → IsDocumentStop why name stop
document_stop_for why stop name reason is other h = document_stop_by why stop name other (subst (λ (x : Reason). Refuses stop (refusal_of x name)) is h)

-- ---- files of Password Safe

-- It is refused as is defined.
pub safe_refused : (why : PsafeFail) (stop : Stop) (name : List ℕ) (r : Result BareDoc PsafeFail) → IsSafeStop why name stop → Fails (safe_reader.meaning_of why) r
    → Stops stop (safe_or_refusal name r)
safe_refused safe.NoMemory stop name r h is = without_memory stop (safe_or_refusal name r) h
safe_refused why stop name r h is = refused_so stop (refusal_of (safe_answer why) name) (safe_or_refusal name r) h (ap (safe_or_refusal name) is)

safe_stop_by : (why : PsafeFail) (stop : Stop) (name : List ℕ) → why ≢ safe.NoMemory → Refuses stop (refusal_of (safe_answer why) name) → IsSafeStop why name stop
safe_stop_by safe.NoMemory stop name other h = absurd (other refl)
safe_stop_by why stop name other h = h

-- What is refused for another reason than memory.
pub safe_stop_for : (why : PsafeFail) (stop : Stop) (name : List ℕ) (reason : Reason) → reason ≡ safe_answer why → why ≢ safe.NoMemory
    → Refuses stop (refusal_of reason name) → IsSafeStop why name stop
safe_stop_for why stop name reason is other h = safe_stop_by why stop name other (subst (λ (x : Reason). Refuses stop (refusal_of x name)) is h)

-- ---- tables

-- It is refused as is defined.
pub table_refused : (why : TableFail) (stop : Stop) (name : List ℕ) (r : Result BareDoc TableFail) → IsTableStop why name stop → Fails (table_reader.meaning_of why) r
    → Stops stop (table_or_refusal name r)
table_refused table.NoMemory stop name r h is = without_memory stop (table_or_refusal name r) h
table_refused why stop name r h is = refused_so stop (refusal_of (table_answer why) name) (table_or_refusal name r) h (ap (table_or_refusal name) is)

table_stop_by : (why : TableFail) (stop : Stop) (name : List ℕ) → why ≢ table.NoMemory → Refuses stop (refusal_of (table_answer why) name) → IsTableStop why name stop
table_stop_by table.NoMemory stop name other h = absurd (other refl)
table_stop_by why stop name other h = h

-- What is refused for another reason than memory.
pub table_stop_for : (why : TableFail) (stop : Stop) (name : List ℕ) (reason : Reason) → reason ≡ table_answer why → why ≢ table.NoMemory
    → Refuses stop (refusal_of reason name) → IsTableStop why name stop
table_stop_for why stop name reason is other h = table_stop_by why stop name other (subst (λ (x : Reason). Refuses stop (refusal_of x name)) is h)

-- ---- exports of Bitwarden

-- It is refused as is defined.
pub bitwarden_refused : (why : BitwardenFail) (stop : Stop) (name : List ℕ) (r : Result BareDoc BitwardenFail) → IsBitwardenStop why name stop → Fails (bitwarden_reader.meaning_of why) r
    → Stops stop (bitwarden_or_refusal name r)
bitwarden_refused bitwarden.NoMemory stop name r h is = without_memory stop (bitwarden_or_refusal name r) h
bitwarden_refused why stop name r h is = refused_so stop (refusal_of (bitwarden_answer why) name) (bitwarden_or_refusal name r) h (ap (bitwarden_or_refusal name) is)

bitwarden_stop_by : (why : BitwardenFail) (stop : Stop) (name : List ℕ) → why ≢ bitwarden.NoMemory → Refuses stop (refusal_of (bitwarden_answer why) name) → IsBitwardenStop why name stop
bitwarden_stop_by bitwarden.NoMemory stop name other h = absurd (other refl)
bitwarden_stop_by why stop name other h = h

-- What is refused for another reason than memory.
pub bitwarden_stop_for : (why : BitwardenFail) (stop : Stop) (name : List ℕ) (reason : Reason) → reason ≡ bitwarden_answer why → why ≢ bitwarden.NoMemory
    → Refuses stop (refusal_of reason name) → IsBitwardenStop why name stop
bitwarden_stop_for why stop name reason is other h = bitwarden_stop_by why stop name other (subst (λ (x : Reason). Refuses stop (refusal_of x name)) is h)
