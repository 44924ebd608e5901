-- A file that is not opened, as the refusal of its database.
use Rattle.std.proofs.Common.{◌≡◌, ℕ, List, sym, ◌∙◌, ap, Result, Err}
use Rattle.std.specs.FinMap as finmap
use Rattle.outside_core.specs.Files.{FileMap}
use Rattle.outside_core.specs.Results.{Fails}
use Rattle.secret_core.specs.declared.files.ReadFail.TheVariants as read
use Rattle.doc_forms.specs.declared.fails.DocFail.TheVariants as doc
use Rattle.cli_needs.specs.KdbxParts.declared.fail.FrameFail.TheVariants as frame
use Rattle.kdbx_open.specs.Files.{opening_of}
use Rattle.kdbx_open.specs.Results.{meaning_from_store}
use Rattle.kdbx_open.specs.declared.fail.OpenFail.{OpenFail}
use Rattle.kdbx_open.specs.declared.fail.OpenFail.TheVariants as sealed
use Rattle.cli_messages.specs.Messages.{refusal_of, Refuses}
use Rattle.cli_messages.specs.Phases.{IsFault, IsMemoryStop, Stops}
use Rattle.cli_messages.specs.declared.answers.Refusal.{Refusal}
use Rattle.cli_messages.specs.declared.answers.Stop.{Stop}
use Rattle.cli_messages.specs.declared.answers.Stop.TheVariants.{Refused, FileFault, InputFault, NoMemory}
use Rattle.cli_files.specs.Files.{Opened}
use Rattle.cli_databases.specs.Databases.{IsUnopened, held_under, open_answer, vault_or_refusal}

pub refused_so : (stop : Stop) (refusal : Refusal) (defined : Result Opened Refusal) → Refuses stop refusal → defined ≡ Err refusal → Stops stop defined
refused_so (Refused given) refusal defined h is = is ∙ ap Err (sym h)
refused_so (FileFault name) refusal defined h is = absurd h
refused_so InputFault refusal defined h is = absurd h
refused_so NoMemory refusal defined h is = tt

at_fault : (stop : Stop) (name : List ℕ) (defined : Result Opened Refusal) → IsFault stop name → Stops stop defined
at_fault (Refused given) name defined h = absurd h
at_fault (FileFault given) name defined h = tt
at_fault InputFault name defined h = absurd h
at_fault NoMemory name defined h = tt

pub without_memory : (stop : Stop) (defined : Result Opened Refusal) → IsMemoryStop stop → Stops stop defined
without_memory (Refused given) defined h = absurd h
without_memory (FileFault name) defined h = absurd h
without_memory InputFault defined h = absurd h
without_memory NoMemory defined h = tt

pub unopened_under : (fail : OpenFail) (stop : Stop) (name : List ℕ) (files : FileMap) (composite : List ℕ) → IsUnopened fail name stop
    → Fails (meaning_from_store fail) (opening_of (finmap.get files name) composite) → Stops stop (held_under name files composite)
unfolding held_under
unopened_under (sealed.File read.FileFault) stop name files composite h is = at_fault stop name (vault_or_refusal name composite (opening_of (finmap.get files name) composite)) h
unopened_under (sealed.File read.NoMemory) stop name files composite h is = absurd is
unopened_under (sealed.Frame frame.NoMemory) stop name files composite h is = absurd is
unopened_under (sealed.Doc doc.NoMemory) stop name files composite h is = absurd is
unopened_under sealed.NoMemory stop name files composite h is = without_memory stop (vault_or_refusal name composite (opening_of (finmap.get files name) composite)) h
unopened_under fail stop name files composite h is =
    refused_so stop (refusal_of (open_answer fail) name) (vault_or_refusal name composite (opening_of (finmap.get files name) composite)) h
    (ap (vault_or_refusal name composite) is)
