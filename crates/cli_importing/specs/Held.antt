-- What files hold of which an import makes a database, speaking of all their bytes.
use Rattle.std.specs.Prelude.{◌≡◌, ◌≤◌, ℕ, Bool, true, false, List, Option, None, Some, Ok}
use Rattle.std.specs.FinMap as map
use Rattle.bitwarden_core.specs.Documents.{bitwarden_document}
use Rattle.outside_core.specs.Files.{FileMap}
use Rattle.time_core.specs.Times.{last_stamp}
use Rattle.vault_model.specs.Tree.{BareDoc}
use Rattle.doc_forms.specs.Documents.{DocumentAndHash}
use Rattle.kdbx_frame.specs.declared.sealings.Sealing.{Sealing}
use Rattle.psafe_core.specs.Outcome.{psafe_outcome}
use Rattle.table_reading.specs.Documents.{csv_document}
use Rattle.cli_needs.specs.Needs.{ImportNeeds}
use Rattle.cli_needs.specs.declared.command.ImportFormat.{ImportFormat}
use Rattle.cli_needs.specs.declared.command.ImportFormat.TheVariants.{Xml, Psafe, Csv, Bitwarden}
use Rattle.cli_lines.specs.Lines.{Lines}
use Rattle.cli_files.specs.Files.{Opened, plain_document}
use Rattle.cli_files.specs.Held.{GivesKey, IsThere}
use Rattle.cli_files.specs.SomeFiles.{SomeKey}
use Rattle.cli_importing.specs.Imports.{Source, given_password, new_sealing, passed_by}

-- ---- documents

-- Bytes are this document in a format, under the password of the source and at a moment.
abbrev pub IsDocumentBy : ImportFormat → Option (List ℕ) → ℕ → List ℕ → BareDoc → Type 0
IsDocumentBy Xml password time bytes doc =
    (read : DocumentAndHash) × ((plain_document bytes ≡ Ok read) × (read.0 ≡ doc))
IsDocumentBy Psafe password time bytes doc =
    (time ≤ last_stamp) × (psafe_outcome bytes (given_password password) time ≡ Ok doc)
IsDocumentBy Csv password time bytes doc =
    (time ≤ last_stamp) × (csv_document bytes time ≡ Ok doc)
IsDocumentBy Bitwarden password time bytes doc =
    (time ≤ last_stamp) × (bitwarden_document bytes time ≡ Ok doc)

-- Bytes are this source: the document, and the names of the columns that are passed over.
abbrev pub IsSourceBy : ImportFormat → Option (List ℕ) → ℕ → List ℕ → Source → Type 0
IsSourceBy format password time bytes source =
    IsDocumentBy format password time bytes source.doc
    × (source.passed_over ≡ passed_by format bytes)

-- ---- what the files hold

-- A new file is sealed so: under the composite key of the password and the key file, unless it is
-- to be a plain document.
abbrev pub IsSealingBy : Bool → Option (List ℕ) → Option (List ℕ) → FileMap → Option Sealing
    → Type 0
IsSealingBy true key_file password files sealing = sealing ≡ None
IsSealingBy false key_file password files sealing = (key : Option (List ℕ))
    × (GivesKey key_file files key × (sealing ≡ Some (new_sealing password key)))

-- The source is there and within the limit and is the document in its format, and these are its
-- columns that are passed over; no file has the new one's name; and the key file gives the key that
-- the new file is sealed with.
pub record HoldsImport (import : ImportNeeds) (lines : Lines) (time : ℕ) (files : FileMap)
    (opened : Opened) : Type 0 where
  pub bytes : List ℕ
  pub there : IsThere files import.source bytes
  pub is : IsDocumentBy import.format lines.password time bytes opened.doc
  pub passed : opened.passed_over ≡ passed_by import.format bytes
  pub absent : map.get files import.file ≡ None
  pub sealing : IsSealingBy import.access.plain import.access.key_file lines.more files
      opened.sealing

-- ---- the same of some files, whatever the store reports

-- A new file is sealed so, with the key of some key file, where one is named.
abbrev pub SomeSealing : Bool → Option (List ℕ) → Option (List ℕ) → Option Sealing → Type 0
SomeSealing true key_file password sealing = sealing ≡ None
SomeSealing false key_file password sealing = (key : Option (List ℕ))
    × (SomeKey key_file key × (sealing ≡ Some (new_sealing password key)))

-- Some bytes are the document in the source's format, and have the columns that are passed over; and
-- the new file is sealed with the key of some key file, where one is named.
pub record SomeImport (import : ImportNeeds) (lines : Lines) (time : ℕ) (opened : Opened) : Type 0
  where
    pub bytes : List ℕ
    pub is : IsDocumentBy import.format lines.password time bytes opened.doc
    pub passed : opened.passed_over ≡ passed_by import.format bytes
    pub sealing : SomeSealing import.access.plain import.access.key_file lines.more opened.sealing
