-- The database that an import makes: the document of its source, under the key of its own.
use Rattle.std.specs.Prelude.{ℕ, Bool, true, false, nat_lt, if◌then◌else◌, List, [], replicate, Option, None, Some, Result, Ok, Err}
use Rattle.std.specs.FinMap as map
use Rattle.argon_core.specs.declared.params.ArgonKind.TheVariants as argon
use Rattle.bitwarden_core.specs.Documents.{bitwarden_document}
use Rattle.bitwarden_forms.specs.declared.fails.BitwardenFail.{BitwardenFail}
use Rattle.outside_core.specs.Files.{FileMap}
use Rattle.outside_core.specs.Results.{◌>>=◌}
use Rattle.key_core.specs.Keys.{composite_key}
use Rattle.key_core.specs.declared.kdf.Kdf.TheVariants.{Argon}
use Rattle.time_core.specs.Times.{last_stamp}
use Rattle.vault_model.specs.Tree.{BareDoc}
use Rattle.vault_model.specs.declared.forms.FileVersion.TheVariants.{V40}
use Rattle.doc_forms.specs.Documents.{DocumentAndHash}
use Rattle.doc_forms.specs.declared.fails.DocFail.{DocFail}
use Rattle.kdbx_frame.specs.declared.settings.Cipher.TheVariants.{Aes}
use Rattle.kdbx_frame.specs.declared.settings.Settings.{Settings}
use Rattle.kdbx_frame.specs.declared.sealings.Sealing.{Sealing}
use Rattle.psafe_file.specs.declared.fails.PsafeFail.{PsafeFail}
use Rattle.psafe_core.specs.Outcome.{psafe_outcome}
use Rattle.table_reading.specs.Columns.{passed_over}
use Rattle.table_reading.specs.Documents.{csv_document}
use Rattle.table_reading.specs.declared.fails.TableFail.{TableFail}
use Rattle.cli_messages.specs.Messages.{refusal_of}
use Rattle.cli_messages.specs.declared.answers.Reason.TheVariants.{FileExists, StampLimit}
use Rattle.cli_messages.specs.declared.answers.Refusal.{Refusal}
use Rattle.cli_needs.specs.Needs.{ImportNeeds}
use Rattle.cli_needs.specs.declared.command.ImportFormat.{ImportFormat}
use Rattle.cli_needs.specs.declared.command.ImportFormat.TheVariants.{Xml, Psafe, Csv, Bitwarden}
use Rattle.cli_lines.specs.Lines.{Lines}
use Rattle.cli_files.specs.Answers.{document_answer}
use Rattle.cli_files.specs.Files.{Opened, key_of, of_file, plain_document}
use Rattle.cli_importing.specs.Answers.{bitwarden_answer, safe_answer, table_answer}

-- ---- the source

-- A password that is given; none is empty.
abbrev pub given_password : Option (List ℕ) → List ℕ
given_password None = []
given_password (Some password) = password

-- The plain document of this file, or the refusal.
abbrev pub plain_or_refusal : List ℕ → Result DocumentAndHash DocFail → Result BareDoc Refusal
plain_or_refusal name (Ok read) = Ok read.0
plain_or_refusal name (Err why) = Err (refusal_of (document_answer why) name)

-- The document of this file of Password Safe, or the refusal.
abbrev pub safe_or_refusal : List ℕ → Result BareDoc PsafeFail → Result BareDoc Refusal
safe_or_refusal name (Ok doc) = Ok doc
safe_or_refusal name (Err why) = Err (refusal_of (safe_answer why) name)

-- The document of this table, or the refusal.
abbrev pub table_or_refusal : List ℕ → Result BareDoc TableFail → Result BareDoc Refusal
table_or_refusal name (Ok doc) = Ok doc
table_or_refusal name (Err why) = Err (refusal_of (table_answer why) name)

-- The document of this export of Bitwarden, or the refusal.
abbrev pub bitwarden_or_refusal : List ℕ → Result BareDoc BitwardenFail → Result BareDoc Refusal
bitwarden_or_refusal name (Ok doc) = Ok doc
bitwarden_or_refusal name (Err why) = Err (refusal_of (bitwarden_answer why) name)

-- What is made of this file at a moment that must not be after the year 9999.
abbrev pub at_stamp : List ℕ → ℕ → Result BareDoc Refusal → Result BareDoc Refusal
at_stamp name time made =
    if nat_lt last_stamp time then Err (refusal_of StampLimit name) else made

-- The document that the bytes of this file are in a format, under a password, if the format has
-- one, and at a moment, from which entries have the times that the source does not give.
abbrev pub document_by : ImportFormat → List ℕ → Option (List ℕ) → ℕ → List ℕ
    → Result BareDoc Refusal
document_by Xml name password time bytes = plain_or_refusal name (plain_document bytes)
document_by Psafe name password time bytes = at_stamp name time
    (safe_or_refusal name (psafe_outcome bytes (given_password password) time))
document_by Csv name password time bytes =
    at_stamp name time (table_or_refusal name (csv_document bytes time))
document_by Bitwarden name password time bytes =
    at_stamp name time (bitwarden_or_refusal name (bitwarden_document bytes time))

-- What an import's source is: a document, and the names of the columns that are passed over, where
-- it is a table.
pub record Source : Type 0 where
  pub doc : BareDoc
  pub passed_over : List (List ℕ)

-- The names of the columns that are passed over where the bytes of a file are in a format.
abbrev pub passed_by : ImportFormat → List ℕ → List (List ℕ)
passed_by Xml bytes = []
passed_by Psafe bytes = []
passed_by Csv bytes = passed_over bytes
passed_by Bitwarden bytes = []

-- A source of which these columns are passed over, if it is a document.
abbrev pub with_passed : List (List ℕ) → Result BareDoc Refusal → Result Source Refusal
with_passed names made = made >>= λ doc. Ok (record { doc = doc; passed_over = names })

-- The source that the bytes of this file are in a format, under a password and at a moment.
abbrev pub source_by : ImportFormat → List ℕ → Option (List ℕ) → ℕ → List ℕ
    → Result Source Refusal
source_by format name password time bytes =
    with_passed (passed_by format bytes) (document_by format name password time bytes)

-- An import's source.
abbrev pub source_of : ImportNeeds → Option (List ℕ) → ℕ → FileMap → Result Source Refusal
source_of import password time files =
    of_file import.source (source_by import.format import.source password time)
    (map.get files import.source)

-- ---- the new file

-- A file of this name must not be there.
abbrev pub refuse_file : List ℕ → Option (List ℕ) → Result (Unit {0}) Refusal
refuse_file name None = Ok tt
refuse_file name (Some bytes) = Err (refusal_of FileExists name)

-- The settings of a new file: AES-256, and Argon2d with 10 passes over 64 MiB in 2 lanes, whose
-- salt is drawn as the file is written.
abbrev pub new_settings : Settings
new_settings = record {
  version = V40;
  cipher = Aes;
  kdf = Argon argon.D 10 67108864 2 (replicate 32 0);
  public = None;
}

-- What a new file is sealed with under a password and the key of a key file.
abbrev pub new_sealing : Option (List ℕ) → Option (List ℕ) → Sealing
new_sealing password key =
    record { settings = new_settings; composite = composite_key password key }

-- What a new file is sealed with, unless it is to be a plain document.
abbrev pub sealing_of : Bool → Option (List ℕ) → Option (List ℕ) → FileMap
    → Result (Option Sealing) Refusal
sealing_of true key_file password files = Ok None
sealing_of false key_file password files =
    key_of key_file files >>= λ key. Ok (Some (new_sealing password key))

-- ---- the database

-- The database that an import makes at a moment, with the lines that it asked for: the document of
-- its source, where no file has the new one's name, and what the new file is sealed with.
unfoldable pub imported_of : ImportNeeds → Lines → ℕ → FileMap → Result Opened Refusal
imported_of import lines time files = do
  source ← source_of import lines.password time files
  _ ← refuse_file import.file (map.get files import.file)
  sealing ← sealing_of import.access.plain import.access.key_file lines.more files
  Ok (record { doc = source.doc; sealing = sealing; passed_over = source.passed_over })
