-- What files hold of which a database is made, speaking of all their bytes.
use Rattle.std.specs.Prelude.{◌≡◌, ℕ, Bool, true, false, List, [], ◌∷◌, Option, Ok}
use Rattle.outside_core.specs.Files.{FileMap}
use Rattle.key_core.specs.Keys.{composite_key}
use Rattle.vault_model.specs.Tree.{BareDoc}
use Rattle.doc_forms.specs.Documents.{DocumentAndHash}
use Rattle.kdbx_open.specs.Opening.{FileContents}
use Rattle.kdbx_open.specs.Sealed.{Sealed}
use Rattle.cli_needs.specs.declared.command.Access.{Access}
use Rattle.cli_needs.specs.Needs.{Needs}
use Rattle.cli_lines.specs.Lines.{Lines}
use Rattle.cli_files.specs.Files.{Databases, Opened, plain_document}
use Rattle.cli_files.specs.Held.{GivesKey, IsThere}
use Rattle.cli_databases.specs.Databases.{opened_plain, opened_under, password_from}

-- The file of this name is a plain document, and the database is that.
pub record IsPlain (file : List ℕ) (files : FileMap) (opened : Opened) : Type 0 where
  pub bytes : List ℕ
  pub there : IsThere files file bytes
  pub read : DocumentAndHash
  pub says : plain_document bytes ≡ Ok read
  pub is : opened_plain read.0 ≡ opened

-- The file of this name holds the document of the database by its settings, sealed under the
-- composite key of the password and the key file.
pub record IsSealed (key_file : Option (List ℕ)) (file : List ℕ) (password : Option (List ℕ))
    (files : FileMap) (opened : Opened) : Type 0 where
  pub key : Option (List ℕ)
  pub gives_key : GivesKey key_file files key
  pub bytes : List ℕ
  pub there : IsThere files file bytes
  pub vault : FileContents
  pub sealed : Sealed bytes (composite_key password key) vault
  pub is : opened_under (composite_key password key) vault ≡ opened

-- A file holds the database: a document by itself, or sealed.
abbrev pub HoldsBy : Bool → Option (List ℕ) → List ℕ → Option (List ℕ) → FileMap → Opened → Type 0
HoldsBy true key_file file password files opened = IsPlain file files opened
HoldsBy false key_file file password files opened = IsSealed key_file file password files opened

-- The file that a command asks for holds the database.
abbrev pub Holds : Needs → Option (List ℕ) → FileMap → Opened → Type 0
Holds needs password files opened =
    HoldsBy needs.access.plain needs.access.key_file needs.file password files opened

-- The file of a source holds its document, under the target's password or its own line.
pub record HoldsSource (from : Access) (same : Bool) (target line : Option (List ℕ))
    (name : List ℕ) (files : FileMap) (doc : BareDoc) : Type 0 where
  pub opened : Opened
  pub holds : HoldsBy from.plain from.key_file name (password_from same target line) files opened
  pub is : opened.doc ≡ doc

-- The files of sources hold these documents, each its own.
abbrev pub HoldAll : Access → Bool → Option (List ℕ) → List (List ℕ) → List (Option (List ℕ))
    → FileMap → List BareDoc → Type 0
HoldAll from same target [] lines files [] = Unit {0}
HoldAll from same target [] lines files (doc ∷ docs) = ⊥
HoldAll from same target (name ∷ names) [] files docs = ⊥
HoldAll from same target (name ∷ names) (line ∷ lines) files [] = ⊥
HoldAll from same target (name ∷ names) (line ∷ lines) files (doc ∷ docs) =
    HoldsSource from same target line name files doc
    × HoldAll from same target names lines files docs

-- The files that a command asks for hold the databases.
pub record HoldDatabases (needs : Needs) (lines : Lines) (files : FileMap)
    (databases : Databases) : Type 0 where
  pub target : Holds needs lines.password files databases.target
  pub sources : HoldAll needs.from needs.same lines.password needs.sources lines.sources files
      databases.sources
