-- What some bytes hold, whatever the store reports and answered: those that it handed out.
use Rattle.std.specs.Prelude.{◌≡◌, ℕ, Bool, true, false, List, [], ◌∷◌, ◌++◌, Option, Ok}
use Rattle.key_core.specs.Keys.{composite_key}
use Rattle.vault_model.specs.Tree.{BareDoc}
use Rattle.doc_forms.specs.Documents.{DocumentAndHash}
use Rattle.kdbx_open.specs.Opening.{FileContents}
use Rattle.kdbx_open.specs.Sealed.{IsHeld}
use Rattle.cli_needs.specs.declared.command.Access.{Access}
use Rattle.cli_needs.specs.Needs.{Needs}
use Rattle.cli_lines.specs.Lines.{Lines}
use Rattle.cli_files.specs.Files.{Databases, Opened, plain_document}
use Rattle.cli_files.specs.SomeFiles.{SomeKey}
use Rattle.cli_databases.specs.Databases.{opened_plain, opened_under, password_from}

-- Some bytes are a plain document, and the database is that.
pub record SomePlain (opened : Opened) : Type 0 where
  pub bytes : List ℕ
  pub read : DocumentAndHash
  pub says : plain_document bytes ≡ Ok read
  pub is : opened_plain read.0 ≡ opened

-- Some bytes hold the document of the database by its settings, sealed under its composite key,
-- which is this one.
abbrev pub IsSealedUnder : List ℕ → Opened → Type 0
IsSealedUnder composite opened = (vault : FileContents)
    × (IsHeld composite vault × (opened_under composite vault ≡ opened))

-- Some bytes hold the document of the database by its settings, sealed under the composite key of
-- the password and of some key file's key.
pub record SomeSealed (key_file password : Option (List ℕ)) (opened : Opened) : Type 0 where
  pub key : Option (List ℕ)
  pub gives_key : SomeKey key_file key
  pub sealed : IsSealedUnder (composite_key password key) opened

-- Some bytes hold the database: a document by itself, or sealed.
abbrev pub SomeHolds : Bool → Option (List ℕ) → Option (List ℕ) → Opened → Type 0
SomeHolds true key_file password opened = SomePlain opened
SomeHolds false key_file password opened = SomeSealed key_file password opened

-- Some bytes hold the database that a command asks for.
abbrev pub SomeDatabase : Needs → Option (List ℕ) → Opened → Type 0
SomeDatabase needs password opened =
    SomeHolds needs.access.plain needs.access.key_file password opened

-- Some bytes hold the document of a source, under the target's password or its own line.
pub record SomeSource (from : Access) (same : Bool) (target line : Option (List ℕ))
    (doc : BareDoc) : Type 0 where
  pub opened : Opened
  pub holds : SomeHolds from.plain from.key_file (password_from same target line) opened
  pub is : opened.doc ≡ doc

-- Some bytes hold the documents of sources, some for each.
abbrev pub SomeSources : Access → Bool → Option (List ℕ) → List (List ℕ)
    → List (Option (List ℕ)) → List BareDoc → Type 0
SomeSources from same target [] lines [] = Unit {0}
SomeSources from same target [] lines (doc ∷ docs) = ⊥
SomeSources from same target (name ∷ names) [] docs = ⊥
SomeSources from same target (name ∷ names) (line ∷ lines) [] = ⊥
SomeSources from same target (name ∷ names) (line ∷ lines) (doc ∷ docs) =
    SomeSource from same target line doc × SomeSources from same target names lines docs

-- The documents after others are those of sources, which some bytes hold.
pub record GainsSources (from : Access) (same : Bool) (target : Option (List ℕ))
    (names : List (List ℕ)) (lines : List (Option (List ℕ))) (before now : List BareDoc) : Type 0
  where
    pub sources : List BareDoc
    pub gained : now ≡ before ++ sources
    pub some : SomeSources from same target names lines sources

-- Some bytes hold the databases that a command asks for.
pub record SomeDatabases (needs : Needs) (lines : Lines) (databases : Databases) : Type 0 where
  pub target : SomeDatabase needs lines.password databases.target
  pub sources : SomeSources needs.from needs.same lines.password needs.sources lines.sources
      databases.sources
