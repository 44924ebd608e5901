-- The key that a key file gives.
use Rattle.std.specs.Prelude.{ℕ, ◌≡◌, Option, Some, None, List, Result, Ok, Err}
use Rattle.sha2.specs.Sha256.{sha256}
use Rattle.markup_core.specs.MarkupGrammar.Elements.{Content}
use Rattle.markup_core.specs.MarkupGrammar.Reading.{answers}
use Rattle.key_core.specs.KeyTexts.{whole_key, hexadecimal_key}
use Rattle.key_core.specs.KeyDocument.{root_of, document_key, version_of, told_of}
use Rattle.key_core.specs.declared.key_file.KeyFileFail.{KeyFileFail}
use Rattle.key_core.specs.declared.key_file.KeyFileFail.TheVariants.{NoMemory}

-- a first choice, or else another
abbrev pub or_else : Option (List ℕ) → List ℕ → List ℕ
or_else None other = other
or_else (Some key) other = key

-- the key of a file that is no key document: its 32 bytes, or the 64 hexadecimal digits that it is,
-- or its hash
abbrev pub plain_key : List ℕ → List ℕ
plain_key bytes = or_else (whole_key bytes) (or_else (hexadecimal_key bytes) (sha256 bytes))

-- the key of a file in which this root was found, or none
abbrev pub key_by : List ℕ → Option Content → Result (List ℕ) KeyFileFail
key_by bytes None = Ok (plain_key bytes)
key_by bytes (Some root) = document_key (version_of root) (told_of root)

-- the key of a file
unfoldable pub key_file_key : List ℕ → Result (List ℕ) KeyFileFail
key_file_key bytes = key_by bytes (root_of (answers bytes))

-- this is answered, or that memory ran out
abbrev pub Gives : Result (List ℕ) KeyFileFail → Result (List ℕ) KeyFileFail → Type 0
Gives wanted (Err NoMemory) = Unit {0}
Gives wanted result = result ≡ wanted
