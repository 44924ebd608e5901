-- Why a key file is refused, as what is so of it.
use Rattle.std.specs.Prelude.{◌≡◌, ◌≢◌, ◌⊎◌, ℕ, List, codes, take, None, Some, Err}
use Rattle.sha2.specs.Sha256.{sha256}
use Rattle.markup_grammar.specs.Elements.{Content}
use Rattle.markup_grammar.specs.Reading.{answers}
use Rattle.text_forms.specs.Texts.{trim}
use Rattle.key_core.specs.KeyDocument.{Told, root_of, told_of, version_by, version_of}
use Rattle.key_core.specs.KeyFile.{key_file_key}
use Rattle.key_core.specs.KeyTexts.{base64_key, hexadecimal_hash, hexadecimal_key, without_spaces}
use Rattle.key_core.specs.declared.key_file.KeyFileFail.{KeyFileFail}
use Rattle.key_core.specs.declared.key_file.KeyFileFail.TheVariants.{KeyFileForm, KeyFileHash, NoMemory}

-- A file is a key document, whose root holds this.
abbrev pub IsKeyDocument : List ℕ → Content → Type 0
IsKeyDocument bytes root = root_of (answers bytes) ≡ Some root

-- The version that a document names is at this place, and its text is this.
abbrev pub HasVersion : ℕ → List ℕ → Content → Type 0
HasVersion place text root = version_of root ≡ Some (version_by place text)

-- The text of a version begins so, after white space.
abbrev pub BeginsWith : List ℕ → List ℕ → Type 0
BeginsWith digits text = take 2 (trim text) ≡ digits

-- A document is of a version whose text begins so, and has this key.
pub record HasKey (digits : List ℕ) (told : Told) (root : Content) : Type 0 where
  pub place : ℕ
  pub text : List ℕ
  pub version : HasVersion place text root
  pub begins : BeginsWith digits text
  pub told_is : told_of root ≡ Some told

-- The version of a document, at this place, is neither the first nor the second.
abbrev pub HasOtherVersion : ℕ → Content → Type 0
HasOtherVersion place root = (text : List ℕ) × HasVersion place text root
    × (take 2 (trim text) ≢ codes "1.") × (take 2 (trim text) ≢ codes "2.")

-- Of a document of the first version: its key is no 32 bytes in base64.
abbrev pub HasNoFirstKey : ℕ → Content → Type 0
HasNoFirstKey place root = (told : Told) × HasKey (codes "1.") told root × (told.place ≡ place)
    × (base64_key (trim told.text) ≡ None)

-- Of the second version: its key is no 32 bytes in hexadecimal digits, or it keeps a hash that is
-- no four bytes in such digits.
abbrev pub HasNoSecondKey : ℕ → Content → Type 0
HasNoSecondKey place root = (told : Told) × HasKey (codes "2.") told root × (told.place ≡ place)
    × ((hexadecimal_key (without_spaces told.text) ≡ None)
    ⊎ ((digits : List ℕ) × (told.hash ≡ Some digits) × (hexadecimal_hash digits ≡ None)))

-- What is wrong in a key document, at a place, which is 0 for what is missing: it names no version,
-- or has no key; its version is another; or its key is in no form.
abbrev pub IsWrongAt : ℕ → Content → Type 0
IsWrongAt place root = ((place ≡ 0) × ((version_of root ≡ None) ⊎ (told_of root ≡ None)))
    ⊎ (HasOtherVersion place root ⊎ (HasNoFirstKey place root ⊎ HasNoSecondKey place root))

-- The hash that is kept with a key is not the first four bytes of the key's.
pub record HasWrongHash (root : Content) (kept found : List ℕ) : Type 0 where
  pub told : Told
  pub has : HasKey (codes "2.") told root
  pub digits : List ℕ
  pub keeps : told.hash ≡ Some digits
  pub kept_is : hexadecimal_hash digits ≡ Some kept
  pub key : List ℕ
  pub key_is : hexadecimal_key (without_spaces told.text) ≡ Some key
  pub found_is : found ≡ take 4 (sha256 key)
  pub apart : kept ≢ found

-- The cause of each refusal.
abbrev pub KeyCause : KeyFileFail → List ℕ → Type 0
KeyCause (KeyFileForm place) bytes = (root : Content) × IsKeyDocument bytes root
    × IsWrongAt place root
KeyCause (KeyFileHash kept found) bytes = (root : Content) × IsKeyDocument bytes root
    × HasWrongHash root kept found
KeyCause NoMemory bytes = ⊥

-- A key file that is refused has the cause.
abbrev pub KeyRefusalsHaveCauses : Type 0
KeyRefusalsHaveCauses = (bytes : List ℕ) (fail : KeyFileFail) → key_file_key bytes ≡ Err fail
    → KeyCause fail bytes
