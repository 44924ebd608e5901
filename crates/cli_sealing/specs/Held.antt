-- What a sealed file that a command wrote holds.
use Rattle.std.specs.Prelude.{◌≡◌, ℕ, List, Ok}
use Rattle.vault_model.specs.Tree.{BareDoc}
use Rattle.kdbx_frame.specs.declared.settings.Settings.{Settings}
use Rattle.kdbx_seal.specs.KdbxWriting.Kdf.{with_salt}
use Rattle.kdbx_open.specs.Opening.{FileContents, opening}
use Rattle.kdbx_open.specs.Sealed.{Sealed}

-- A document, with settings whose key derivation has this seed or salt.
abbrev pub contents_with : Settings → List ℕ → BareDoc → FileContents
contents_with settings salt doc = record {
  settings = record settings { kdf = with_salt settings.kdf salt };
  doc = doc;
}

-- Bytes are a file that holds a document under a composite key, sealed by these settings with some
-- seed or salt.
abbrev pub HoldsSealed : Settings → List ℕ → BareDoc → List ℕ → Type 0
HoldsSealed settings composite doc bytes =
    (salt : List ℕ) × Sealed bytes composite (contents_with settings salt doc)

-- Such a file is opened by these bytes.
abbrev pub OpensTo : Settings → List ℕ → BareDoc → List ℕ → Type 0
OpensTo settings composite doc bytes =
    (salt : List ℕ) × (opening bytes composite ≡ Ok (contents_with settings salt doc))
