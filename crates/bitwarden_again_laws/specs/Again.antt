-- An export of Bitwarden that is imported at two moments.
use Rattle.std.specs.Prelude.{◌≡◌, ◌≤◌, ℕ, List, Ok}
use Rattle.bitwarden_core.specs.Documents.{bitwarden_document}
use Rattle.import_again_laws.specs.Again.{LaterReplaces}
use Rattle.import_again_laws.specs.ImportLaws.Agreement.{Agree}
use Rattle.vault_model.specs.Tree.{BareDoc}

-- Its documents at any two moments agree.
abbrev pub ExportsAgree : Type 0
ExportsAgree = (bytes : List ℕ) (now later : ℕ) (one other : BareDoc)
    → bitwarden_document bytes now ≡ Ok one → bitwarden_document bytes later ≡ Ok other
    → Agree one other

-- The later one takes the place of the other in a merge.
abbrev pub ExportsReplace : Type 0
ExportsReplace = (bytes : List ℕ) (now later : ℕ) (one other : BareDoc) → now ≤ later
    → bitwarden_document bytes now ≡ Ok one → bitwarden_document bytes later ≡ Ok other
    → LaterReplaces one other
