-- What is read of a text keeps what every document keeps.
use Rattle.std.specs.Prelude.{◌≡◌, ℕ, Bool, List, Ok}
use Rattle.vault_model.specs.Tree.{IsDoc}
use Rattle.doc_forms.specs.Documents.{DocumentAndHash, document}
use Rattle.doc_forms.specs.ElementTexts.{Setting}

-- what is read of a text is a document, in any form and with any pool
abbrev pub ReadsDocuments : Type 0
ReadsDocuments = (s : Setting) (given : List (List ℕ × Bool)) (text : List ℕ)
    (read : DocumentAndHash) → document s given text ≡ Ok read → IsDoc read.0
