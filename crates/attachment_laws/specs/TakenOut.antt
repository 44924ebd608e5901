-- What is put into a file as an attachment, and what is taken out of that file.
use Rattle.std.specs.Prelude.{◌≡◌, ℕ, Bool, List, Option, None, Some, Ok}
use Rattle.vault_model.specs.Tree.{BareDoc, IsDoc}
use Rattle.tree_core.specs.After.{after_attach}
use Rattle.kdbx_frame.specs.declared.sealings.Sealing.{Sealing}
use Rattle.cli_changes.specs.Attachments.{attachment_bytes}
use Rattle.call_run.specs.Endings.{HoldsNew}
use Rattle.call_conditions.specs.Copies.{HoldsDoc}

-- The composite key that a database is sealed under; a plain document has none.
abbrev pub key_under : Option Sealing → Option (List ℕ)
key_under None = None
key_under (Some sealing) = Some sealing.composite

-- A file was put to an entry of a document, and the database's file holds the document after that, as
-- it holds every document that is written. What these bytes hold under that key has an attachment of
-- the name, and its bytes are those of the file that was put in. (Such bytes are what `authentic`
-- promises of a call that writes, and the other bytes what it writes where it takes them out.)
abbrev pub TakesOutWhatWasPutIn : Type 0
TakesOutWhatWasPutIn = (sealing : Option Sealing) (path name put : List ℕ) (replaces : Bool)
    (now : ℕ) (before after opened : BareDoc) (bytes file : List ℕ) → IsDoc before → IsDoc after
    → after_attach path name put replaces now before ≡ Ok after
    → HoldsNew sealing after bytes → HoldsDoc (key_under sealing) opened bytes
    → attachment_bytes file path name opened ≡ Ok put
