-- What was sealed of a document holds it.
use Rattle.std.proofs.Common.{ℕ, List}
use Rattle.vault_model.specs.Tree.{BareDoc, IsDoc}
use Rattle.doc_spelling.specs.Ranges.{IsWritable}
use Rattle.kdbx_frame.specs.declared.settings.Settings.{Settings}
use Rattle.kdbx_seal.specs.KdbxWriting.declared.draws.Draws.{Draws}
use Rattle.kdbx_open.specs.KdbxPayload.Sealed.{SealedPayload}
use Rattle.kdbx_seal.specs.Made.{made_file, made_file_payload}
use Rattle.cli_sealing.proofs.HeldDocuments.{is_held}
use Rattle.cli_writing.specs.Held.{IsWritten}
use Rattle.cli_writing.specs.Writing.{HasFile, Store}
use Rattle.cli_sealing.specs.Held.{HoldsSealed}

pub sealed_holds : (s : Settings) (draws : Draws) (composite : List ℕ) (doc : BareDoc) (name : List ℕ) (before now : Store) → IsDoc doc → IsWritable doc
    → SealedPayload (made_file s draws composite doc) composite (made_file_payload s draws doc)
    → HasFile (record { name = name; bytes = made_file s draws composite doc }) before now
    → IsWritten (HoldsSealed s composite doc) name before now
sealed_holds s draws composite doc name before now is writable sealed h = record {
  bytes = made_file s draws composite doc;
  alone = h;
  holds = (draws.kdf, is_held s draws composite doc is writable sealed);
}
