-- The bytes of a file that holds a document.
use Rattle.std.specs.Prelude.{ℕ, List, [], map, Option, None, Some}
use Rattle.sha2.specs.Sha256.{sha256}
use Rattle.vault_model.specs.Tree.{BareDoc}
use Rattle.vault_model.specs.declared.forms.DocForm.TheVariants.{V3, V4}
use Rattle.vault_model.specs.declared.forms.FileVersion.{FileVersion}
use Rattle.vault_model.specs.declared.forms.FileVersion.TheVariants.{V31, V40, V41}
use Rattle.doc_spelling.specs.Documents.{spelled_document}
use Rattle.doc_spelling.specs.Pool.{PoolPair, pool_of}
use Rattle.kdbx_frame.specs.Forms.{form_of}
use Rattle.kdbx_frame.specs.declared.settings.Settings.{Settings}
use Rattle.kdbx_inner.specs.Inner.{Binary}
use Rattle.kdbx_writing.specs.declared.draws.Draws.{Draws}
use Rattle.kdbx_writing.specs.Header.{spelled_header}
use Rattle.kdbx_payload.specs.Payloads.{Payload}
use Rattle.kdbx_seal.specs.PayloadMade.{chacha_keystream, made, made_payload, salsa_keystream, written_keystream}

-- The bytes of an attachment, as an attached file of the inner fields.
abbrev pub attached_file : PoolPair → Binary
attached_file p = record { bytes = p.0; hidden = p.1 }

-- The attached files of a document, in the order of their numbers in it.
abbrev pub files_of : BareDoc → List Binary
files_of d = map attached_file (pool_of d)

-- Those that a file of a version keeps apart from the document. A document in the form of version
-- 3.1 has them itself.
abbrev pub attached_files : FileVersion → BareDoc → List Binary
attached_files V31 d = []
attached_files V40 d = files_of d
attached_files V41 d = files_of d

-- The hash of its file's header that a document keeps: in version 3.1 alone.
abbrev pub hash_kept : FileVersion → Settings → Draws → Option (List ℕ)
hash_kept V31 s draws = Some (sha256 (spelled_header s draws))
hash_kept V40 s draws = None
hash_kept V41 s draws = None

-- The text of a document in a file of version 4, whose values are hidden under the drawn stream
-- key.
abbrev pub text_4 : Draws → BareDoc → List ℕ
text_4 draws d = spelled_document V4 (chacha_keystream draws.stream) None d

-- The text of a document in a file of version 3.1 whose header has this hash.
abbrev pub text_31 : List ℕ → Draws → BareDoc → List ℕ
text_31 hash draws d = spelled_document V3 (salsa_keystream draws.stream) (Some hash) d

-- The text of a document in a file of these settings.
abbrev pub document_text : Settings → Draws → BareDoc → List ℕ
document_text s draws d = spelled_document (form_of s.version)
    (written_keystream s.version draws) (hash_kept s.version s draws) d

-- The file of these settings with these draws, under a composite key, that holds a document.
abbrev pub made_file : Settings → Draws → List ℕ → BareDoc → List ℕ
made_file s draws composite d =
    made s draws composite (attached_files s.version d) (document_text s draws d)

-- The payload of that file.
abbrev pub made_file_payload : Settings → Draws → BareDoc → Payload
made_file_payload s draws d =
    made_payload s draws (attached_files s.version d) (document_text s draws d)
