-- A file that was made of a document holds it.
use Rattle.std.proofs.Common.{◌≡◌, ℕ, zero, suc, List, [], ◌∷◌, ◌++◌, map, None, Ok, refl, ap, arith, ◌∙◌}
use Rattle.std.specs.Prelude.{slice_index}
use Rattle.std.specs.Int.{w32, to_be_bytes}
use Rattle.base64.specs.GeneralPurpose.{IsBytes}
use Rattle.stream_core.specs.InnerStream.{Keystream}
use Rattle.vault_model.specs.Tree.{BareDoc, IsDoc}
use Rattle.vault_model.specs.declared.forms.DocForm.TheVariants.{V4}
use Rattle.vault_model.specs.declared.forms.FileVersion.{FileVersion}
use Rattle.vault_model.specs.declared.forms.FileVersion.TheVariants.{V31, V40, V41}
use Rattle.doc_forms.specs.Documents.{DocumentAndHash, document}
use Rattle.doc_spelling.specs.Documents.{hash_named, spelled_document}
use Rattle.doc_spelling.specs.Pool.{PoolPair, pool_of}
use Rattle.doc_spelling.specs.Ranges.{IsWritable}
use Rattle.doc_spelling.proofs.GoodDocs.{doc_good}
use Rattle.doc_spelling.proofs.ReadsBack.{says_document}
use Rattle.kdbx_frame.specs.declared.settings.Settings.{Settings}
use Rattle.kdbx_seal.specs.KdbxWriting.declared.draws.Draws.{Draws}
use Rattle.kdbx_open.specs.KdbxPayload.Sealed.{SealedPayload}
use Rattle.kdbx_seal.specs.PayloadMade.{written_keystream}
use Rattle.sha2.specs.Sha256.{digest_bytes, sha256}
use Rattle.sha2.proofs.Facts256.{length-sha256}
use Rattle.doc_spelling.proofs.Goods.{IsHash}
use Rattle.kdbx_frame.specs.Forms.{form_of}
use Rattle.kdbx_seal.specs.KdbxWriting.Header.{spelled_header}
use Rattle.kdbx_seal.specs.Made.{attached_file, attached_files, document_text, hash_kept, made_file, made_file_payload}
use Rattle.kdbx_open.specs.Documents.{KeepsHash, attachment, document_of, document_or_refusal}
use Rattle.kdbx_open.specs.Sealed.{Sealed}
use Rattle.cli_sealing.specs.Contents.{made_contents}

-- The attached files, as the document's reader is given them, are the pool that was written.
same_pool : (pool : List PoolPair) → map attachment (map attached_file pool) ≡ pool
same_pool [] = refl
same_pool (p ∷ pool) = ap (λ items. p ∷ items) (same_pool pool)

-- ---- a hash is made up of bytes

append_low : (xs ys : List ℕ) → IsBytes xs → IsBytes ys → IsBytes (xs ++ ys)
append_low [] ys a b i = b i
append_low (x ∷ xs) ys a b zero = a 0
append_low (x ∷ xs) ys a b (suc i) = append_low xs ys (λ k. a (suc k)) b i

word_low : (n : ℕ) → IsBytes (to_be_bytes w32 n)
word_low n zero = omega arith
word_low n (suc zero) = omega arith
word_low n (suc (suc zero)) = omega arith
word_low n (suc (suc (suc zero))) = omega arith
word_low n (suc (suc (suc (suc i)))) = omega arith

digest_low : (h : List ℕ) (n : ℕ) → IsBytes (digest_bytes h n)
unfolding digest_bytes
digest_low h zero i = omega arith
digest_low h (suc n) i = append_low (digest_bytes h n) (to_be_bytes w32 (slice_index h n)) (digest_low h n) (word_low (slice_index h n)) i

hash_is : (message : List ℕ) → IsHash (sha256 message)
unfolding sha256
hash_is message = record { bytes = digest_low _ 8; length = length-sha256 message }

-- ---- what the text of a written document says

-- The text in the form of version 4.
pooled : (k : Keystream) (d : BareDoc) → IsDoc d → IsWritable d
    → document_of V4 k (map attached_file (pool_of d)) (spelled_document V4 k None d) ≡ Ok (d, None)
pooled k d is writable =
    ap (λ pool. document_or_refusal (document (record { form = V4; keystream = k }) pool (spelled_document V4 k None d))) (same_pool (pool_of d))
    ∙ ap document_or_refusal (says_document V4 k None tt d (doc_good d is writable))

-- What the text of a written document says: the document, and in version 3.1 the hash of its header.
abbrev read_again : FileVersion → Settings → Draws → BareDoc → DocumentAndHash
read_again v s draws d = (d, hash_named (form_of v) (hash_kept v s draws))

-- In a version.
text_in : (v : FileVersion) (s : Settings) (draws : Draws) (d : BareDoc) → IsDoc d → IsWritable d
    → document_of (form_of v) (written_keystream v draws) (attached_files v d) (document_text (record s { version = v }) draws d)
    ≡ Ok (read_again v (record s { version = v }) draws d)
text_in V31 s draws d is writable =
    let t = record s { version = V31 } in
    ap document_or_refusal (says_document (form_of V31) (written_keystream V31 draws) (hash_kept V31 t draws) (hash_is (spelled_header t draws)) d (doc_good d is writable))
text_in V40 s draws d is writable = pooled (written_keystream V40 draws) d is writable
text_in V41 s draws d is writable = pooled (written_keystream V41 draws) d is writable

kept_in : (v : FileVersion) (s : Settings) (draws : Draws) → KeepsHash (hash_named (form_of v) (hash_kept v s draws)) (sha256 (spelled_header s draws))
kept_in V31 s draws = refl
kept_in V40 s draws = tt
kept_in V41 s draws = tt

pub is_held : (s : Settings) (draws : Draws) (composite : List ℕ) (d : BareDoc) → IsDoc d → IsWritable d
    → SealedPayload (made_file s draws composite d) composite (made_file_payload s draws d)
    → Sealed (made_file s draws composite d) composite (made_contents s draws d)
is_held s draws composite d is writable sealed = record {
  payload = made_file_payload s draws d;
  authentic = sealed;
  settings = refl;
  read = read_again s.version s draws d;
  document = text_in s.version s draws d is writable;
  doc = refl;
  hash = kept_in s.version s draws;
}
