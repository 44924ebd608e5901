-- A document that was written: its text, its attached files, and what has room for them.
use Rattle.std.proofs.Common.{◌≡◌, ◌⊎◌, inl, inr, ℕ, ◌+◌, ◌<◌, ◌≤◌, ◌^◌, List, [], ◌∷◌, ◌++◌, length, map, None, Result, Ok, Err, refl, sym, ◌∙◌, ap, subst, arith, length-append}
use Rattle.std.specs.Int.{w32, to_le_bytes}
use Rattle.std.specs.List.{AllByRecursion, flat_map}
use Rattle.secret_core.specs.Secret.{SecretBuffer}
use Rattle.stream_core.specs.InnerStream.{Keystream}
use Rattle.vault_model.specs.Tree.{BareDoc}
use Rattle.vault_model.specs.declared.forms.DocForm.TheVariants.{V4}
use Rattle.vault_model.specs.declared.forms.PoolItem.{PoolItem}
use Rattle.doc_forms.specs.SeenDocuments.{pool_item}
use Rattle.doc_spelling.specs.Documents.{spelled_document}
use Rattle.doc_spelling.specs.Pool.{PoolPair, pool_of}
use Rattle.doc_spelling.specs.Ranges.{IsWritable, count_all}
use Rattle.doc_write.specs.Written.{Measures, binary_len}
use Rattle.doc_write.specs.declared.writing.WriteFail.{WriteFail}
use Rattle.doc_write.specs.declared.writing.WriteFail.TheVariants.{NoMemory, TooLarge, TooMany}
use Rattle.vault_model.specs.declared.forms.FileVersion.{FileVersion}
use Rattle.vault_model.specs.declared.forms.FileVersion.TheVariants.{V31, V40, V41}
use Rattle.kdbx_frame.specs.declared.settings.Settings.{Settings}
use Rattle.kdbx_frame.specs.Settings.{IsVersion4}
use Rattle.kdbx_inner.specs.Inner.{Binary}
use Rattle.kdbx_inner.specs.Seen.{binary_seen}
use Rattle.kdbx_payload.specs.Sealed.{SealedPayload}
use Rattle.kdbx_seal.specs.PayloadAnswers.{IsSealedWith}
use Rattle.kdbx_seal.specs.PayloadMade.{chacha_keystream, made_with}
use Rattle.kdbx_writing.specs.declared.draws.Draws.{Draws}
use Rattle.kdbx_writing.specs.Fields.{spelled_field}
use Rattle.kdbx_writing.specs.Inner.{FitsField, binary_field, spelled_inner}
use Rattle.kdbx_seal.specs.Answers.{IsWritten, IsWritten4, WritesContent, WritesContent4, written_document, written_document_4}
use Rattle.kdbx_seal.specs.Made.{attached_file, attached_files, document_text, files_of, made_file, made_file_payload, text_4}

-- ---- attached files

-- What both crates see of them is the same.
same_files : (pool : List PoolItem) → map binary_seen pool ≡ map attached_file (map pool_item pool)
same_files [] = refl
same_files (p ∷ pool) = ap (λ files. binary_seen p ∷ files) (same_files pool)

files_len : (pool : List PoolPair) → length (flat_map spelled_field (map binary_field (map attached_file pool))) ≡ count_all binary_len pool
files_len [] = refl
files_len (p ∷ pool) =
    let field = spelled_field (binary_field (attached_file p)) in
    omega (arith, files_len pool, length-append field (flat_map spelled_field (map binary_field (map attached_file pool))))

inner_len : (key : List ℕ) (pool : List PoolPair) → length (spelled_inner key (map attached_file pool)) ≡ 19 + length key + count_all binary_len pool
unfolding spelled_inner
inner_len key pool =
    let one = spelled_field (1, to_le_bytes w32 3) in
    let two = spelled_field (2, key) in
    let files = flat_map spelled_field (map binary_field (map attached_file pool)) in
    let end = spelled_field (0, []) in
    omega (arith, files_len pool, length-append (one ++ (two ++ files)) end, length-append one (two ++ files), length-append two files, length-append (2 ∷ to_le_bytes w32 (length key)) key)

files_fit : (pool : List PoolPair) → count_all binary_len pool < 2 ^ 32 → AllByRecursion FitsField (map attached_file pool)
files_fit [] h = tt
files_fit (p ∷ pool) h = (omega (arith, h), files_fit pool (omega (arith, h)))

-- A document that is not measured is not written.
pub not_written : (draws : Draws) (d : BareDoc) (e : WriteFail) → written_document_4 draws d ≡ Err e → WritesContent4 draws d (Err e)
not_written draws d (TooMany n) h = h
not_written draws d (TooLarge n) h = h
not_written draws d NoMemory h = tt

-- ---- the content

module _ (draws : Draws) (d : BareDoc) (size : length draws.stream ≡ 64) (key : List ℕ) (drawn : key ≡ draws.stream) (pool : List PoolPair) (own : pool ≡ pool_of d)
    (items : List PoolItem) (seen : map pool_item items ≡ pool) (len : ℕ) (measured : (k : Keystream) → Measures V4 k None d (Ok len)) where
  files : map binary_seen items ≡ files_of d
  files = same_files items ∙ ap (map attached_file) (seen ∙ own)

  abbrev text : List ℕ
  text = text_4 draws d

  is_text : written_document_4 draws d ≡ Ok text
  is_text = (measured (chacha_keystream draws.stream)).outcome

  has_len : len ≡ length text
  has_len = (measured (chacha_keystream draws.stream)).text

  has_limit : length text + count_all binary_len (pool_of d) ≤ 134086656
  has_limit = omega (arith, has_len, (measured (chacha_keystream draws.stream)).limit)

  pub inner_is : length (spelled_inner key (map binary_seen items)) ≡ 83 + count_all binary_len (pool_of d)
  inner_is = omega (arith, inner_len key (pool_of d), ap (λ (f : List Binary). length (spelled_inner key f)) files, ap length drawn, size)

  -- All of it is far from the limits of memory.
  pub content_limit : length (spelled_inner key (map binary_seen items)) + len ≤ 134086739
  content_limit = omega (arith, inner_is, has_limit, has_len)

  pub items_fit : AllByRecursion FitsField (map binary_seen items)
  items_fit = subst (λ (f : List Binary). AllByRecursion FitsField f) (sym files) (files_fit (pool_of d) (omega (arith, has_limit)))

  -- The text, by the stream that hides its values.
  pub text_len : (k : Keystream) → length (spelled_document V4 k None d) ≡ len
  text_len k = sym (measured k).text

  pub is_written : (content : SecretBuffer) (k : Keystream) → k ≡ chacha_keystream draws.stream
      → content.bytes ≡ spelled_inner key (map binary_seen items) ++ spelled_document V4 k None d
      → 16 ≤ content.spare → IsWritable d → IsWritten4 draws d content
  is_written content k stream put spare writable =
      let bytes : content.bytes ≡ spelled_inner draws.stream (files_of d) ++ text =
      put ∙ ap (λ (x : Keystream). spelled_inner key (map binary_seen items) ++ spelled_document V4 x None d) stream
      ∙ ap (λ (b : List ℕ). spelled_inner b (map binary_seen items) ++ text) drawn
      ∙ ap (λ (f : List Binary). spelled_inner draws.stream f ++ text) files in
      record {
        bytes = bytes;
        spare = spare;
        limit = omega (arith, ap length put, length-append (spelled_inner key (map binary_seen items)) (spelled_document V4 k None d), text_len k, content_limit);
        within = is_text;
        writable = writable;
        small = files_fit (pool_of d) (omega (arith, has_limit));
      }

-- ---- by the version

pub version_4 : (v : FileVersion) → (v ≡ V40) ⊎ (v ≡ V41) → IsVersion4 v
version_4 V31 (inl h) = cc
version_4 V31 (inr h) = cc
version_4 V40 h = tt
version_4 V41 h = tt

-- What was written in version 4 was written for settings of such a version.
in_version_4 : (v : FileVersion) (s : Settings) (draws : Draws) (d : BareDoc) (content : SecretBuffer) → IsVersion4 v → IsWritten4 draws d content
    → IsWritten (record s { version = v }) draws d content
in_version_4 V31 s draws d content is w = absurd is
in_version_4 V40 s draws d content is w =
    record { bytes = w.bytes; spare = w.spare; limit = w.limit; within = w.within; writable = w.writable; apart = w.small }
in_version_4 V41 s draws d content is w =
    record { bytes = w.bytes; spare = w.spare; limit = w.limit; within = w.within; writable = w.writable; apart = w.small }

same_document : (v : FileVersion) (s : Settings) (draws : Draws) (d : BareDoc) → IsVersion4 v
    → written_document (record s { version = v }) draws d ≡ written_document_4 draws d
same_document V31 s draws d is = absurd is
same_document V40 s draws d is = refl
same_document V41 s draws d is = refl

pub writes_4 : (s : Settings) (draws : Draws) (d : BareDoc) (result : Result SecretBuffer WriteFail) → IsVersion4 s.version
    → WritesContent4 draws d result → WritesContent s draws d result
writes_4 s draws d (Ok content) is h = in_version_4 s.version s draws d content is h
writes_4 s draws d (Err NoMemory) is h = tt
writes_4 s draws d (Err (TooMany n)) is h = same_document s.version s draws d is ∙ h
writes_4 s draws d (Err (TooLarge n)) is h = same_document s.version s draws d is ∙ h

-- ---- the file

pub is_made : (s : Settings) (draws : Draws) (composite : List ℕ) (d : BareDoc) (content : SecretBuffer) → IsWritten s draws d content
    → made_with s draws composite content.bytes ≡ made_file s draws composite d
is_made s draws composite d content is = ap (λ (bytes : List ℕ). made_with s draws composite bytes) is.bytes

pub is_sealed : (s : Settings) (draws : Draws) (composite : List ℕ) (d : BareDoc) (content : SecretBuffer) → IsWritten s draws d content
    → IsSealedWith s draws composite content.bytes
    → SealedPayload (made_file s draws composite d) composite (made_file_payload s draws d)
is_sealed s draws composite d content is h =
    subst (λ (bytes : List ℕ). SealedPayload bytes composite (made_file_payload s draws d)) (is_made s draws composite d content is)
    (h (attached_files s.version d) (document_text s draws d) is.apart is.bytes)
