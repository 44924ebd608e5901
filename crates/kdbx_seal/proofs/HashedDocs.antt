-- A document of version 3.1 that was written: its text, and the content of its file.
use Rattle.std.proofs.Common.{◌≡◌, ℕ, ◌+◌, ◌≤◌, Bool, true, false, cond, List, [], ◌++◌, length, take, drop, Option, Some, Result, Ok, Err, nat_lt, refl, sym, ◌∙◌, ap, subst, arith, length-append}
use Rattle.std.proofs.lemmas.Bool.{ltb-false}
use Rattle.std.proofs.lemmas.List.{append_assoc, drop_at, take_at}
use Rattle.sha2.specs.Sha256.{sha256}
use Rattle.secret_core.specs.Secret.{SecretBuffer}
use Rattle.stream_core.specs.InnerStream.{Keystream, SalsaKeystream, kdbx_nonce}
use Rattle.vault_model.specs.Tree.{BareDoc}
use Rattle.vault_model.specs.declared.forms.DocForm.{DocForm}
use Rattle.vault_model.specs.declared.forms.DocForm.TheVariants.{V3}
use Rattle.vault_model.specs.declared.forms.FileVersion.{FileVersion}
use Rattle.vault_model.specs.declared.forms.FileVersion.TheVariants.{V31}
use Rattle.doc_spelling.specs.Documents.{spelled_document}
use Rattle.doc_spelling.specs.Ranges.{IsWritable, tree_nodes}
use Rattle.doc_write.specs.Written.{Measures, Writes, text_or, up_to_u64, write_outcome, written_len}
use Rattle.doc_write.specs.declared.writing.WriteFail.{WriteFail}
use Rattle.doc_write.specs.declared.writing.WriteFail.TheVariants.{NoMemory, TooLarge, TooMany}
use Rattle.kdbx_frame.specs.Forms.{form_of}
use Rattle.kdbx_frame.specs.declared.settings.Settings.{Settings}
use Rattle.kdbx_writing.specs.declared.draws.Draws.{Draws}
use Rattle.kdbx_writing.specs.Header.{spelled_header}
use Rattle.kdbx_seal.specs.PayloadAnswers.{CanKeepApart}
use Rattle.kdbx_blocks.specs.Pieces.{hashed_to_end, pieces}
use Rattle.kdbx_seal.specs.PayloadMade.{plain_content, salsa_keystream, written_keystream}
use Rattle.kdbx_blocks.proofs.HashedPieces.{hashed_to_end_len}
use Rattle.kdbx_seal.specs.Answers.{IsWritten, IsWritten31, WritesContent, WritesContent31, written_document, written_document_31}
use Rattle.kdbx_seal.specs.Made.{attached_files, document_text, hash_kept, text_31}

-- ---- the text

-- The text that writing gives: it is the spelled one, and within the limit.
pub record IsText (form : DocForm) (k : Keystream) (hash : Option (List ℕ)) (d : BareDoc) (text : List ℕ) : Type 0 where
  pub is : spelled_document form k hash d ≡ text
  pub limit : length text ≤ 134086656

pub text_of_outcome : (form : DocForm) (k : Keystream) (hash : Option (List ℕ)) (d : BareDoc) (text : List ℕ) → write_outcome form k hash d ≡ Ok text
    → IsText form k hash d text
text_of_outcome form k hash d text given = by (nat_lt 262144 (tree_nodes d.tree)) given
  where
    within : (b : Bool) → nat_lt 134086656 (written_len form k hash d) ≡ b
        → ◌≡◌ {A = Result (List ℕ) WriteFail}
        (cond b (Err (TooLarge (up_to_u64 (written_len form k hash d)))) (Ok (spelled_document form k hash d))) (Ok text)
        → IsText form k hash d text
    within true e h = cc
    within false e h =
        let same : spelled_document form k hash d ≡ text = cc in
        record { is = same; limit = omega (arith, ltb-false 134086656 (written_len form k hash d) e, ap length same) }

    by : (b : Bool) → ◌≡◌ {A = Result (List ℕ) WriteFail} (cond b (Err (TooMany (up_to_u64 (tree_nodes d.tree)))) (text_or form k hash d)) (Ok text)
        → IsText form k hash d text
    by true h = cc
    by false h = within (nat_lt 134086656 (written_len form k hash d)) refl h

-- ---- the document of a file of version 3.1

module _ (s : Settings) (draws : Draws) (d : BareDoc) (is_31 : s.version ≡ V31)
    (k : Keystream) (stream : k ≡ SalsaKeystream (sha256 (take 32 draws.stream)) kdbx_nonce)
    (hash : List ℕ) (kept : hash ≡ sha256 (spelled_header s draws)) where
  -- What writing it gives is what the settings ask for.
  pub outcome_31 : written_document s draws d ≡ write_outcome V3 k (Some hash) d
  outcome_31 =
      ap (λ (v : FileVersion). write_outcome (form_of v) (written_keystream v draws) (hash_kept v s draws) d) is_31
      ∙ ap (λ (x : Keystream). write_outcome V3 x (Some (sha256 (spelled_header s draws))) d) (sym stream)
      ∙ ap (λ (x : List ℕ). write_outcome V3 k (Some x) d) (sym kept)

  -- A document that is not written has no content.
  pub not_written_31 : (e : WriteFail) → Writes (Err e) (write_outcome V3 k (Some hash) d) → WritesContent s draws d (Err e)
  not_written_31 (TooMany n) h = outcome_31 ∙ h
  not_written_31 (TooLarge n) h = outcome_31 ∙ h
  not_written_31 NoMemory h = tt

  -- The content that was written of it.
  pub is_written_31 : (text : List ℕ) (content : SecretBuffer) → length draws.start ≡ 32 → write_outcome V3 k (Some hash) d ≡ Ok text
      → content.bytes ≡ draws.start ++ hashed_to_end 0 (pieces text) → 16 ≤ content.spare → IsWritable d → IsWritten s draws d content
  is_written_31 text content len given put spare writable =
      let outcome : written_document s draws d ≡ Ok text = outcome_31 ∙ given in
      let t = text_of_outcome (form_of s.version) (written_keystream s.version draws) (hash_kept s.version s draws) d text outcome in
      record {
        bytes = put ∙ ap (λ (x : List ℕ). draws.start ++ hashed_to_end 0 (pieces x)) (sym t.is)
            ∙ sym (ap (λ (v : FileVersion). plain_content v draws (attached_files v d) (document_text s draws d)) is_31);
        spare = spare;
        limit = omega (arith, ap length put, length-append draws.start (hashed_to_end 0 (pieces text)), len, hashed_to_end_len text, t.limit);
        within = outcome ∙ ap Ok (sym t.is);
        writable = writable;
        apart = subst (λ (v : FileVersion). CanKeepApart v (attached_files v d)) (sym is_31) refl;
      }

-- ---- what was written with the hash of a header

pub writes_31 : (s : Settings) (draws : Draws) (d : BareDoc) (hash : List ℕ) (result : Result SecretBuffer WriteFail) → s.version ≡ V31
    → hash ≡ sha256 (spelled_header s draws) → length draws.start ≡ 32 → WritesContent31 hash draws d result → WritesContent s draws d result
writes_31 s draws d hash (Ok content) is_31 kept len h =
    is_written_31 s draws d is_31 (salsa_keystream draws.stream) refl hash kept (text_31 hash draws d) content len h.within h.bytes h.spare h.writable
writes_31 s draws d hash (Err NoMemory) is_31 kept len h = tt
writes_31 s draws d hash (Err (TooMany n)) is_31 kept len h =
    not_written_31 s draws d is_31 (salsa_keystream draws.stream) refl hash kept (TooMany n) h
writes_31 s draws d hash (Err (TooLarge n)) is_31 kept len h =
    not_written_31 s draws d is_31 (salsa_keystream draws.stream) refl hash kept (TooLarge n) h

-- The parts of a content that was written: the start bytes, the room for the heads, and the text.
module _ (start zeros text : List ℕ) (heads : ℕ) (start_len : length start ≡ 32) (room : length zeros ≡ heads) where
  front_len : length (start ++ zeros) ≡ 32 + heads
  front_len = omega (arith, length-append start zeros, start_len, room)

  pub parts_len : length ((start ++ zeros) ++ text) ≡ 32 + heads + length text
  parts_len = omega (arith, length-append (start ++ zeros) text, front_len)

  start_kept : take 32 ((start ++ zeros) ++ text) ≡ start
  start_kept = ap (λ (xs : List ℕ). take 32 xs) (append_assoc start zeros text) ∙ take_at start (zeros ++ text) 32 start_len

  text_kept : drop (32 + heads) ((start ++ zeros) ++ text) ≡ text
  text_kept = drop_at (start ++ zeros) text (32 + heads) front_len

  pub split_is : (old new : List ℕ) → old ≡ (start ++ zeros) ++ text → new ≡ take 32 old ++ hashed_to_end 0 (pieces (drop (32 + heads) old))
      → new ≡ start ++ hashed_to_end 0 (pieces text)
  split_is old new is split =
      split ∙ ap (λ (xs : List ℕ). take 32 xs ++ hashed_to_end 0 (pieces (drop (32 + heads) xs))) is
      ∙ ap (λ (xs : List ℕ). xs ++ hashed_to_end 0 (pieces (drop (32 + heads) ((start ++ zeros) ++ text)))) start_kept
      ∙ ap (λ (xs : List ℕ). start ++ hashed_to_end 0 (pieces xs)) text_kept

-- They were put one after the other.
pub parts_are : (empty first second third start zeros text : List ℕ) → empty ≡ [] → first ≡ empty ++ start → second ≡ first ++ zeros
    → third ≡ second ++ text → third ≡ (start ++ zeros) ++ text
parts_are empty first second third start zeros text none one two three =
    three ∙ ap (λ (xs : List ℕ). xs ++ text) (two ∙ ap (λ (xs : List ℕ). xs ++ zeros) (one ∙ ap (λ (xs : List ℕ). xs ++ start) none))

module _ (draws : Draws) (d : BareDoc) (hash : List ℕ) (len : ℕ) (measured : (k : Keystream) → Measures V3 k (Some hash) d (Ok len)) where
  pub len_limit : len ≤ 134086656
  len_limit = let limit = (measured (salsa_keystream draws.stream)).limit in omega (arith, limit)

  pub hashed_text_len : (k : Keystream) → length (spelled_document V3 k (Some hash) d) ≡ len
  hashed_text_len k = sym (measured k).text

  pub is_hashed : (content : SecretBuffer) (text : List ℕ) (k : Keystream) → k ≡ salsa_keystream draws.stream
      → content.bytes ≡ draws.start ++ hashed_to_end 0 (pieces text) → text ≡ spelled_document V3 k (Some hash) d → 16 ≤ content.spare → IsWritable d
      → IsWritten31 hash draws d content
  is_hashed content text k stream put is spare writable = record {
    bytes = put ∙ ap (λ (x : List ℕ). draws.start ++ hashed_to_end 0 (pieces x))
        (is ∙ ap (λ (x : Keystream). spelled_document V3 x (Some hash) d) stream);
    spare = spare;
    within = (measured (salsa_keystream draws.stream)).outcome;
    writable = writable;
  }
