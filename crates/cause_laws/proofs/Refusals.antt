-- Refusals to open a file have their causes.
use Rattle.std.proofs.Common.{◌≡◌, ◌≢◌, ◌⊎◌, ◌<◌, ◌+◌, ◌%◌, ℕ, Bool, true, false, inl, inr, cond, List, length, map, take, drop, Option, None, Some, Result, Ok, Err, bytes_eq, refl, sym, ap, subst, ◌∙◌}
use Rattle.std.specs.Prelude.{◌==◌}
use Rattle.std.proofs.lemmas.Bool.{eq-eqb}
use Rattle.std.proofs.lemmas.List.{get_or-drop}
use Rattle.std.proofs.lemmas.Slice.Eq.{bytes_eq-Decides}
use Rattle.outside_core.specs.Results.{◌>>=◌}
use Rattle.sha2.specs.Sha256.{sha256}
use Rattle.block_core.specs.Aes.{aes256_decipher}
use Rattle.block_core.specs.Cbc.{cbc_deciphered}
use Rattle.block_core.specs.Padding.{IsBeforePadding, unpadded}
use Rattle.block_core.specs.Twofish.{twofish256_decipher}
use Rattle.block_core.proofs.PaddingSteps.{unpadded_is}
use Rattle.mac_core.specs.Blocks.{concat_contents}
use Rattle.mac_core.specs.Contents.{AreContents, contents_of}
use Rattle.mac_core.specs.HashedBlocks.{hashed_contents_of}
use Rattle.mac_core.specs.declared.fail.BlockFail.{BlockFail}
use Rattle.mac_core.proofs.ContentSteps as contents
use Rattle.mac_core.proofs.HashedBlocks.{contents_of-AreHashed}
use Rattle.stream_core.specs.InnerStream.{Keystream, keystream_of}
use Rattle.vault_model.specs.declared.forms.FileVersion.{FileVersion}
use Rattle.vault_model.specs.declared.forms.FileVersion.TheVariants.{V31, V40, V41}
use Rattle.vault_model.proofs.Tests.{apart}
use Rattle.doc_forms.specs.Documents.{DocumentAndHash}
use Rattle.doc_forms.specs.declared.fails.DocFail.{DocFail}
use Rattle.kdbx_frame.specs.Header.{header_of}
use Rattle.kdbx_frame.specs.declared.header.Header.{Header}
use Rattle.kdbx_frame.specs.declared.settings.Cipher.{Cipher}
use Rattle.kdbx_frame.specs.declared.settings.Cipher.TheVariants.{Aes, Twofish, ChaCha}
use Rattle.kdbx_parts.specs.declared.fail.FrameFail.{FrameFail}
use Rattle.kdbx_inner.specs.Inner.{InnerFields, inner_of}
use Rattle.kdbx_payload.specs.Ciphers.{cbc_text, deciphered_text}
use Rattle.kdbx_payload.specs.HeaderMacs.{base_of, header_mac, key_of}
use Rattle.kdbx_payload.specs.Parts.{after_header, content_31, frame_or_refusal, header_check, known_stream, of_blocks, right_padding, stored_mac}
use Rattle.kdbx_payload.specs.Payloads.{Payload, hidden_text, hidden_text_31, hidden_text_4, payload_in, payload_in_31, payload_in_4, payload_of}
use Rattle.kdbx_payload.specs.Sealed.{SealedPayload}
use Rattle.kdbx_payload.specs.declared.fail.PayloadFail.{PayloadFail}
use Rattle.kdbx_payload.specs.declared.fail.PayloadFail.TheVariants as why
use Rattle.kdbx_payload.proofs.SealedPayloads as payloads
use Rattle.kdbx_open.specs.Causes.{of_payload}
use Rattle.kdbx_open.specs.Documents.{attachment, document_or_refusal, hash_check}
use Rattle.kdbx_open.specs.Opening.{opening, payload_or_refusal}
use Rattle.kdbx_open.specs.declared.fail.OpenFail.{OpenFail}
use Rattle.kdbx_open.specs.declared.fail.OpenFail.TheVariants.{Doc, HeaderHash}
use Rattle.cause_laws.specs.Causes.{AreBytes, Begins, HasContent, HasNoPadding, HasWrongBlocksIn, IsBadlyPadded, NamesStream, OpenCause, RefusalsHaveCauses, read_of, setting_of}
use Rattle.document_cause_laws.proofs.DocumentRefusals.{document_refusals_have_causes}
use Rattle.header_cause_laws.proofs.HeaderRefusals.{header_refusals_have_causes}
use Rattle.inner_cause_laws.proofs.InnerRefusals.{inner_refusals}

-- ---- steps that are refused

abbrev fail_in : {A E : Type 0} → E → Result A E → E
fail_in e (Ok x) = e
fail_in e (Err f) = f

-- A refusal of two steps is one of the first, or one of the second after the first.
refused_at : {A B E : Type 0} (part : Result A E) (next : A → Result B E) (fail : E) → (part >>= next) ≡ Err fail → (part ≡ Err fail) ⊎ ((x : A) × ((part ≡ Ok x) × (next x ≡ Err fail)))
refused_at (Ok x) next fail h = inr (x, (refl, h))
refused_at (Err e) next fail h = inl (ap Err (ap (fail_in e) h))

same_fail : {A E : Type 0} (e fail : E) → ◌≡◌ {A = Result A E} (Err e) (Err fail) → e ≡ fail
same_fail e fail h = ap (fail_in e) h

none_some : {A B : Type 0} (x : A) → None ≡ Some x → B
none_some x h = cc h

differs : (a b : List ℕ) → bytes_eq a b ≡ false → a ≢ b
differs a b off = λ same. apart (bytes_eq a b) ((bytes_eq-Decides a b).1 same) off

-- ---- paddings

no_padding : (decipher : List ℕ → List ℕ) (iv content : List ℕ) → cbc_text decipher iv content ≡ None → HasNoPadding decipher iv content
no_padding decipher iv content h = by (length content % 16 == 0) refl h
  where
    by : (b : Bool) → (length content % 16 == 0) ≡ b → cond b (unpadded (cbc_deciphered decipher iv content)) None ≡ None → HasNoPadding decipher iv content
    by true e k = inr (subst (IsBeforePadding (cbc_deciphered decipher iv content)) k (unpadded_is (cbc_deciphered decipher iv content)))
    by false e k = inl (λ whole. apart (length content % 16 == 0) (eq-eqb (length content % 16) 0 whole) e)

badly_padded : (cipher : Cipher) (key iv content : List ℕ) → deciphered_text cipher key iv content ≡ None → IsBadlyPadded cipher key iv content
badly_padded Aes key iv content h = no_padding (aes256_decipher key) iv content h
badly_padded Twofish key iv content h = no_padding (twofish256_decipher key) iv content h
badly_padded ChaCha key iv content h = cc h

-- ---- streams

unknown : (id : ℕ) (key : List ℕ) → keystream_of id key ≡ None → (id ≢ 2) × (id ≢ 3)
unknown id key none = (
  λ same. none_some _ (sym none ∙ ap (λ n. keystream_of n key) same),
  λ same. none_some _ (sym none ∙ ap (λ n. keystream_of n key) same),
)

-- ---- the parts of a file

-- The cause of a refusal of the payload.
abbrev Cause : PayloadFail → List ℕ → List ℕ → Type 0
Cause fail file composite = OpenCause (of_payload fail) file composite

module _ (file composite : List ℕ) (low : AreBytes file) (fail : PayloadFail) where
  -- a refusal that is this one
  is_so : (f : PayloadFail) → f ≡ fail → Cause f file composite → Cause fail file composite
  is_so f same c = subst (λ (p : PayloadFail). Cause p file composite) same c

  in_header : (r : Result Header FrameFail) → header_of file ≡ r → frame_or_refusal r ≡ Err fail → Cause fail file composite
  in_header (Ok header) is h = cc h
  in_header (Err f) is h = is_so (why.Frame f) (same_fail (why.Frame f) fail h) (inl (is, header_refusals_have_causes file f is))

  module _ (header : Header) (begins : Begins file header) where
    abbrev base : List ℕ
    base = base_of header composite

    abbrev key : List ℕ
    key = key_of header composite

    abbrev stored : List ℕ
    stored = stored_mac header.size file

    abbrev found : List ℕ
    found = header_mac base (take header.size file)

    in_mac : (b : Bool) → bytes_eq stored found ≡ b → ◌≡◌ {A = Result (Unit {0}) PayloadFail} (cond b (Ok tt) (Err (why.KeyOrHeader stored found))) (Err fail) → Cause fail file composite
    in_mac true e h = cc h
    in_mac false e h = is_so (why.KeyOrHeader stored found) (same_fail (why.KeyOrHeader stored found) fail h)
        (record { header = header; begins = begins; kept_is = refl; found_is = refl; apart = differs stored found e })

    low_after : AreBytes (after_header header.size file)
    low_after i = subst (λ (x : ℕ). x < 256) (sym (get_or-drop 64 (drop header.size file) i 0 ∙ get_or-drop header.size file (64 + i) 0)) (low (header.size + (64 + i)))

    abbrev IsVersion4 : FileVersion → Type 0
    IsVersion4 v = ((bf : BlockFail) → AreContents base (length file) (after_header header.size file) (Err bf) → HasWrongBlocksIn v bf base key header file)
        × ((content : List ℕ) → AreContents base (length file) (after_header header.size file) (Ok content) → HasContent v base header file content)

    module _ (four : IsVersion4 header.settings.version) where
      in_blocks : (r : Result (List ℕ) BlockFail) → contents_of base (length file) (after_header header.size file) ≡ r → of_blocks r ≡ Err fail → Cause fail file composite
      in_blocks (Ok content) is h = cc h
      in_blocks (Err bf) is h = is_so (why.Block bf) (same_fail (why.Block bf) fail h) (record {
        header = header;
        begins = begins;
        wrong = four.0 bf (subst (AreContents base (length file) (after_header header.size file)) is (contents.AreContents-contents_of base (length file) (after_header header.size file) low_after));
      })

    in_padding : (content : List ℕ) → HasContent header.settings.version base header file content → (o : Option (List ℕ)) → deciphered_text header.settings.cipher key header.iv content ≡ o → right_padding o ≡ Err fail
        → Cause fail file composite
    in_padding content has (Some text) is h = cc h
    in_padding content has None is h = is_so why.BadPadding (same_fail why.BadPadding fail h)
        (record { header = header; begins = begins; content = content; has = has; bad = badly_padded header.settings.cipher key header.iv content is })

    padding_ok : (o : Option (List ℕ)) (x : List ℕ) → right_padding o ≡ Ok x → o ≡ Some x
    padding_ok None x h = cc h
    padding_ok (Some y) x h = cc h

    blocks_ok : (r : Result (List ℕ) BlockFail) (x : List ℕ) → of_blocks r ≡ Ok x → r ≡ Ok x
    blocks_ok (Ok y) x h = cc h
    blocks_ok (Err e) x h = cc h

    in_text_4 : IsVersion4 header.settings.version → hidden_text_4 base key header file ≡ Err fail → Cause fail file composite
    unfolding hidden_text_4
    in_text_4 four h = elim (refused_at (header_check base (take header.size file) stored) _ fail h) [
      | inl a ↦ in_mac (bytes_eq stored found) refl a
      | inr a ↦ elim (refused_at (of_blocks (contents_of base (length file) (after_header header.size file))) _ fail a.1.1) [
        | inl b ↦ in_blocks four (contents_of base (length file) (after_header header.size file)) refl b
        | inr b ↦ in_padding b.0
            (four.1 b.0 (contents.IsWhole-contents_of base (length file) (after_header header.size file) b.0 (blocks_ok (contents_of base (length file) (after_header header.size file)) b.0 b.1.0)))
            (deciphered_text header.settings.cipher key header.iv b.0) refl b.1.1
      ]
    ]

    module _ (three : header.settings.version ≡ V31) where
      in_hashed : (text : List ℕ) → deciphered_text header.settings.cipher key header.iv (content_31 header.size file) ≡ Some text → take 32 text ≡ header.start
          → (r : Result (List ℕ) BlockFail) → hashed_contents_of (length text) (drop 32 text) ≡ r → of_blocks r ≡ Err fail → Cause fail file composite
      in_hashed text hides starts (Ok content) is h = cc h
      in_hashed text hides starts (Err bf) is h = is_so (why.Block bf) (same_fail (why.Block bf) fail h) (record {
        header = header;
        begins = begins;
        wrong = subst (λ (v : FileVersion). HasWrongBlocksIn v bf base key header file) (sym three)
            (text, hides, starts, λ parts right. refused parts (contents_of-AreHashed (length text) (drop 32 text) parts right));
      })
        where
          refused : (parts : List (List ℕ)) → hashed_contents_of (length text) (drop 32 text) ≡ Ok (concat_contents parts) → ⊥
          refused parts ok = cc (sym is ∙ ok)

      in_start : (text : List ℕ) → deciphered_text header.settings.cipher key header.iv (content_31 header.size file) ≡ Some text → (b : Bool) → bytes_eq (take 32 text) header.start ≡ b
          → cond b (of_blocks (hashed_contents_of (length text) (drop 32 text))) (Err why.StartBytes) ≡ Err fail → Cause fail file composite
      in_start text hides true e h = in_hashed text hides ((bytes_eq-Decides (take 32 text) header.start).0 e) (hashed_contents_of (length text) (drop 32 text)) refl h
      in_start text hides false e h = is_so why.StartBytes (same_fail why.StartBytes fail h)
          (record { header = header; begins = begins; version = three; text = text; hides = hides; apart = differs (take 32 text) header.start e })

      in_text_31 : hidden_text_31 key header file ≡ Err fail → Cause fail file composite
      unfolding hidden_text_31
      in_text_31 h = elim (refused_at (right_padding (deciphered_text header.settings.cipher key header.iv (content_31 header.size file))) _ fail h) [
        | inl a ↦ in_padding (content_31 header.size file) (subst (λ (v : FileVersion). HasContent v base header file (content_31 header.size file)) (sym three) refl)
            (deciphered_text header.settings.cipher key header.iv (content_31 header.size file)) refl a
        | inr a ↦ in_start a.0 (padding_ok (deciphered_text header.settings.cipher key header.iv (content_31 header.size file)) a.0 a.1.0) (bytes_eq (take 32 a.0) header.start) refl a.1.1
      ]

    is_four : (v : FileVersion) → IsVersion4 v → header.settings.version ≡ v → IsVersion4 header.settings.version
    is_four v four is = subst IsVersion4 (sym is) four

    in_text : (v : FileVersion) → header.settings.version ≡ v → hidden_text v base key header file ≡ Err fail → Cause fail file composite
    in_text V31 is h = in_text_31 is h
    in_text V40 is h = in_text_4 (is_four V40 (λ bf a. a, λ content a. a) is) h
    in_text V41 is h = in_text_4 (is_four V41 (λ bf a. a, λ content a. a) is) h

    module _ (text : List ℕ) (hides : hidden_text header.settings.version base key header file ≡ Ok text) where
      in_stream : (id : ℕ) (stream_key : List ℕ) → NamesStream header.settings.version header text id → (o : Option Keystream) → keystream_of id stream_key ≡ o → known_stream id o ≡ Err fail → Cause fail file composite
      in_stream id stream_key named (Some stream) is h = cc h
      in_stream id stream_key named None is h = is_so (why.StreamUnknown id) (same_fail (why.StreamUnknown id) fail h) (record {
        header = header;
        begins = begins;
        text = text;
        hides = hides;
        named = named;
        not_salsa = (unknown id stream_key is).0;
        not_chacha = (unknown id stream_key is).1;
      })

      in_inner : (r : Result InnerFields FrameFail) → inner_of text ≡ r → frame_or_refusal r ≡ Err fail → Cause fail file composite
      in_inner (Ok inner) is h = cc h
      in_inner (Err f) is h = is_so (why.Frame f) (same_fail (why.Frame f) fail h) (inr (header, (begins, (text, (hides, (is, inner_refusals text f is))))))

      inner_ok : (r : Result InnerFields FrameFail) (x : InnerFields) → frame_or_refusal r ≡ Ok x → r ≡ Ok x
      inner_ok (Ok y) x h = cc h
      inner_ok (Err e) x h = cc h

      in_fields_4 : (hash : List ℕ) → ((inner : InnerFields) → inner_of text ≡ Ok inner → NamesStream header.settings.version header text inner.stream_id) → payload_in_4 header hash text ≡ Err fail
          → Cause fail file composite
      unfolding payload_in_4
      in_fields_4 hash names h = elim (refused_at (frame_or_refusal (inner_of text)) _ fail h) [
        | inl a ↦ in_inner (inner_of text) refl a
        | inr a ↦ elim (refused_at (known_stream a.0.stream_id (keystream_of a.0.stream_id a.0.stream_key)) _ fail a.1.1) [
          | inl b ↦ in_stream a.0.stream_id a.0.stream_key (names a.0 (inner_ok (inner_of text) a.0 a.1.0)) (keystream_of a.0.stream_id a.0.stream_key) refl b
          | inr b ↦ cc b.1.1
        ]
      ]

      in_fields_31 : (hash : List ℕ) → NamesStream header.settings.version header text header.stream_id → payload_in_31 header hash text ≡ Err fail → Cause fail file composite
      unfolding payload_in_31
      in_fields_31 hash named h = elim (refused_at (known_stream header.stream_id (keystream_of header.stream_id header.stream_key)) _ fail h) [
        | inl b ↦ in_stream header.stream_id header.stream_key named (keystream_of header.stream_id header.stream_key) refl b
        | inr b ↦ cc b.1.1
      ]

      in_fields : (v : FileVersion) → header.settings.version ≡ v → (hash : List ℕ) → payload_in v header hash text ≡ Err fail → Cause fail file composite
      in_fields V31 is hash h = in_fields_31 hash (subst (λ (v : FileVersion). NamesStream v header text header.stream_id) (sym is) refl) h
      in_fields V40 is hash h = in_fields_4 hash (λ inner a. subst (λ (v : FileVersion). NamesStream v header text inner.stream_id) (sym is) (inner, (a, refl))) h
      in_fields V41 is hash h = in_fields_4 hash (λ inner a. subst (λ (v : FileVersion). NamesStream v header text inner.stream_id) (sym is) (inner, (a, refl))) h

  header_ok : (r : Result Header FrameFail) (x : Header) → frame_or_refusal r ≡ Ok x → r ≡ Ok x
  header_ok (Ok y) x h = cc h
  header_ok (Err e) x h = cc h

  in_payload : payload_of file composite ≡ Err fail → Cause fail file composite
  unfolding payload_of
  in_payload h = elim (refused_at (frame_or_refusal (header_of file)) _ fail h) [
    | inl a ↦ in_header (header_of file) refl a
    | inr a ↦
        let header = a.0 in
        let begins = header_ok (header_of file) header a.1.0 in
        elim (refused_at (hidden_text header.settings.version (base_of header composite) (key_of header composite) header file) _ fail a.1.1) [
          | inl b ↦ in_text header begins header.settings.version refl b
          | inr b ↦ in_fields header begins b.0 b.1.0 header.settings.version refl (sha256 (take header.size file)) b.1.1
        ]
  ]

-- ---- the whole of opening

module _ (file composite : List ℕ) (low : AreBytes file) (fail : OpenFail) where
  of_this : (f : OpenFail) → f ≡ fail → OpenCause f file composite → OpenCause fail file composite
  of_this f same c = subst (λ (p : OpenFail). OpenCause p file composite) same c

  open_payload : (r : Result Payload PayloadFail) → payload_of file composite ≡ r → payload_or_refusal r ≡ Err fail → OpenCause fail file composite
  open_payload (Ok x) is h = cc h
  open_payload (Err f) is h = of_this (of_payload f) (same_fail (of_payload f) fail h) (in_payload file composite low f is)

  payload_ok : (r : Result Payload PayloadFail) (x : Payload) → payload_or_refusal r ≡ Ok x → r ≡ Ok x
  payload_ok (Ok y) x h = cc h
  payload_ok (Err e) x h = cc h

  module _ (p : Payload) (has : SealedPayload file composite p) where
    open_text : (r : Result DocumentAndHash DocFail) → read_of p ≡ r → document_or_refusal r ≡ Err fail → OpenCause fail file composite
    open_text (Ok x) is h = cc h
    open_text (Err f) is h = of_this (Doc f) (same_fail (Doc f) fail h) (record { payload = p; has = has; refused = is; cause = document_refusals_have_causes (setting_of p) (map attachment p.pool) p.text f is })

    read_ok : (r : Result DocumentAndHash DocFail) (x : DocumentAndHash) → document_or_refusal r ≡ Ok x → r ≡ Ok x
    read_ok (Ok y) x h = cc h
    read_ok (Err e) x h = cc h

    open_hash : (read : DocumentAndHash) → read_of p ≡ Ok read → (kept : Option (List ℕ)) → read.1 ≡ kept → hash_check kept p.header_hash ≡ Err fail → OpenCause fail file composite
    open_hash read is None e h = cc h
    open_hash read is (Some kept) e h = by (bytes_eq kept p.header_hash) refl h
      where
        by : (b : Bool) → bytes_eq kept p.header_hash ≡ b → ◌≡◌ {A = Result (Unit {0}) OpenFail} (cond b (Ok tt) (Err (HeaderHash kept p.header_hash))) (Err fail) → OpenCause fail file composite
        by true off k = cc k
        by false off k = of_this (HeaderHash kept p.header_hash) (same_fail (HeaderHash kept p.header_hash) fail k) (record {
          header = has.header;
          begins = has.begins;
          payload = p;
          has = has;
          read = read;
          is = is;
          keeps = e;
          found_is = sym has.hash;
          apart = differs kept p.header_hash off;
        })

  open_cause : opening file composite ≡ Err fail → OpenCause fail file composite
  unfolding opening
  open_cause h = elim (refused_at (payload_or_refusal (payload_of file composite)) _ fail h) [
    | inl a ↦ open_payload (payload_of file composite) refl a
    | inr a ↦
        let p = a.0 in
        let has = payloads.is_sealed file composite p (payload_ok (payload_of file composite) p a.1.0) in
        elim (refused_at (document_or_refusal (read_of p)) _ fail a.1.1) [
          | inl b ↦ open_text p has (read_of p) refl b
          | inr b ↦ elim (refused_at (hash_check b.0.1 p.header_hash) _ fail b.1.1) [
            | inl c ↦ open_hash p has b.0 (read_ok p has (read_of p) b.0 b.1.0) b.0.1 refl c
            | inr c ↦ cc c.1.1
          ]
        ]
  ]

pub refusals_have_causes : RefusalsHaveCauses
refusals_have_causes file composite fail low h = open_cause file composite low fail h
