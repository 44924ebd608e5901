-- The bytes that are made are a sealed file with the payload that they are made from.
use Rattle.std.proofs.Common.{◌≡◌, ℕ, zero, suc, ◌+◌, ◌<◌, ◌≤◌, ◌^◌, List, [], ◌∷◌, ◌++◌, length, take, drop, refl, sym, ◌∙◌, ap, arith, append_assoc, append-nil, length-append, length-drop, length-take, take-append-drop, take_at, drop_at, Some, Ok, Err, cond}
use Rattle.std.specs.List.{AllByRecursion}
use Rattle.std.proofs.lemmas.List.Elements.{All-from_recursion}
use Rattle.std.proofs.lemmas.Slice.Eq.{bytes_eq-Decides}
use Rattle.sha2.specs.Sha256.{sha256}
use Rattle.sha2.proofs.Facts256.{length-sha256}
use Rattle.mac_core.specs.Blocks.{IsContent, IsWhole, block, blocks, concat_contents}
use Rattle.mac_core.specs.Contents.{contents_of}
use Rattle.mac_core.specs.Hmac.{hmac}
use Rattle.mac_core.specs.HashedBlocks.{AreHashed, hashed_block, hashed_blocks, hashed_contents_of}
use Rattle.mac_core.proofs.ContentSteps as contents
use Rattle.mac_core.proofs.HashedBlocks.{contents_of-AreHashed}
use Rattle.stream_core.specs.InnerStream.{Keystream}
use Rattle.vault_model.specs.declared.forms.FileVersion.{FileVersion}
use Rattle.vault_model.specs.declared.forms.FileVersion.TheVariants.{V31, V40, V41}
use Rattle.kdbx_frame.specs.declared.settings.Settings.{Settings}
use Rattle.kdbx_frame.specs.Header.{sums_len}
use Rattle.kdbx_frame.specs.Fields.{header_limit}
use Rattle.kdbx_frame.specs.Settings.{IsInOrder}
use Rattle.kdbx_inner.specs.Inner.{Binary}
use Rattle.kdbx_payload.specs.Ciphers.{deciphered_text}
use Rattle.kdbx_payload.specs.HeaderMacs.{base_of, header_mac, key_of}
use Rattle.kdbx_payload.specs.Parts.{after_header, after_start, frame_or_refusal, header_check, of_blocks, right_padding, stored_mac}
use Rattle.kdbx_payload.specs.Payloads.{Payload, hidden_text_31, hidden_text_4, payload_in_31, payload_in_4, payload_of}
use Rattle.kdbx_payload.specs.declared.fail.PayloadFail.TheVariants.{KeyOrHeader}
use Rattle.kdbx_payload.proofs.SealedPayloads.{after_start_again, is_sealed}
use Rattle.kdbx_payload.proofs.Steps.{each}
use Rattle.kdbx_writing.specs.declared.draws.Draws.{Draws}
use Rattle.kdbx_writing.specs.Draws.{AreDrawn}
use Rattle.kdbx_writing.specs.Header.{header_with, settings_with, spelled_header}
use Rattle.kdbx_writing.specs.Inner.{FitsField, inner_with, spelled_inner}
use Rattle.kdbx_writing.proofs.HeaderReading.{header_again, header_again_31}
use Rattle.kdbx_writing.proofs.InnerReading.{inner_again}
use Rattle.kdbx_seal.specs.PayloadAnswers.{IsSealedWith}
use Rattle.kdbx_blocks.specs.Pieces.{blocks_to_end, hashed_to_end, pieces, pieces_of}
use Rattle.kdbx_seal.specs.PayloadMade.{chacha_keystream, content_of, file_of_4, made_payload, made_with, plain_content_31, written_keystream}

-- The pieces put end to end are the content.
pieces_joined : (f n : ℕ) (xs : List ℕ) → 0 < n → length xs ≤ f → concat_contents (pieces_of f n xs) ≡ xs
unfolding pieces_of
pieces_joined zero n [] some within = refl
pieces_joined zero n (x ∷ xs) some within = absurd (omega (arith, within))
pieces_joined (suc f) n [] some within = refl
pieces_joined (suc f) n (x ∷ xs) some within =
    let rest = drop n (x ∷ xs) in
    ap (λ (l : List ℕ). take n (x ∷ xs) ++ l) (pieces_joined f n rest some (omega (arith, length-drop n (x ∷ xs), within, some)))
    ∙ take-append-drop n (x ∷ xs)

-- Each piece is the content of a block.
pieces_fit : (f n : ℕ) (xs : List ℕ) → 0 < n → n < 2 ^ 32 → AllByRecursion IsContent (pieces_of f n xs)
unfolding pieces_of
pieces_fit zero n xs some small = tt
pieces_fit (suc f) n [] some small = tt
pieces_fit (suc f) n (x ∷ xs) some small =
    let len = length-take n (x ∷ xs) in
    ((omega (arith, len, some), omega (arith, len, small)), pieces_fit f n (drop n (x ∷ xs)) some small)

mac_len : (base header : List ℕ) → length (header_mac base header) ≡ 32
unfolding header_mac hmac
mac_len base header = length-sha256 _

-- ---- the parts of a file

record Apart (base header content : List ℕ) : Type 0 where
  pub start : take (length header) (file_of_4 base header content) ≡ header
  pub mac : stored_mac (length header) (file_of_4 base header content) ≡ header_mac base header
  pub rest : after_header (length header) (file_of_4 base header content) ≡ blocks_to_end base 0 (pieces content)

apart : (base header content : List ℕ) → Apart base header content
apart base header content =
    let hash = sha256 header in
    let mac = header_mac base header in
    let body = blocks_to_end base 0 (pieces content) in
    let tail = hash ++ mac ++ body in
    let file = file_of_4 base header content in
    let is : file ≡ header ++ tail =
    append_assoc (header ++ hash) mac body ∙ append_assoc header hash (mac ++ body) ∙ ap (λ (l : List ℕ). header ++ l) (sym (append_assoc hash mac body)) in
    let after : drop (length header) file ≡ tail = ap (drop (length header)) is ∙ drop_at header tail (length header) refl in
    let sums : length (hash ++ mac) ≡ 64 = omega (arith, length-append hash mac, length-sha256 header, mac_len base header) in
    record {
      start = ap (take (length header)) is ∙ take_at header tail (length header) refl;
      mac = ap (λ (l : List ℕ). drop 32 (take 64 l)) after ∙ ap (drop 32) (take_at (hash ++ mac) body 64 sums) ∙ drop_at hash mac 32 (length-sha256 header);
      rest = ap (drop 64) after ∙ drop_at (hash ++ mac) body 64 sums;
    }

-- The blocks of a content are read as the content.
content_again : (base : List ℕ) (size : ℕ) (bytes content : List ℕ) → bytes ≡ blocks_to_end base 0 (pieces content)
    → contents_of base size bytes ≡ Ok content
content_again base size bytes content is =
    let parts = pieces content in
    let none_before : 0 + length parts ≡ length parts = omega arith in
    let whole : IsWhole base bytes parts = record {
      tail = [];
      each = All-from_recursion IsContent parts (pieces_fit (length content) 1048576 content (omega arith) (omega arith));
      is = is ∙ sym (append-nil (blocks_to_end base 0 parts)) ∙ ap (λ k. blocks base 0 parts ++ block base k [] ++ []) none_before;
    } in
    contents.contents_of-AreContents base size bytes (Ok content)
    (parts, (whole, sym (pieces_joined (length content) 1048576 content (omega arith) (omega arith))))

mac_again : (base header stored : List ℕ) → stored ≡ header_mac base header → header_check base header stored ≡ Ok tt
mac_again base header stored h =
    ap (λ b. cond b (Ok tt) (Err (KeyOrHeader stored (header_mac base header)))) ((bytes_eq-Decides stored (header_mac base header)).1 h)

-- ---- the whole file, in version 4

hidden_again : (s : Settings) (d : Draws) (base key content text : List ℕ) → deciphered_text s.cipher key d.iv content ≡ Some text
    → hidden_text_4 base key (header_with s d) (file_of_4 base (spelled_header s d) content) ≡ Ok text
unfolding hidden_text_4
hidden_again s d base key content text undone =
    let header = spelled_header s d in
    let file = file_of_4 base header content in
    let a = apart base header content in
    each _ _ tt text (ap (λ (h : List ℕ). header_check base h (stored_mac (length header) file)) a.start ∙ mac_again base header _ a.mac)
    (each _ _ content text (ap of_blocks (content_again base (length file) _ content a.rest)) (ap right_padding undone))

-- The payload of a file of version 4.
abbrev payload_4 : Settings → Draws → List ℕ → List Binary → List ℕ → Payload
payload_4 s d hash pool text = record { settings = settings_with s d; pool = pool; stream = chacha_keystream d.stream; header_hash = hash; text = text }

payload_again : (s : Settings) (d : Draws) (hash : List ℕ) (pool : List Binary) (text : List ℕ) → length d.stream ≡ 64 → AllByRecursion FitsField pool
    → payload_in_4 (header_with s d) hash (spelled_inner d.stream pool ++ text) ≡ Ok (payload_4 s d hash pool text)
unfolding payload_in_4
payload_again s d hash pool text len small =
    let inner = spelled_inner d.stream pool in
    each _ _ (inner_with d.stream pool) (payload_4 s d hash pool text) (ap frame_or_refusal (inner_again d.stream text pool (omega (arith, len)) small))
    (each _ (λ (stream : Keystream). Ok (record { settings = settings_with s d; pool = pool; stream = stream; header_hash = hash; text = drop (length inner) (inner ++ text) }))
    (chacha_keystream d.stream) (payload_4 s d hash pool text) refl
    (ap (λ (t : List ℕ). Ok (payload_4 s d hash pool t)) (drop_at inner text (length inner) refl)))

-- Its text and its payload, from the content that was enciphered.
after_4 : (s : Settings) (d : Draws) (base content plain : List ℕ) (pool : List Binary) (text : List ℕ) → length d.stream ≡ 64
    → AllByRecursion FitsField pool → plain ≡ spelled_inner d.stream pool ++ text
    → payload_in_4 (header_with s d) (sha256 (take (length (spelled_header s d)) (file_of_4 base (spelled_header s d) content))) plain
    ≡ Ok (payload_4 s d (sha256 (spelled_header s d)) pool text)
after_4 s d base content plain pool text len small same =
    let header = spelled_header s d in
    ap (λ (h : List ℕ). payload_in_4 (header_with s d) (sha256 h) plain) (apart base header content).start
    ∙ ap (payload_in_4 (header_with s d) (sha256 header)) same ∙ payload_again s d (sha256 header) pool text len small

-- ---- the whole file, in version 3.1

hashed_again : (size : ℕ) (bytes text : List ℕ) → bytes ≡ hashed_to_end 0 (pieces text) → hashed_contents_of size bytes ≡ Ok text
hashed_again size bytes text is =
    let parts = pieces text in
    let none_before : 0 + length parts ≡ length parts = omega arith in
    let right : AreHashed bytes parts = record {
      tail = [];
      each = All-from_recursion IsContent parts (pieces_fit (length text) 1048576 text (omega arith) (omega arith));
      is = is ∙ sym (append-nil (hashed_to_end 0 parts)) ∙ ap (λ (k : ℕ). hashed_blocks 0 parts ++ hashed_block k [] ++ []) none_before;
    } in
    contents_of-AreHashed size bytes parts right ∙ ap Ok (pieces_joined (length text) 1048576 text (omega arith) (omega arith))

started : (d : Draws) (plain text : List ℕ) → length d.start ≡ 32 → plain ≡ plain_content_31 d text → after_start d.start plain ≡ Ok text
started d plain text len same =
    let body = hashed_to_end 0 (pieces text) in
    after_start_again d.start plain text (ap (λ (xs : List ℕ). take 32 xs) same ∙ take_at d.start body 32 len)
    (hashed_again (length plain) (drop 32 plain) text (ap (λ (xs : List ℕ). drop 32 xs) same ∙ drop_at d.start body 32 len))

-- Settings of version 3.1.
abbrev in_31 : Settings → Settings
in_31 s = record s { version = V31 }

hidden_again_31 : (s : Settings) (d : Draws) (key content plain text : List ℕ) → length d.start ≡ 32
    → deciphered_text s.cipher key d.iv content ≡ Some plain → plain ≡ plain_content_31 d text
    → hidden_text_31 key (header_with (in_31 s) d) (spelled_header (in_31 s) d ++ content) ≡ Ok text
unfolding hidden_text_31
hidden_again_31 s d key content plain text len undone same =
    let header = spelled_header (in_31 s) d in
    each _ _ plain text
    (ap (λ (xs : List ℕ). right_padding (deciphered_text s.cipher key d.iv xs)) (drop_at header content (length header) refl) ∙ ap right_padding undone)
    (started d plain text len same)

payload_again_31 : (s : Settings) (d : Draws) (content text : List ℕ) (pool : List Binary) → pool ≡ []
    → payload_in_31 (header_with (in_31 s) d) (sha256 (take (length (spelled_header (in_31 s) d)) (spelled_header (in_31 s) d ++ content))) text
    ≡ Ok (made_payload (in_31 s) d pool text)
unfolding payload_in_31
payload_again_31 s d content text pool none =
    let header = spelled_header (in_31 s) d in
    let front = take_at header content (length header) refl in
    let file = header ++ content in
    each _ (λ (stream : Keystream). Ok (record { settings = settings_with (in_31 s) d; pool = []; stream = stream; header_hash = sha256 (take (length header) file); text = text }))
    (written_keystream V31 d) (made_payload (in_31 s) d pool text) refl
    (λ i. Ok (record { settings = settings_with (in_31 s) d; pool = sym none i; stream = written_keystream V31 d; header_hash = sha256 (front i); text = text }))

-- ---- the whole file

-- In a version.
made_in : (v : FileVersion) (s : Settings) (d : Draws) (composite plain : List ℕ)
    → IsInOrder (record s { version = v }) → AreDrawn (record s { version = v }) d
    → length (spelled_header (record s { version = v }) d) + sums_len v ≤ header_limit
    → deciphered_text s.cipher (key_of (header_with (record s { version = v }) d) composite) d.iv
    (content_of (key_of (header_with (record s { version = v }) d) composite) (record s { version = v }) d plain) ≡ Some plain
    → IsSealedWith (record s { version = v }) d composite plain
unfolding made_with payload_of
made_in V31 s d composite plain order drawn within undone pool text none same =
    let t = in_31 s in
    let key = key_of (header_with t d) composite in
    let header = spelled_header t d in
    let content = content_of key t d plain in
    let payload = made_payload t d pool text in
    is_sealed (header ++ content) composite payload
    (each _ _ (header_with t d) payload (ap frame_or_refusal (header_again_31 t d content refl order drawn (omega (arith, within))))
    (each _ _ text payload (hidden_again_31 s d key content plain text drawn.start.len undone same) (payload_again_31 s d content text pool none)))
made_in V40 s d composite plain order drawn within undone pool text small same =
    let t = record s { version = V40 } in
    let base = base_of (header_with t d) composite in
    let key = key_of (header_with t d) composite in
    let header = spelled_header t d in
    let content = content_of key t d plain in
    let payload = made_payload t d pool text in
    let body = blocks_to_end base 0 (pieces content) in
    is_sealed (file_of_4 base header content) composite payload
    (each _ _ (header_with t d) payload (ap frame_or_refusal (header_again t d (header_mac base header) body tt order drawn (mac_len base header) within))
    (each _ _ plain payload (hidden_again t d base key content plain undone) (after_4 t d base content plain pool text drawn.stream.len small same)))
made_in V41 s d composite plain order drawn within undone pool text small same =
    let t = record s { version = V41 } in
    let base = base_of (header_with t d) composite in
    let key = key_of (header_with t d) composite in
    let header = spelled_header t d in
    let content = content_of key t d plain in
    let payload = made_payload t d pool text in
    let body = blocks_to_end base 0 (pieces content) in
    is_sealed (file_of_4 base header content) composite payload
    (each _ _ (header_with t d) payload (ap frame_or_refusal (header_again t d (header_mac base header) body tt order drawn (mac_len base header) within))
    (each _ _ plain payload (hidden_again t d base key content plain undone) (after_4 t d base content plain pool text drawn.stream.len small same)))

pub made_is_sealed : (s : Settings) (d : Draws) (composite plain : List ℕ)
    → IsInOrder s → AreDrawn s d → length (spelled_header s d) + sums_len s.version ≤ header_limit
    → deciphered_text s.cipher (key_of (header_with s d) composite) d.iv (content_of (key_of (header_with s d) composite) s d plain) ≡ Some plain
    → IsSealedWith s d composite plain
made_is_sealed s = made_in s.version s
