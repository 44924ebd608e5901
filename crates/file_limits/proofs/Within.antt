-- What is written is within the limit.
use Rattle.std.proofs.Common.{◌≡◌, ℕ, ◌+◌, ◌-◌, ◌*◌, ◌/◌, ◌≤◌, Bool, true, false, cond, List, ◌++◌, length, take, drop, replicate, drop_at, Option, Some, None, Result, Ok, Err, refl, ap, subst, arith, length-append}
use Rattle.std.specs.Prelude.{nat_lt}
use Rattle.std.proofs.lemmas.Bool.{ltb-false}
use Rattle.std.proofs.lemmas.List.{length-replicate, length-take-le}
use Rattle.sha2.specs.Sha256.{sha256}
use Rattle.sha2.proofs.Facts256.{length-sha256}
use Rattle.stream_core.specs.InnerStream.{Keystream, NoKeystream}
use Rattle.vault_model.specs.declared.forms.DocForm.{DocForm}
use Rattle.vault_model.specs.declared.forms.DocForm.TheVariants.{Plain, V3, V4}
use Rattle.vault_model.specs.declared.forms.FileVersion.{FileVersion}
use Rattle.vault_model.specs.declared.forms.FileVersion.TheVariants.{V31, V40, V41}
use Rattle.vault_model.specs.Tree.{BareDoc}
use Rattle.doc_spelling.specs.Documents.{spelled_document}
use Rattle.doc_spelling.specs.Pool.{pool_of}
use Rattle.doc_spelling.specs.Ranges.{count_all, tree_nodes}
use Rattle.doc_write.specs.Written.{binary_len, up_to_u64, write_outcome, written_len}
use Rattle.doc_write.specs.declared.writing.WriteFail.{WriteFail}
use Rattle.doc_write.specs.declared.writing.WriteFail.TheVariants as write
use Rattle.kdbx_frame.specs.declared.settings.Cipher.{Cipher}
use Rattle.kdbx_frame.specs.declared.settings.Cipher.TheVariants.{Aes, ChaCha, Twofish}
use Rattle.kdbx_frame.specs.declared.settings.Settings.{Settings}
use Rattle.kdbx_frame.specs.Settings.{iv_len}
use Rattle.kdbx_frame.specs.Fields.{file_limit, header_limit}
use Rattle.kdbx_payload.specs.HeaderMacs.{base_of, header_mac, key_of}
use Rattle.kdbx_writing.specs.declared.draws.Draws.{Draws}
use Rattle.kdbx_writing.specs.Draws.{AreDrawn, AreFront, start_len, stream_len}
use Rattle.kdbx_writing.specs.Header.{header_with, spelled_header}
use Rattle.kdbx_writing.specs.Inner.{spelled_inner}
use Rattle.cli_sealing.specs.KdbxSeal.Answers.{refusal_of, size_refusal}
use Rattle.cli_sealing.specs.KdbxSeal.Made.{files_of, made_file, text_4}
use Rattle.kdbx_blocks.specs.Pieces.{blocks_to_end, hashed_to_end, pieces}
use Rattle.cli_sealing.specs.KdbxSeal.PayloadMade.{chacha_keystream, content_of, file_of_4, made_with, plain_content_31, plain_content_4, written_keystream}
use Rattle.cli_sealing.specs.KdbxSeal.declared.fail.SealFail.{SealFail}
use Rattle.cli_sealing.specs.KdbxSeal.declared.fail.SealFail.TheVariants as seal
use Rattle.kdbx_blocks.proofs.HashedPieces.{hashed_to_end_len}
use Rattle.cli_messages.specs.declared.answers.Refusal.{Refusal}
use Rattle.cli_writing.specs.Drawing.{next_bytes}
use Rattle.cli_writing.specs.Writing.{NewFile, file_or_refusal}
use Rattle.cli_sealing.specs.Draws.{after_iv, after_stream, draws_of, front_of}
use Rattle.cli_sealing.specs.Sealing.{file_by, file_unless, settings_for}
use Rattle.file_limits.specs.Limits.{MadeFilesAreWithin, PlainFilesAreWithin, SealedFilesAreWithin}
use Rattle.file_limits.proofs.Lengths.{blocks_within, enciphered_within, header_mac_long, inner_long}

-- ---- what is not refused

no_refusal : (b : Bool) (why : SealFail) → cond b (Some why) None ≡ None → b ≡ false
no_refusal true why e = cc e
no_refusal false why e = refl

not_large : (n : ℕ) (many large : Bool) (why other : WriteFail) (text : List ℕ) → refusal_of (cond many (Err why) (cond large (Err other) (Ok text))) n ≡ None
    → (large ≡ false) × (nat_lt header_limit n ≡ false)
not_large n true large why other text e = cc e
not_large n false true why other text e = cc e
not_large n false false why other text e = (refl, no_refusal (nat_lt header_limit n) (seal.TooLarge n) e)

-- A document that is not refused, and the header of its file.
fits : (form : DocForm) (k : Keystream) (hash : Option (List ℕ)) (d : BareDoc) (end : ℕ) → refusal_of (write_outcome form k hash d) end ≡ None
    → (written_len form k hash d ≤ 134086656) × (end ≤ header_limit)
fits form k hash d end e =
    let r = not_large end (nat_lt 262144 (tree_nodes d.tree)) (nat_lt 134086656 (written_len form k hash d)) (write.TooMany (up_to_u64 (tree_nodes d.tree)))
    (write.TooLarge (up_to_u64 (written_len form k hash d))) (spelled_document form k hash d) e in
    (ltb-false 134086656 (written_len form k hash d) r.0, ltb-false header_limit end r.1)

-- ---- files of version 4

sum_4 : (all three two header hash mac blocks content plain inner text pool key : ℕ) → all ≡ three + blocks → three ≡ two + mac → two ≡ header + hash → hash ≡ 32 → mac ≡ 32
    → (content ≤ 134217728 → blocks ≤ content + 4644) → content ≤ plain + 16 → plain ≡ inner + text → inner ≡ 19 + key + pool → key ≡ 64 → text + pool ≤ 134086656 → header + 64 ≤ 65536
    → all ≤ 134217728
sum_4 all three two header hash mac blocks content plain inner text pool key a b c d e f g h i j k l =
    let small : content ≤ 134217728 = omega (arith, g, h, i, j, k) in
    let few = f small in
    omega (arith, a, b, c, d, e, few, g, h, i, j, k, l)

module _ (s : Settings) (draws : Draws) (composite : List ℕ) (d : BareDoc) (drawn : AreDrawn s draws) where
  abbrev header : List ℕ
  header = spelled_header s draws

  abbrev base : List ℕ
  base = base_of (header_with s draws) composite

  abbrev content : List ℕ → List ℕ
  content plain = content_of (key_of (header_with s draws) composite) s draws plain

  within_4 : written_len V4 (chacha_keystream draws.stream) None d ≤ 134086656 → length header + 64 ≤ header_limit → length (file_of_4 base header (content (plain_content_4 draws (files_of d) (text_4 draws d)))) ≤ file_limit
  within_4 whole head =
      let plain = plain_content_4 draws (files_of d) (text_4 draws d) in
      let rest = blocks_to_end base 0 (pieces (content plain)) in
      let front = header ++ sha256 header in
      sum_4 _ (length (front ++ header_mac base header)) (length front) (length header) (length (sha256 header)) (length (header_mac base header)) (length rest) (length (content plain)) (length plain)
      (length (spelled_inner draws.stream (files_of d))) (length (text_4 draws d)) (count_all binary_len (pool_of d)) (length draws.stream)
      (length-append (front ++ header_mac base header) rest) (length-append front (header_mac base header)) (length-append header (sha256 header))
      (length-sha256 header) (header_mac_long base header) (blocks_within base (content plain)) (enciphered_within s.cipher (key_of (header_with s draws) composite) draws.iv plain)
      (length-append (spelled_inner draws.stream (files_of d)) (text_4 draws d)) (inner_long draws.stream (pool_of d)) drawn.stream.len whole head

-- ---- files of version 3.1

sum_31 : (all header content plain start hashed text : ℕ) → all ≡ header + content → content ≤ plain + 16 → plain ≡ start + hashed → start ≡ 32 → hashed ≤ text + 5240
    → text ≤ 134086656 → header ≤ 65536 → all ≤ 134217728
sum_31 all header content plain start hashed text a b c d e f g = omega (arith, a, b, c, d, e, f, g)

hashed_few : (hashed text : ℕ) → hashed ≡ text + 40 * ((text + 1048575) / 1048576) + 40 → text ≤ 134086656 → hashed ≤ text + 5240
hashed_few hashed text a b = omega (arith, a, b)

with_none : (n most : ℕ) → n + 0 ≤ most → n ≤ most
with_none n most h = omega (arith, h)

-- ---- by the version

by_version : (v : FileVersion) (s : Settings) (draws : Draws) (composite : List ℕ) (d : BareDoc) → AreDrawn (record s { version = v }) draws
    → size_refusal (record s { version = v }) draws d ≡ None → length (made_file (record s { version = v }) draws composite d) ≤ file_limit
unfolding made_with
by_version V31 s draws composite d drawn e =
    let t : Settings = record s { version = V31 } in
    let header = spelled_header t draws in
    let f = fits V3 (written_keystream V31 draws) (Some (sha256 header)) d (length header + 0) e in
    let text = spelled_document V3 (written_keystream V31 draws) (Some (sha256 header)) d in
    let hashed = hashed_to_end 0 (pieces text) in
    let plain = plain_content_31 draws text in
    let key = key_of (header_with t draws) composite in
    let short : length text ≤ 134086656 = with_none (length text) 134086656 f.0 in
    let head : length header ≤ 65536 = with_none (length header) 65536 f.1 in
    sum_31 _ (length header) (length (content_of key t draws plain)) (length plain) (length draws.start) (length hashed) (length text)
    (length-append header (content_of key t draws plain)) (enciphered_within s.cipher key draws.iv plain) (length-append draws.start hashed) drawn.start.len
    (hashed_few (length hashed) (length text) (hashed_to_end_len text) short) short head
by_version V40 s draws composite d drawn e =
    let t : Settings = record s { version = V40 } in
    let f = fits V4 (chacha_keystream draws.stream) None d (length (spelled_header t draws) + 64) e in
    within_4 t draws composite d drawn f.0 f.1
by_version V41 s draws composite d drawn e =
    let t : Settings = record s { version = V41 } in
    let f = fits V4 (chacha_keystream draws.stream) None d (length (spelled_header t draws) + 64) e in
    within_4 t draws composite d drawn f.0 f.1

pub made_files_are_within : MadeFilesAreWithin
made_files_are_within s draws composite d drawn e = by_version s.version s draws composite d drawn e

-- ---- over dice

front_fits : (n size : ℕ) (dice : List ℕ) → n ≤ size → AreFront n size (front_of n size dice)
unfolding next_bytes
front_fits n size dice within =
    let front = take n (dice ++ replicate n 0) in
    let len : length front ≡ n = length-take-le n (dice ++ replicate n 0) (omega (arith, length-append dice (replicate n 0), length-replicate {A = ℕ} n 0)) in
    record {
      len = omega (arith, length-append front (replicate (size - n) 0), len, length-replicate {A = ℕ} (size - n) 0, within);
      rest = drop_at front (replicate (size - n) 0) n len;
    }

iv_fits : (c : Cipher) → iv_len c ≤ 16
iv_fits Aes = omega arith
iv_fits Twofish = omega arith
iv_fits ChaCha = omega arith

stream_fits : (v : FileVersion) → stream_len v ≤ 64
stream_fits V31 = omega arith
stream_fits V40 = omega arith
stream_fits V41 = omega arith

start_fits : (v : FileVersion) → start_len v ≤ 32
start_fits V31 = omega arith
start_fits V40 = omega arith
start_fits V41 = omega arith

pub are_drawn : (s : Settings) (dice : List ℕ) → AreDrawn s (draws_of s dice)
are_drawn s dice = record {
  kdf = front_fits 32 32 dice (omega arith);
  seed = front_fits 32 32 (drop 32 dice) (omega arith);
  iv = front_fits (iv_len s.cipher) 16 _ (iv_fits s.cipher);
  stream = front_fits (stream_len s.version) 64 (after_iv s dice) (stream_fits s.version);
  start = front_fits (start_len s.version) 32 (after_stream s dice) (start_fits s.version);
}

file_is : (a b : NewFile) → ◌≡◌ {A = Result NewFile Refusal} (Ok a) (Ok b) → a ≡ b
file_is a b h = cc

sealed_so : (name : List ℕ) (why : Option SealFail) (bytes : List ℕ) (file : NewFile) → file_unless name why bytes ≡ Ok file → (why ≡ None) × (bytes ≡ file.bytes)
sealed_so name None bytes file e = (refl, ap (λ (f : NewFile). f.bytes) (file_is (record { name = name; bytes = bytes }) file e))
sealed_so name (Some why) bytes file e = cc e

pub sealed_files_are_within : SealedFilesAreWithin
unfolding file_by
sealed_files_are_within name settings composite d dice file e =
    let s = settings_for settings d in
    let draws = draws_of s dice in
    let r = sealed_so name (size_refusal s draws d) (made_file s draws composite d) file e in
    subst (λ (bytes : List ℕ). length bytes ≤ file_limit) r.1 (made_files_are_within s draws composite d (are_drawn s dice) r.0)

plain_so : (name : List ℕ) (many large : Bool) (why other : WriteFail) (text : List ℕ) (file : NewFile) → file_or_refusal name (cond many (Err why) (cond large (Err other) (Ok text))) ≡ Ok file
    → (large ≡ false) × (text ≡ file.bytes)
plain_so name true large why other text file e = cc e
plain_so name false true why other text file e = cc e
plain_so name false false why other text file e = (refl, ap (λ (f : NewFile). f.bytes) (file_is (record { name = name; bytes = text }) file e))

pub plain_files_are_within : PlainFilesAreWithin
plain_files_are_within name d file e =
    let len = written_len Plain NoKeystream None d in
    let text = spelled_document Plain NoKeystream None d in
    let r = plain_so name (nat_lt 262144 (tree_nodes d.tree)) (nat_lt 134086656 len) (write.TooMany (up_to_u64 (tree_nodes d.tree))) (write.TooLarge (up_to_u64 len)) text file e in
    let short : length text ≤ 134086656 = with_none (length text) 134086656 (ltb-false 134086656 len r.0) in
    subst (λ (bytes : List ℕ). length bytes ≤ file_limit) r.1 (omega (arith, short))
