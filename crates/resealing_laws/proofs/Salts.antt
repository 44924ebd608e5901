-- A file that is written is the same without the seed or salt that its settings had.
use Rattle.std.proofs.Common.{◌≡◌, ◌+◌, ℕ, List, [], ◌∷◌, ◌++◌, length, take, Option, Some, Result, refl, sym, ap, ◌∙◌}
use Rattle.std.specs.Int.{w32, w64, to_le_bytes}
use Rattle.sha2.specs.Sha256.{sha256}
use Rattle.vault_model.specs.Tree.{BareDoc}
use Rattle.vault_model.specs.declared.forms.FileVersion.{FileVersion}
use Rattle.vault_model.specs.declared.forms.FileVersion.TheVariants.{V31, V40, V41}
use Rattle.key_core.specs.declared.kdf.Kdf.{Kdf}
use Rattle.key_core.specs.declared.kdf.Kdf.TheVariants.{Aes, Argon}
use Rattle.doc_spelling.specs.Documents.{spelled_document}
use Rattle.cli_sealing.specs.DocWrite.Written.{write_outcome}
use Rattle.cli_sealing.specs.DocWrite.declared.writing.WriteFail.{WriteFail}
use Rattle.kdbx_frame.specs.Fields.{length_width}
use Rattle.kdbx_frame.specs.Forms.{form_of}
use Rattle.kdbx_frame.specs.Header.{signature, sums_len}
use Rattle.kdbx_frame.specs.Settings.{iv_len}
use Rattle.kdbx_frame.specs.declared.header.Header.{Header}
use Rattle.kdbx_frame.specs.declared.settings.Settings.{Settings}
use Rattle.cli_sealing.specs.KdbxPayload.HeaderMacs.{base_of, key_of}
use Rattle.cli_sealing.specs.KdbxWriting.Fields.{spelled_fields_with}
use Rattle.cli_sealing.specs.KdbxWriting.Header.{cipher_id, header_end, header_fields, public_fields, rounds_of, salsa20, settings_with, spelled_header, start_with, stream_id_with, stream_key_31, stream_key_with, version_number}
use Rattle.cli_sealing.specs.KdbxWriting.Kdf.{spelled_kdf, with_salt}
use Rattle.cli_sealing.specs.KdbxWriting.declared.draws.Draws.{Draws}
use Rattle.cli_sealing.specs.KdbxSeal.Answers.{refusal_of, size_refusal}
use Rattle.cli_sealing.specs.KdbxSeal.Made.{attached_files, hash_kept, made_file}
use Rattle.cli_sealing.specs.KdbxSeal.PayloadMade.{content_of, file_of, made_with, plain_content, written_keystream}
use Rattle.cli_messages.specs.Phases.{with_left}
use Rattle.cli_sealing.specs.Draws.{after_draws, draws_of}
use Rattle.cli_sealing.specs.Sealing.{file_by, file_unless, sealed_file, settings_for}
use Rattle.resealing_laws.specs.Salts.{AreAlike, unsalted}

-- ---- key derivations and settings

-- The seed or salt of a key derivation that gets another one is gone.
pub salted_again : (kdf : Kdf) (old salt : List ℕ) → with_salt (with_salt kdf old) salt ≡ with_salt kdf salt
salted_again (Aes rounds seed) old salt = refl
salted_again (Argon kind passes memory lanes own) old salt = refl

same_rounds : (kdf : Kdf) (salt : List ℕ) → rounds_of (with_salt kdf salt) ≡ rounds_of kdf
same_rounds (Aes rounds seed) salt = refl
same_rounds (Argon kind passes memory lanes own) salt = refl

module _ (s : Settings) (draws : Draws) where
  same_settings : settings_with (unsalted s) draws ≡ settings_with s draws
  same_settings = λ i. record s { kdf = salted_again s.kdf [] draws.kdf i }

  -- ---- the header

  -- The fields of a header of version 3.1 whose key derivation has so many rounds, and those of one of version 4 that has this key derivation.
  abbrev fields_31 : ℕ → List (ℕ × List ℕ)
  fields_31 rounds =
      (2, cipher_id s.cipher)
      ∷ (3, to_le_bytes w32 0)
      ∷ (4, draws.seed)
      ∷ (5, draws.kdf)
      ∷ (6, to_le_bytes w64 rounds)
      ∷ (7, take (iv_len s.cipher) draws.iv)
      ∷ (8, stream_key_31 draws)
      ∷ (9, draws.start)
      ∷ (10, to_le_bytes w32 salsa20) ∷ []

  abbrev fields_4 : Kdf → List (ℕ × List ℕ)
  fields_4 kdf =
      (2, cipher_id s.cipher)
      ∷ (3, to_le_bytes w32 0)
      ∷ (4, draws.seed)
      ∷ (7, take (iv_len s.cipher) draws.iv)
      ∷ (11, spelled_kdf kdf)
      ∷ public_fields s.public

  same_fields : (v : FileVersion) → header_fields v (unsalted s) draws ≡ header_fields v s draws
  same_fields V31 = ap fields_31 (same_rounds s.kdf [])
  same_fields V40 = ap fields_4 (salted_again s.kdf [] draws.kdf)
  same_fields V41 = ap fields_4 (salted_again s.kdf [] draws.kdf)

  same_header : spelled_header (unsalted s) draws ≡ spelled_header s draws
  unfolding spelled_header
  same_header =
      ap (λ (fields : List (ℕ × List ℕ)). signature ++ to_le_bytes w32 (version_number s.version) ++ spelled_fields_with (length_width s.version) fields header_end)
      (same_fields s.version)

  -- The header that is read where this one was written.
  abbrev header_by : Settings → List ℕ → Header
  header_by settings spelled = record {
    settings = settings;
    seed = draws.seed;
    iv = draws.iv;
    stream_id = stream_id_with s.version;
    stream_key = stream_key_with s.version draws;
    start = start_with s.version draws;
    size = length spelled;
  }

  -- ---- the file

  same_made : (composite plain : List ℕ) → made_with (unsalted s) draws composite plain ≡ made_with s draws composite plain
  unfolding made_with
  same_made composite plain = λ i.
      file_of s.version (base_of (header_by (same_settings i) (same_header i)) composite) (same_header i)
      (content_of (key_of (header_by (same_settings i) (same_header i)) composite) s draws plain)

  same_hash : (v : FileVersion) → hash_kept v (unsalted s) draws ≡ hash_kept v s draws
  same_hash V31 = ap (λ (header : List ℕ). Some (sha256 header)) same_header
  same_hash V40 = refl
  same_hash V41 = refl

  -- What is refused, whatever is written under the hash that the document keeps.
  refused_alike : (written : Option (List ℕ) → Result (List ℕ) WriteFail)
      → refusal_of (written (hash_kept s.version (unsalted s) draws)) (length (spelled_header (unsalted s) draws) + sums_len s.version)
      ≡ refusal_of (written (hash_kept s.version s draws)) (length (spelled_header s draws) + sums_len s.version)
  refused_alike written = λ i. refusal_of (written (same_hash s.version i)) (length (same_header i) + sums_len s.version)

  same_refusal : (doc : BareDoc) → size_refusal (unsalted s) draws doc ≡ size_refusal s draws doc
  same_refusal doc = refused_alike (λ hash. write_outcome (form_of s.version) (written_keystream s.version draws) hash doc)

  -- What is made, whatever its content is under that hash.
  made_alike : (composite : List ℕ) (content : Option (List ℕ) → List ℕ)
      → made_with (unsalted s) draws composite (content (hash_kept s.version (unsalted s) draws))
      ≡ made_with s draws composite (content (hash_kept s.version s draws))
  made_alike composite content =
      ap (λ (hash : Option (List ℕ)). made_with (unsalted s) draws composite (content hash)) (same_hash s.version)
      ∙ same_made composite (content (hash_kept s.version s draws))

  same_file : (composite : List ℕ) (doc : BareDoc) → made_file (unsalted s) draws composite doc ≡ made_file s draws composite doc
  same_file composite doc =
      made_alike composite (λ hash. plain_content s.version draws (attached_files s.version doc)
      (spelled_document (form_of s.version) (written_keystream s.version draws) hash doc))

-- ---- over dice

same_by_dice : (name : List ℕ) (s : Settings) (composite : List ℕ) (doc : BareDoc) (dice : List ℕ)
    → file_by name (unsalted s) composite doc dice ≡ file_by name s composite doc dice
unfolding file_by
same_by_dice name s composite doc dice =
    let draws = draws_of s dice in
    λ i. with_left (file_unless name (same_refusal s draws doc i) (same_file s draws composite doc i)) (after_draws s dice)

-- The file that is written of a database is the same without the seed or salt that it was opened with.
pub same_sealed : (name : List ℕ) (s : Settings) (composite : List ℕ) (doc : BareDoc) (dice : List ℕ)
    → sealed_file name (unsalted s) composite doc dice ≡ sealed_file name s composite doc dice
same_sealed name s composite doc dice = same_by_dice name (settings_for s doc) composite doc dice

pub sealed_alike : (one other : Settings) → AreAlike one other → (name composite : List ℕ) (doc : BareDoc) (dice : List ℕ)
    → sealed_file name one composite doc dice ≡ sealed_file name other composite doc dice
sealed_alike one other alike name composite doc dice =
    sym (same_sealed name one composite doc dice)
    ∙ ap (λ (s : Settings). sealed_file name s composite doc dice) alike
    ∙ same_sealed name other composite doc dice
