-- Why a header is refused, as what is so of its file.
use Rattle.std.specs.Prelude.{◌≡◌, ◌≢◌, ◌⊎◌, ◌<◌, ◌≤◌, ℕ, true, false, List, [], ◌∷◌, ◌++◌, length, Some, Ok, Err}
use Rattle.sha2.specs.Sha256.{sha256}
use Rattle.vault_model.specs.Join.{IsIn}
use Rattle.vault_model.specs.declared.forms.FileVersion.{FileVersion}
use Rattle.vault_model.specs.declared.forms.FileVersion.TheVariants.{V31, V40, V41}
use Rattle.key_core.specs.Kdf.{checked_kdf}
use Rattle.key_core.specs.declared.kdf.Kdf.{Kdf}
use Rattle.key_core.specs.declared.kdf.Kdf.TheVariants as kdf
use Rattle.key_core.specs.declared.kdf.KdfFail.TheVariants as kdf_fail
use Rattle.key_core.specs.declared.kdf.KdfField.{KdfField}
use Rattle.kdbx_parts.specs.Dictionary.{KdfDescription, aes, argon, unknown_id, wrong_version}
use Rattle.kdbx_parts.specs.Parts.{Field}
use Rattle.kdbx_parts.specs.declared.fail.FrameFail.{FrameFail}
use Rattle.kdbx_parts.specs.declared.fail.FrameFail.TheVariants.{CipherUnknown, Compressed, Dictionary, FieldLength, FieldMissing, FieldTwice, HeaderHash, KdfLimit, KdfUnknown, NoMemory, NotKdbx, TooLarge, Truncated, Variant, Version}
use Rattle.kdbx_frame.specs.Fields.{FieldsRead, HeaderFields, header_limit, length_width}
use Rattle.kdbx_frame.specs.Header.{header_of, signature}
use Rattle.kdbx_frame.specs.Settings.{IsVersion4, aes_id, chacha_id, cipher_of, iv_len, twofish_id}
use Rattle.kdbx_frame.specs.declared.settings.Cipher.{Cipher}
use Rattle.header_cause_laws.specs.FieldCauses.{IsWrongField, is_there}
use Rattle.header_cause_laws.specs.Headers.{HasCutPart, HasFields, HasNumber, IsField, ReadsTo, header_bytes}

-- ---- what a file begins with

-- A file does not begin with the signature.
abbrev pub HasNoSignature : List ℕ → Type 0
HasNoSignature file = (rest : List ℕ) → file ≢ signature ++ rest

-- The number of a file's version is this, and none that is read.
pub record HasOtherVersion (number : ℕ) (file : List ℕ) : Type 0 where
  pub rest : List ℕ
  pub has : HasNumber number file rest
  pub no_31 : number ≢ 0x00030001
  pub no_40 : number ≢ 0x00040000
  pub no_41 : number ≢ 0x00040001

-- ---- parts that are not whole

-- A part of the header of a file of this length passes the end of the file.
pub record IsTooShort (len : ℕ) (file : List ℕ) : Type 0 where
  pub len_is : len ≡ length file
  pub end : ℕ
  pub part : HasCutPart file end
  pub past : length file < end

-- A part of the header ends at this offset: within the file, and after what a header may be in.
pub record IsTooLong (end : ℕ) (file : List ℕ) : Type 0 where
  pub part : HasCutPart file end
  pub within : end ≤ length file
  pub past : header_limit < end

-- ---- fields

-- After the fields before it there is a field that is not field 0, and this is wrong with it.
pub record HasWrongField (fail : FrameFail) (file : List ℕ) : Type 0 where
  pub version : FileVersion
  pub now : FieldsRead
  pub reads : ReadsTo file version now
  pub field : Field
  pub is_field : IsField (length_width version) now.rest field
  pub not_last : field.id ≢ 0
  pub wrong : IsWrongField version now.fields field fail

-- In version 4 the hash that follows the header is not the header's.
pub record HasWrongHash (kept found file : List ℕ) : Type 0 where
  pub version : FileVersion
  pub four : IsVersion4 version
  pub said : HeaderFields
  pub rest : List ℕ
  pub has : HasFields file version said (kept ++ rest)
  pub header : List ℕ
  pub bytes_are : header_bytes file ≡ header ++ (kept ++ rest)
  pub kept_len : length kept ≡ 32
  pub found_is : found ≡ sha256 header
  pub apart : kept ≢ found

-- ---- what the fields say

-- The whole header says something that is so.
pub record SaysSo (is_so : FileVersion → HeaderFields → Type 0) (file : List ℕ) : Type 0 where
  pub version : FileVersion
  pub said : HeaderFields
  pub rest : List ℕ
  pub has : HasFields file version said rest
  pub so : is_so version said

-- The fields that a version needs.
abbrev pub needed_ids : FileVersion → List ℕ
needed_ids V31 = 2 ∷ 3 ∷ 4 ∷ 5 ∷ 6 ∷ 7 ∷ 8 ∷ 9 ∷ 10 ∷ []
needed_ids V40 = 2 ∷ 3 ∷ 4 ∷ 7 ∷ 11 ∷ []
needed_ids V41 = 2 ∷ 3 ∷ 4 ∷ 7 ∷ 11 ∷ []

-- A field that the version needs is missing.
abbrev pub Lacks : ℕ → FileVersion → HeaderFields → Type 0
Lacks id version said = IsIn id (needed_ids version) × (is_there said id ≡ false)

-- The cipher has this id, which is none that is known.
abbrev pub NamesNoCipher : List ℕ → FileVersion → HeaderFields → Type 0
NamesNoCipher id version said = (said.cipher ≡ Some id) × (id ≢ aes_id) × (id ≢ twofish_id)
    × (id ≢ chacha_id)

-- The IV has this length, which is not that of the cipher's.
pub record HasWrongIv (len : ℕ) (version : FileVersion) (said : HeaderFields) : Type 0 where
  pub id : List ℕ
  pub cipher : Cipher
  pub iv : List ℕ
  pub names : said.cipher ≡ Some id
  pub cipher_is : cipher_of id ≡ Ok cipher
  pub iv_is : said.iv ≡ Some iv
  pub len_is : len ≡ length iv
  pub apart : len ≢ iv_len cipher

-- The content is compressed.
abbrev pub IsCompressed : ℕ → FileVersion → HeaderFields → Type 0
IsCompressed flag version said = (said.compression ≡ Some flag) × (flag ≢ 0)

-- What the fields of a header say of the key derivation: the dictionary of version 4, or the rounds
-- and the seed of AES in 3.1.
abbrev pub Describes : FileVersion → HeaderFields → KdfDescription → Type 0
Describes V31 said described = (rounds : ℕ) × (seed : List ℕ) × (said.rounds ≡ Some rounds)
    × (said.kdf_seed ≡ Some seed) × (described ≡ aes rounds seed)
Describes V40 said described = said.kdf ≡ Some described
Describes V41 said described = said.kdf ≡ Some described

-- The key derivation has this id, which is none that is known.
abbrev pub NamesNoKdf : List ℕ → FileVersion → HeaderFields → Type 0
NamesNoKdf id version said = Describes version said (unknown_id id)

-- A description is of a variant that is not read: its version; Argon2's version, which is not 0x13;
-- or a key or data of Argon2's own.
abbrev pub IsVariant : ℕ → KdfDescription → Type 0
IsVariant number (wrong_version version) = number ≡ version
IsVariant number (unknown_id id) = ⊥
IsVariant number (aes rounds seed) = ⊥
IsVariant number (argon kind passes memory lanes salt version extra) =
    ((number ≡ version) × (version ≢ 0x13)) ⊎ ((number ≡ 0) × (extra ≡ true))

-- The key derivation is of such a variant.
abbrev pub NamesVariant : ℕ → FileVersion → HeaderFields → Type 0
NamesVariant number version said = (described : KdfDescription) × Describes version said described
    × IsVariant number described

-- A description is of this key derivation.
abbrev pub IsOf : KdfDescription → Kdf → Type 0
IsOf (wrong_version version) k = ⊥
IsOf (unknown_id id) k = ⊥
IsOf (aes rounds seed) k = k ≡ kdf.Aes rounds seed
IsOf (argon kind passes memory lanes salt version extra) k =
    k ≡ kdf.Argon kind passes memory lanes salt

-- A number of the key derivation is out of its limits.
abbrev pub PassesLimit : KdfField → ℕ → FileVersion → HeaderFields → Type 0
PassesLimit field number version said = (described : KdfDescription) × (k : Kdf)
    × Describes version said described × IsOf described k
    × (checked_kdf k ≡ Err (kdf_fail.KdfLimit field number))

-- ---- the law

-- The cause of each refusal. A field is of the wrong length by itself, or, an IV, by the cipher.
abbrev pub HeaderCause : FrameFail → List ℕ → Type 0
HeaderCause NotKdbx file = HasNoSignature file
HeaderCause (Version number) file = HasOtherVersion number file
HeaderCause (Truncated len) file = IsTooShort len file
HeaderCause (TooLarge end) file = IsTooLong end file
HeaderCause (FieldTwice id) file = HasWrongField (FieldTwice id) file
HeaderCause (FieldLength id len) file = HasWrongField (FieldLength id len) file
    ⊎ ((id ≡ 7) × SaysSo (HasWrongIv len) file)
HeaderCause (Dictionary offset) file = HasWrongField (Dictionary offset) file
HeaderCause (HeaderHash kept found) file = HasWrongHash kept found file
HeaderCause (FieldMissing id) file = SaysSo (Lacks id) file
HeaderCause (CipherUnknown id) file = SaysSo (NamesNoCipher id) file
HeaderCause (Compressed flag) file = SaysSo (IsCompressed flag) file
HeaderCause (KdfUnknown id) file = SaysSo (NamesNoKdf id) file
HeaderCause (Variant number) file = SaysSo (NamesVariant number) file
HeaderCause (KdfLimit field number) file = SaysSo (PassesLimit field number) file
HeaderCause NoMemory file = ⊥

-- A file whose header is refused has the cause.
abbrev pub HeaderRefusalsHaveCauses : Type 0
HeaderRefusalsHaveCauses = (file : List ℕ) (fail : FrameFail) → header_of file ≡ Err fail
    → HeaderCause fail file
