-- What `db-info` prints.
use Rattle.std.specs.Prelude.{ℕ, ◌/◌, Bool, true, false, List, ◌++◌, codes, length, Option, None, Some}
use Rattle.std.specs.Fmt.{decimal}
use Rattle.argon_core.specs.declared.params.ArgonKind.{ArgonKind}
use Rattle.argon_core.specs.declared.params.ArgonKind.TheVariants.{D, Id}
use Rattle.cli_needs.specs.KdbxFrame.declared.settings.Cipher.{Cipher}
use Rattle.cli_needs.specs.KdbxFrame.declared.settings.Cipher.TheVariants as cipher
use Rattle.cli_needs.specs.KdbxFrame.declared.settings.Settings.{Settings}
use Rattle.cli_needs.specs.KeyCore.declared.kdf.Kdf.{Kdf}
use Rattle.cli_needs.specs.KeyCore.declared.kdf.Kdf.TheVariants as kdf
use Rattle.vault_model.specs.Tree.{BareDoc, entry_rows, group_rows}
use Rattle.vault_model.specs.declared.forms.FileVersion.{FileVersion}
use Rattle.vault_model.specs.declared.forms.FileVersion.TheVariants.{V31, V40, V41}

-- A line: what it is about, and a value.
unfoldable pub line : List ℕ → List ℕ → List ℕ
line about value = about ++ value ++ codes "\n"

-- ---- the file

-- The version of a file's format.
abbrev pub version_name : FileVersion → List ℕ
version_name V31 = codes "3.1"
version_name V40 = codes "4.0"
version_name V41 = codes "4.1"

-- The cipher of a file's content.
abbrev pub cipher_name : Cipher → List ℕ
cipher_name cipher.Aes = codes "AES-256"
cipher_name cipher.Twofish = codes "Twofish"
cipher_name cipher.ChaCha = codes "ChaCha20"

-- The type of Argon2.
abbrev pub kind_name : ArgonKind → List ℕ
kind_name D = codes "Argon2d"
kind_name Id = codes "Argon2id"

-- Argon2 with its costs. Of the memory, which is kept in bytes, whole units of 1,024 are used.
abbrev pub argon_text : ArgonKind → (passes bytes lanes : ℕ) → List ℕ
argon_text kind passes bytes lanes = kind_name kind
    ++ codes " (" ++ decimal passes
    ++ codes " passes, " ++ decimal (bytes / 1024)
    ++ codes " KiB, " ++ decimal lanes
    ++ codes " lanes)"

-- The key derivation of a file with its costs.
abbrev pub kdf_text : Kdf → List ℕ
kdf_text (kdf.Aes rounds seed) = codes "AES (" ++ decimal rounds ++ codes " rounds)"
kdf_text (kdf.Argon kind passes bytes lanes salt) = argon_text kind passes bytes lanes

-- How a file keeps its document: its version, its cipher and its key derivation.
abbrev pub settings_lines : Settings → List ℕ
settings_lines settings = line (codes "Version: ") (version_name settings.version)
    ++ line (codes "Cipher: ") (cipher_name settings.cipher)
    ++ line (codes "KDF: ") (kdf_text settings.kdf)

-- The same of a plain document.
abbrev pub plain_lines : List ℕ
plain_lines = line (codes "Version: ") (codes "plain")
    ++ line (codes "Cipher: ") (codes "none")
    ++ line (codes "KDF: ") (codes "none")

-- The same of a file with these settings; a plain document has none.
abbrev pub file_lines : Option Settings → List ℕ
file_lines None = plain_lines
file_lines (Some settings) = settings_lines settings

-- ---- the document

-- What a document says of its database.
abbrev pub name_lines : BareDoc → List ℕ
name_lines doc = line (codes "Name: ") doc.meta.name.value
    ++ line (codes "Description: ") doc.meta.description.value

-- Whether removed nodes are put into the bin.
abbrev pub bin_state : Bool → List ℕ
bin_state true = codes "enabled"
bin_state false = codes "disabled"

-- What a document has: its groups, the root among them, its entries, and the bin.
abbrev pub content_lines : BareDoc → List ℕ
content_lines doc = line (codes "Groups: ") (decimal (length (group_rows doc.tree)))
    ++ line (codes "Entries: ") (decimal (length (entry_rows doc.tree)))
    ++ line (codes "Recycle bin: ") (bin_state doc.meta.bin.value.enabled)

-- What is printed of a document and of the settings of its file.
abbrev pub info_shown : Option Settings → BareDoc → List ℕ
info_shown settings doc = name_lines doc ++ file_lines settings ++ content_lines doc
