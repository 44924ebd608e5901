-- What one file of a call holds: a plain document, or a key.
use Rattle.std.specs.Prelude.{ℕ, List, [], length, nat_le, cond, Option, None, Some, Result, Ok, Err}
use Rattle.std.specs.FinMap as map
use Rattle.outside_core.specs.Files.{FileMap}
use Rattle.outside_core.specs.Results.{◌>>=◌}
use Rattle.cli_lines.specs.KeyCore.KeyFile.{key_file_key}
use Rattle.cli_lines.specs.KeyCore.declared.key_file.KeyFileFail.{KeyFileFail}
use Rattle.stream_core.specs.InnerStream.{NoKeystream}
use Rattle.vault_model.specs.Tree.{BareDoc}
use Rattle.vault_model.specs.declared.forms.DocForm.TheVariants.{Plain}
use Rattle.doc_forms.specs.Documents.{DocumentAndHash, document}
use Rattle.doc_forms.specs.declared.fails.DocFail.{DocFail}
use Rattle.cli_lines.specs.KdbxFrame.Fields.{file_limit}
use Rattle.cli_lines.specs.KdbxFrame.declared.sealings.Sealing.{Sealing}
use Rattle.cli_messages.specs.Messages.{refusal_of}
use Rattle.cli_messages.specs.declared.answers.Reason.TheVariants.{NoSuchFile, TooLarge}
use Rattle.cli_messages.specs.declared.answers.Refusal.{Refusal}
use Rattle.cli_files.specs.Answers.{key_answer}

-- What is made of the bytes of the file of this name, which is there and not too large.
abbrev pub of_file : {A : Type 0} → List ℕ → (List ℕ → Result A Refusal) → Option (List ℕ)
    → Result A Refusal
of_file name made None = Err (refusal_of NoSuchFile name)
of_file name made (Some bytes) = cond (nat_le (length bytes) file_limit) (made bytes)
    (Err (refusal_of TooLarge name))

-- What a text says as a plain document, which hides nothing and has no binaries beside it.
unfoldable pub plain_document : List ℕ → Result DocumentAndHash DocFail
plain_document text = document (record { form = Plain; keystream = NoKeystream }) [] text

-- A database that was opened: its document, what its file is sealed with, unless it is a plain
-- document, and the names of the columns that were passed over, where it was made of a table.
pub record Opened : Type 0 where
  pub doc : BareDoc
  pub sealing : Option Sealing
  pub passed_over : List (List ℕ)

-- The databases of a call: the one that its command shows or changes, and the documents of its
-- sources.
pub record Databases : Type 0 where
  pub target : Opened
  pub sources : List BareDoc

-- ---- key files

-- The key that the key file of this name gives, or the refusal.
abbrev pub key_or_refusal : List ℕ → Result (List ℕ) KeyFileFail → Result (List ℕ) Refusal
key_or_refusal name (Ok key) = Ok key
key_or_refusal name (Err fail) = Err (refusal_of (key_answer fail) name)

-- The key of the key file of this name.
abbrev pub key_in : List ℕ → Option (List ℕ) → Result (List ℕ) Refusal
key_in name = of_file name (λ bytes. key_or_refusal name (key_file_key bytes))

-- The key of the key file, where one is named.
abbrev pub key_of : Option (List ℕ) → FileMap → Result (Option (List ℕ)) Refusal
key_of None files = Ok None
key_of (Some name) files = key_in name (map.get files name) >>= λ key. Ok (Some key)
