-- What a password opens of a file of Password Safe V3, or the first reason why it does not.
use Rattle.std.specs.Prelude.{ℕ, List, nat_lt, bytes_eq, if◌then◌else◌, Result, Ok, Err}
use Rattle.block_core.specs.Cbc.{cbc_deciphered}
use Rattle.block_core.specs.Twofish.{twofish256_decipher}
use Rattle.outside_core.specs.Results.{◌>>=◌}
use Rattle.sha2.specs.Sha256.{sha256}
use Rattle.psafe_file.specs.Keys.{block_key, mac_key, max_iterations, stretched_key}
use Rattle.psafe_file.specs.SafeFiles.{SafeFile, preamble_of, safe_file}
use Rattle.psafe_file.specs.declared.fails.PsafeFail.{PsafeFail}
use Rattle.psafe_file.specs.declared.fails.PsafeFail.TheVariants as fail
use Rattle.psafe_file.specs.declared.opened.OpenedSafe.{OpenedSafe}

-- The deciphered blocks, and the MAC that the file keeps.
pub record SafeContent : Type 0 where
  pub bytes : List ℕ
  pub mac : List ℕ

-- What is seen of it in memory.
abbrev pub content_seen : OpenedSafe → SafeContent
content_seen safe = record { bytes = safe.bytes.bytes; mac = safe.mac }

-- A key may be hashed again so often.
abbrev pub iterations_check : ℕ → Result (Unit {0}) PsafeFail
iterations_check count = if nat_lt max_iterations count then Err (fail.IterLimit count) else Ok tt

-- The hash that the file keeps is the one of the stretched key.
abbrev pub password_check : (kept found : List ℕ) → Result (Unit {0}) PsafeFail
password_check kept found =
    if bytes_eq kept found then Ok tt else Err (fail.WrongPassword kept found)

-- The content of a file under its stretched key.
abbrev pub content_of : List ℕ → SafeFile → SafeContent
content_of stretched file = record {
  bytes = cbc_deciphered (twofish256_decipher (block_key stretched file.preamble))
      file.preamble.iv file.blocks;
  mac = file.mac;
}

-- What a stretched key opens of a file.
unfoldable pub opened_with : List ℕ → SafeFile → Result SafeContent PsafeFail
opened_with stretched file = do
  _ ← password_check file.preamble.check (sha256 stretched)
  Ok (content_of stretched file)

-- What a password opens of a file.
unfoldable pub safe_outcome : List ℕ → List ℕ → Result SafeContent PsafeFail
safe_outcome bytes password = do
  file ← safe_file bytes
  _ ← iterations_check file.preamble.iterations
  opened_with (stretched_key password file.preamble) file

-- The key of the MAC of a file that a password opens.
abbrev pub file_mac_key : List ℕ → List ℕ → List ℕ
file_mac_key bytes password =
    let preamble = preamble_of bytes in mac_key (stretched_key password preamble) preamble
