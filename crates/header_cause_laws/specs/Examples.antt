-- Bytes that are refused, so that each law speaks of something.
use Rattle.std.specs.Prelude.{◌≡◌, ℕ, List, [], ◌∷◌, ◌++◌, codes, Err}
use Rattle.kdbx_parts.specs.declared.fail.FrameFail.TheVariants.{Dictionary, FieldLength, FieldMissing, FieldTwice, NotKdbx, Truncated, Version}
use Rattle.kdbx_frame.specs.Header.{header_of, signature}
use Rattle.key_core.specs.KeyFile.{key_file_key}
use Rattle.key_core.specs.declared.key_file.KeyFileFail.TheVariants.{KeyFileForm}

-- the front of a file of version 4.0
abbrev pub version_4 : List ℕ
version_4 = signature ++ 0 ∷ 0 ∷ 4 ∷ 0 ∷ []

-- No bytes; a version 5.0; a version 4.0 and nothing after it; field 0 alone in version 3.1; in
-- version 4.0 a cipher of one byte, two IVs, and a dictionary of no bytes; and a key document that
-- names no version.
pub record ExampleRefusals : Type 0 where
  pub empty : header_of [] ≡ Err NotKdbx
  pub later : header_of (signature ++ 0 ∷ 0 ∷ 5 ∷ 0 ∷ []) ≡ Err (Version 0x00050000)
  pub cut : header_of (signature ++ 0 ∷ 0 ∷ 4 ∷ 0 ∷ []) ≡ Err (Truncated 12)
  pub bare : header_of (signature ++ 1 ∷ 0 ∷ 3 ∷ 0 ∷ 0 ∷ 0 ∷ 0 ∷ []) ≡ Err (FieldMissing 2)
  pub short : header_of (version_4 ++ 2 ∷ 1 ∷ 0 ∷ 0 ∷ 0 ∷ 9 ∷ []) ≡ Err (FieldLength 2 1)
  pub twice : header_of (version_4 ++ 7 ∷ 0 ∷ 0 ∷ 0 ∷ 0 ∷ 7 ∷ 0 ∷ 0 ∷ 0 ∷ 0 ∷ [])
      ≡ Err (FieldTwice 7)
  pub formless : header_of (version_4 ++ 11 ∷ 0 ∷ 0 ∷ 0 ∷ 0 ∷ []) ≡ Err (Dictionary 0)
  pub key : key_file_key (codes "<KeyFile></KeyFile>") ≡ Err (KeyFileForm 0)
