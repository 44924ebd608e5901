-- What a file is made from, as the code lends it.
use Rattle.std.specs.Prelude.{◌≡◌, ℕ, List, Some}
use Rattle.kdbx_payload.specs.Ciphers.{deciphered_text}
use Rattle.kdbx_payload.specs.HeaderMacs.{base_of, key_of}
use Rattle.kdbx_writing.specs.Header.{header_with}
use Rattle.kdbx_seal.specs.declared.payload_sealing.Parts.{Parts}
use Rattle.kdbx_seal.specs.PayloadMade.{content_of, file_of}

-- A content enciphered under the key of the file's cipher.
abbrev pub parts_content : List ℕ → Parts → List ℕ → List ℕ
parts_content key p plain = content_of key p.settings.now p.draws.now plain

-- The file of a content under its MAC base and the key of its cipher.
abbrev pub parts_file : List ℕ → List ℕ → Parts → List ℕ → List ℕ
parts_file base key p plain =
    file_of p.settings.now.version base p.header.now (parts_content key p plain)

-- The file's MAC base under a composite key.
abbrev pub parts_base : Parts → List ℕ → List ℕ
parts_base p composite = base_of (header_with p.settings.now p.draws.now) composite

-- The key of the file's cipher under a composite key.
abbrev pub parts_key : Parts → List ℕ → List ℕ
parts_key p composite = key_of (header_with p.settings.now p.draws.now) composite

-- A content that was enciphered is deciphered again.
abbrev pub IsUndone : List ℕ → Parts → List ℕ → Type 0
IsUndone key p plain =
    deciphered_text p.settings.now.cipher key p.draws.now.iv (parts_content key p plain) ≡ Some
    plain
