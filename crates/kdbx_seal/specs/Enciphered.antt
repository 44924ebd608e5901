-- A text under a cipher.
use Rattle.std.specs.Prelude.{ℕ, List, take}
use Rattle.block_core.specs.Aes.{aes256_encipher}
use Rattle.block_core.specs.Twofish.{twofish256_encipher}
use Rattle.block_core.specs.Cbc.{cbc_enciphered}
use Rattle.block_core.specs.Padding.{padded}
use Rattle.stream_core.specs.ChaCha20.{chacha_byte}
use Rattle.stream_core.specs.Stream.{xor_stream}
use Rattle.kdbx_frame.specs.declared.settings.Cipher.{Cipher}
use Rattle.kdbx_frame.specs.declared.settings.Cipher.TheVariants.{Aes, Twofish, ChaCha}

-- A text under a cipher, with its padding where blocks are chained; a nonce of ChaCha20 is the
-- first 12 bytes of the IV.
abbrev pub enciphered_text : Cipher → List ℕ → List ℕ → List ℕ → List ℕ
enciphered_text Aes key iv text = cbc_enciphered (aes256_encipher key) iv (padded text)
enciphered_text Twofish key iv text = cbc_enciphered (twofish256_encipher key) iv (padded text)
enciphered_text ChaCha key iv text = xor_stream (chacha_byte key (take 12 iv)) 0 text
