-- What is drawn for a file: of which lengths, and in which order.
use Rattle.std.specs.Prelude.{◌≡◌, ℕ, ◌-◌, List, ◌++◌, length, take, drop, replicate}
use Rattle.vault_model.specs.declared.forms.FileVersion.{FileVersion}
use Rattle.vault_model.specs.declared.forms.FileVersion.TheVariants.{V31, V40, V41}
use Rattle.kdbx_frame.specs.declared.settings.Settings.{Settings}
use Rattle.kdbx_frame.specs.Settings.{iv_len}
use Rattle.kdbx_writing.specs.declared.draws.Draws.{Draws}

-- How many bytes of the inner stream's key a version uses.
abbrev pub stream_len : FileVersion → ℕ
stream_len V31 = 32
stream_len V40 = 64
stream_len V41 = 64

-- How many bytes a deciphered file of a version begins with: none in KDBX 4.
abbrev pub start_len : FileVersion → ℕ
start_len V31 = 32
start_len V40 = 0
start_len V41 = 0

-- All bytes that are drawn for a file of these settings, in their order.
abbrev pub drawn_bytes : Settings → Draws → List ℕ
drawn_bytes s d =
    d.kdf ++ d.seed ++ take (iv_len s.cipher) d.iv
    ++ take (stream_len s.version) d.stream ++ take (start_len s.version) d.start

-- Bytes of this number, of which those after the first n are 0.
pub record AreFront (n size : ℕ) (bytes : List ℕ) : Type 0 where
  pub len : length bytes ≡ size
  pub rest : drop n bytes ≡ replicate (size - n) 0

-- The draws are for a file of these settings: what it does not use is 0.
pub record AreDrawn (s : Settings) (d : Draws) : Type 0 where
  pub kdf : AreFront 32 32 d.kdf
  pub seed : AreFront 32 32 d.seed
  pub iv : AreFront (iv_len s.cipher) 16 d.iv
  pub stream : AreFront (stream_len s.version) 64 d.stream
  pub start : AreFront (start_len s.version) 32 d.start
