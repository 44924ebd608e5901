-- What is drawn for a file that is sealed.
use Rattle.std.specs.Prelude.{ℕ, ◌-◌, List, ◌++◌, drop, replicate}
use Rattle.kdbx_frame.specs.declared.settings.Settings.{Settings}
use Rattle.kdbx_frame.specs.Settings.{iv_len}
use Rattle.kdbx_seal.specs.KdbxWriting.declared.draws.Draws.{Draws}
use Rattle.kdbx_seal.specs.KdbxWriting.Draws.{start_len, stream_len}
use Rattle.cli_writing.specs.Drawing.{next_bytes}

-- Bytes of this number: the next n ones of the dice, and zeros after them.
abbrev pub front_of : (n size : ℕ) → List ℕ → List ℕ
front_of n size dice = next_bytes n dice ++ replicate (size - n) 0

-- What is left of the dice after the seed or salt of the key derivation and the master seed.
abbrev pub after_keys : List ℕ → List ℕ
after_keys dice = drop 32 (drop 32 dice)

-- And after the IV.
abbrev pub after_iv : Settings → List ℕ → List ℕ
after_iv s dice = drop (iv_len s.cipher) (after_keys dice)

-- And after the key of the inner stream.
abbrev pub after_stream : Settings → List ℕ → List ℕ
after_stream s dice = drop (stream_len s.version) (after_iv s dice)

-- And after the bytes that a deciphered file of KDBX 3.1 begins with: all that a file draws.
abbrev pub after_draws : Settings → List ℕ → List ℕ
after_draws s dice = drop (start_len s.version) (after_stream s dice)

-- The draws for a file of these settings: the next bytes of the dice, in this order.
abbrev pub draws_of : Settings → List ℕ → Draws
draws_of s dice = record {
  kdf = front_of 32 32 dice;
  seed = front_of 32 32 (drop 32 dice);
  iv = front_of (iv_len s.cipher) 16 (after_keys dice);
  stream = front_of (stream_len s.version) 64 (after_iv s dice);
  start = front_of (start_len s.version) 32 (after_stream s dice);
}
