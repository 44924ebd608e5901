use Rattle.std.proofs.Common.{◌≡◌, ℕ, List, ◌+◌, ◌<◌, take, drop, slice_index, ◌∙◌, arith}
use Rattle.std.proofs.lemmas.List.{get_or-drop, get_or-take}
use Rattle.mac_core.proofs.ahead.size_at_start.Goals as goal

byte_at : (bytes : List ℕ) (k : ℕ) → k < 4 → slice_index (drop 32 (take 36 bytes)) k ≡ slice_index bytes (32 + k)
byte_at bytes k below = get_or-drop 32 (take 36 bytes) k 0 ∙ get_or-take 36 bytes (32 + k) 0 (omega arith)

pub returns : goal.returns
returns c =
    let bytes = c.args.bytes.now in
    rw (byte_at bytes 0 (omega arith), byte_at bytes 1 (omega arith), byte_at bytes 2 (omega arith), byte_at bytes 3 (omega arith)) c.from_le_bytes.ensures
