use Rattle.std.proofs.Common.{◌≡◌, slice_index}
use Rattle.stream_core.proofs.StreamLemmas.{xored_front}
use Rattle.stream_core.proofs.state.xor_window.Given as goal

abbrev pub invariant-bytes : goal.invariant-bytes
invariant-bytes l = l.text ≡ xored_front (slice_index l.window) l.from l.i l.fn.text
