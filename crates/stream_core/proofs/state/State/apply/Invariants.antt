use Rattle.std.proofs.Common.{◌≡◌, ◌+◌, ◌-◌, ◌≤◌, length}
use Rattle.stream_core.specs.Words.{byte_in}
use Rattle.stream_core.specs.Stream.{IsWindowAt}
use Rattle.stream_core.proofs.StreamLemmas.{xored_front}
use Rattle.stream_core.proofs.state.State.apply.Given as goal

abbrev pub invariant-pieces : goal.invariant-pieces
invariant-pieces g l = let stream = byte_in (g.B.BlockFunction.word l.fn.self.key l.fn.self.nonce) in record {
  within : l.done ≤ length l.fn.text;
  text : l.text ≡ xored_front stream l.place l.done l.fn.text;
  key : l.self.key ≡ l.fn.self.key;
  nonce : l.self.nonce ≡ l.fn.self.nonce;
  window : IsWindowAt stream l.self.window (l.place + l.done);
}

abbrev pub decreases-pieces : goal.decreases-pieces
decreases-pieces g l = length l.fn.text - l.done
