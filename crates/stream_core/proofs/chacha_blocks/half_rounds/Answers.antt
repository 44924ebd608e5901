use Rattle.std.proofs.Common.{refl}
use Rattle.stream_core.specs.ChaCha20.{half_round}
use Rattle.stream_core.proofs.chacha_blocks.half_rounds.Goals as goal

pub returns : goal.returns
unfolding half_round
returns c = record {
  one = λ j h. rw (
    c.rotate-b1.ensures j h,
    c.xor-3.ensures j h,
    c.add-c1.ensures j h,
    c.turned-d1.ensures j h,
    c.xor.ensures j h,
    c.add-a1.ensures j h,
  ) refl;
  two = λ j h. rw (
    c.rotate-f1.ensures j h,
    c.xor-4.ensures j h,
    c.add-g1.ensures j h,
    c.turned-h1.ensures j h,
    c.xor-2.ensures j h,
    c.add-e1.ensures j h,
  ) refl;
}
