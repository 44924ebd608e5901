use Rattle.std.proofs.Common.{◌≡◌, ◌+◌, ◌/◌, ◌++◌, ◌∙◌, length, arith, ap, sym, length-append}
use Rattle.sha2.specs.Sha256.{hash_after, initial_hash_256}
use Rattle.sha_lanes.specs.Lanes.{one_of}
use Rattle.sha_lanes.proofs.ChainLemmas.{hash_after-chain}
use Rattle.sha_lanes.proofs.LaneLemmas.{length-one_of}
use Rattle.sha_lanes.proofs.four.take_blocks.Goals as goal

pub returns : goal.returns
returns c j message below taken =
    let a = c.args.a.now in
    let x = one_of a c.args.b.now c.args.c.now c.args.d.now j in
    let long : length x ≡ length a = length-one_of (length a) a c.args.b.now c.args.c.now c.args.d.now c.requires.lengths j below in
    let both : length (message ++ x) ≡ length message + length x = length-append message x in
    let before = taken.whole in
    let count : length message / 64 + length a / 64 ≡ length (message ++ x) / 64 = omega arith in
    record {
      whole = omega arith;
      state = c.compress_all.ensures j below
          ∙ ap (λ h. hash_after h x (length a / 64)) taken.state
          ∙ sym (hash_after-chain initial_hash_256 message x (length a / 64) before)
          ∙ ap (hash_after initial_hash_256 (message ++ x)) count;
    }
