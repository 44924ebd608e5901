use Rattle.std.proofs.Common.{◌≡◌, ◌+◌, ◌*◌, ◌/◌, ◌%◌, ◌^◌, ◌++◌, ◌∙◌, ℕ, length, drop, arith, ap, ap₂, sym, length-append}
use Rattle.sha2.specs.Sha256.{digest_bytes, hash_after, initial_hash_256, sha256}
use Rattle.sha_lanes.specs.Lanes.{one_of}
use Rattle.sha_lanes.proofs.ChainLemmas.{final_hash-steps, last-of}
use Rattle.sha_lanes.proofs.LaneLemmas.{length-one_of, one_of-rests}
use Rattle.sha_lanes.proofs.four.finish.Goals as goal

pub returns : goal.returns
unfolding sha256
returns c j message below taken count =
    let a = c.args.a.now in
    let x = one_of a c.args.b.now c.args.c.now c.args.d.now j in
    let long : length x ≡ length a = length-one_of (length a) a c.args.b.now c.args.c.now c.args.d.now c.requires j below in
    let both : length (message ++ x) ≡ length message + length x = length-append message x in
    let bits : ℕ = (c.args.taken + length a) % 2 ^ 64 * 8 % 2 ^ 64 in
    let counted : bits ≡ length (message ++ x) * 8 % 2 ^ 64 = omega arith in
    let place : length a / 64 * 64 ≡ length x / 64 * 64 = omega arith in
    let tail = one_of-rests a c.args.b.now c.args.c.now c.args.d.now (length a / 64 * 64) j below ∙ ap (λ n. drop n x) place in
    let first = c.compress_all.ensures j below
    ∙ ap₂ (λ h n. hash_after h x n) taken.state (ap (λ n. n / 64) (sym long)) in
    let second = last-of _ _ _ _ _ (c.compress_last.ensures j below) tail in
    c.digests.ensures j below
    ∙ ap (λ h. digest_bytes h 8) (final_hash-steps initial_hash_256 message x _ _ bits taken.whole counted first second)
