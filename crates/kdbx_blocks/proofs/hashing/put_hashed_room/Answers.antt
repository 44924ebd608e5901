use Rattle.std.proofs.Common.{◌≡◌, ℕ, ◌+◌, ◌*◌, List, ◌++◌, replicate, ap, ◌∙◌, arith}
use Rattle.std.proofs.lemmas.List.{append_assoc, replicate-append-replicate}
use Rattle.kdbx_blocks.proofs.hashing.put_hashed_room.Goals as goal

-- one head's zeros more
one_more : (old out new : List ℕ) (n : ℕ) → out ≡ old ++ replicate (40 * n) 0 → new ≡ out ++ replicate 40 0 → new ≡ old ++ replicate (40 * (n + 1)) 0
one_more old out new n so_far put =
    let sum : 40 * n + 40 ≡ 40 * (n + 1) = omega arith in
    put ∙ ap (λ (xs : List ℕ). xs ++ replicate 40 0) so_far ∙ append_assoc old (replicate (40 * n) 0) (replicate 40 0)
    ∙ ap (λ (xs : List ℕ). old ++ xs) (replicate-append-replicate (40 * n) 40 0)
    ∙ ap (λ (k : ℕ). old ++ replicate k 0) sum

pub heads-preserved : goal.heads-preserved
heads-preserved c =
    let inv = c.heads.invariant in
    record {
      bytes = one_more c.args.out.now.bytes c.heads.out.bytes c.extend.new.self.bytes c.heads.counter inv.bytes c.extend.ensures.bytes;
      spare = omega (arith, inv.spare, c.extend.ensures.spare, c.requires.spare, c.div_ceil-count.ensures, c.heads-test.true);
    }
