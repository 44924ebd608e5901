use Rattle.std.proofs.Common.{arith}
use Rattle.std.proofs.lemmas.List.FromFn.{fill_by_all}
use Rattle.argon_core.specs.Compression.{xor_blocks}
use Rattle.argon_core.proofs.compression.xor_into.Goals as goal

pub returns : goal.returns
unfolding xor_blocks
returns c = fill_by_all _ c.words.block 128 0 c.words.invariant.len (λ k h. c.words.invariant.done k (omega arith))
