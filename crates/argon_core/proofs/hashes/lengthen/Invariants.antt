use Rattle.std.proofs.Common.{◌≡◌, ◌*◌, take}
use Rattle.argon_core.specs.VariableHash.{first_halves, hash_chain}
use Rattle.argon_core.proofs.hashes.lengthen.Given as goal

abbrev pub invariant-halves : goal.invariant-halves
invariant-halves l = record {
  hash : l.hash ≡ hash_chain l.fn.first l.r;
  halves : take (32 * l.r) l.out.bytes ≡ first_halves l.fn.first l.r;
}
