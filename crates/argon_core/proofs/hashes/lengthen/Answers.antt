use Rattle.std.proofs.Common.{refl, arith, ◌∙◌}
use Rattle.argon_core.specs.VariableHash.{first_halves, hash_chain}
use Rattle.argon_core.proofs.LongHash.{chained_next, halves_next, halves_end}
use Rattle.argon_core.proofs.hashes.lengthen.Goals as goal

pub halves-init : goal.halves-init
unfolding hash_chain first_halves
halves-init c = record { hash = refl; halves = refl }

pub halves-preserved : goal.halves-preserved
halves-preserved c =
    let inv = c.halves.invariant in
    record {
      hash = chained_next c.args.first c.halves.r c.halves.hash _ inv.hash c.rehash.ensures;
      halves = halves_next c.args.first c.halves.r c.halves.hash c.halves.out.bytes _ inv.hash inv.halves (rw c.bytes.ensures at c.put_half.ensures);
    }

pub returns : goal.returns
returns c =
    let inv = c.halves.invariant in
    rw c.bytes-2.ensures at c.put_last.ensures
    ∙ halves_end c.args.first c.halves.out.bytes c.halves.hash c.halves.r (omega arith) inv.hash inv.halves
