use Rattle.std.proofs.Common.{◌-◌, ◌+◌, ◌∙◌, sym, ap, arith}
use Rattle.std.specs.Fn.{iterate}
use Rattle.sha2.specs.Sha256.{sha256}
use Rattle.psafe_file.proofs.Turns.{next_turn}
use Rattle.psafe_file.proofs.keys.hash_again.Goals as goal

pub iterations-preserved : goal.iterations-preserved
iterations-preserved c =
    let step = next_turn sha256 c.args.iterations c.iterations.counter c.iterations.digest (omega arith) in (
      omega arith,
      ap (iterate sha256 (c.args.iterations - (c.iterations.counter + 1))) (c.digest.ensures ∙ ap sha256 c.as_slice.ensures) ∙ sym step ∙ c.iterations.invariant.1,
    )
