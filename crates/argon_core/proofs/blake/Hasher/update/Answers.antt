use Rattle.std.proofs.Common.{◌≡◌, ◌-◌, ◌≤◌, length, take, drop, arith, refl, length-drop}
use Rattle.std.proofs.lemmas.List.{append_assoc, take_all, length-take-le}
use Rattle.argon_core.proofs.Hashing.{take_further}
use Rattle.argon_core.proofs.blake.Hasher.update.Goals as goal

pub pieces-preserved : goal.pieces-preserved
pieces-preserved c =
    let piece = c.args.piece.now in
    let done = c.pieces.done in
    let count = c.take_in-done.result in
    let rest : length (take (length piece - done) (drop done piece)) ≡ length piece - done =
    length-take-le (length piece - done) (drop done piece) (omega (arith, length-drop done piece)) in
    let fits : count ≤ length piece - done = omega (arith, c.take_in-done.ensures.progress.1) in
    let further = take_further piece done count (length piece - done) refl fits in
    record {
      within = omega arith;
      total = omega arith;
      holds = λ size message held.
          let fed = c.take_in-done.ensures.holds size _ (c.pieces.invariant.holds size message held) in
          rw (append_assoc, further) at fed;
    }

pub returns-clause-holds : goal.returns-clause-holds
returns-clause-holds c = λ size message held.
    let fed = c.pieces.invariant.holds size message held in
    rw (take_all c.pieces.done c.args.piece.now (omega arith)) at fed
