use Rattle.std.proofs.Common.{ℕ, ◌<◌, ◌∙◌, Ok, ap, sym, arith}
use Rattle.mac_core.proofs.BlockMoves.{block_of_len}
use Rattle.mac_core.proofs.ContentSteps.{block_right}
use Rattle.mac_core.proofs.RightSteps.{first_right}
use Rattle.mac_core.proofs.joining.next_len.Goals as goal

pub size_at_start-requires : goal.size_at_start-requires
size_at_start-requires c =
    let some : 0 < c.args.known = omega (arith, c.if-known-eq0.false) in
    let one = first_right c.args.base.now c.args.rest.now c.args.known c.args.index some c.requires in
    omega (arith, one.whole)

pub returns-clause-gives : goal.returns-clause-gives
returns-clause-gives c =
    let some : 0 < c.args.known = omega (arith, c.if-known-eq0.false) in
    let rest = c.args.rest.now in
    let one = first_right c.args.base.now rest c.args.known c.args.index some c.requires in
    block_right c.args.base.now c.args.size c.args.index rest one.whole one.same ∙ ap (λ (n : ℕ). Ok (block_of_len 36 n rest)) (sym c.size_at_start.ensures)

pub returns-clause-within : goal.returns-clause-within
returns-clause-within c =
    let some : 0 < c.args.known = omega (arith, c.if-known-eq0.false) in
    let one = first_right c.args.base.now c.args.rest.now c.args.known c.args.index some c.requires in
    omega (arith, one.whole, c.size_at_start.ensures)
