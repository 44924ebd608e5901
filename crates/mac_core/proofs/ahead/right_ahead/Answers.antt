use Rattle.std.proofs.Common.{◌≡◌, ℕ, ◌+◌, ◌-◌, ◌*◌, ◌<◌, subst, arith}
use Rattle.mac_core.specs.RightBlocks.{AreRight}
use Rattle.mac_core.proofs.RightSteps.{right_more}
use Rattle.mac_core.proofs.ahead.right_ahead.Goals as goal

pub returns-then-len-eq0 : goal.returns-then-len-eq0
unfolding AreRight
returns-then-len-eq0 c = tt

pub returns-then-has_head-4 : goal.returns-then-has_head-4
unfolding AreRight
returns-then-has_head-4 c =
    let base = c.args.base.now in
    let bytes = c.args.bytes.now in
    let len = c.four_len-len.result in
    let i = c.args.index in
    let step : ℕ = 36 + len in
    let some : 0 < len = omega (arith, c.if-len-eq0.false) in
    let room = c.four_len-len.ensures.within some in
    let small = c.four_len-len.ensures.short in
    let macs = c.four_macs-macs.ensures in
    let index : i + 0 ≡ i = omega arith in
    subst (λ (n : ℕ). AreRight base 4 n bytes) index
    (right_more base bytes _ 3 (i + 0) (i + 1) 0 step 36 (step - 36) len some small (omega arith) (omega arith) (omega arith) (omega arith) (omega arith)
    (macs 0 (omega arith)) (c.has_head.ensures.0 c.if-has_head.true)
    (right_more base bytes _ 2 (i + 1) (i + 2) step (2 * step) (step + 36) (2 * step - (step + 36)) len some small (omega arith) (omega arith) (omega arith) (omega arith) (omega arith)
    (macs 1 (omega arith)) (c.has_head-then-has_head.ensures.0 c.if-has_head-2.true)
    (right_more base bytes _ 1 (i + 2) (i + 3) (2 * step) (3 * step) (2 * step + 36) (3 * step - (2 * step + 36)) len some small (omega arith) (omega arith) (omega arith) (omega arith) (omega arith)
    (macs 2 (omega arith)) (c.has_head-then-has_head-2.ensures.0 c.if-has_head-3.true)
    (right_more base bytes _ 0 (i + 3) (i + 4) (3 * step) (4 * step) (3 * step + 36) (4 * step - (3 * step + 36)) len some small (omega arith) (omega arith) (omega arith) (omega arith) (omega arith)
    (macs 3 (omega arith)) (c.has_head-then-has_head-3.ensures.0 c.if-has_head-4.true) tt))))

pub returns : goal.returns
unfolding AreRight
returns c = tt
