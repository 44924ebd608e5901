use Rattle.std.proofs.Common.{◌≡◌, ◌+◌, ◌*◌, ◌/◌, ◌%◌, slice_index, arith, ap₂, ◌∙◌}
use Rattle.std.specs.Int.{w32, to_le_bytes}
use Rattle.stream_core.proofs.state.State.prepare.Goals as goal

pub returns-then-place-eq0-clause-window : goal.returns-then-place-eq0-clause-window
returns-then-place-eq0-clause-window g c i below =
    let word = g.B.BlockFunction.word c.args.self.now.key c.args.self.now.nonce in
    let place = 256 * (c.args.place / 256) + i in
    let block : c.args.place / 64 + i / 64 ≡ place / 64 = omega arith in
    let index : i % 64 / 4 ≡ place % 64 / 4 = omega arith in
    let byte : i % 4 ≡ place % 4 = omega arith in
    c.put_blocks.ensures i below
    ∙ ap₂ (λ w k. slice_index (to_le_bytes w32 w) k)
    (c.four_blocks-words.ensures (i / 64) (i % 64 / 4) (omega arith) (omega arith) ∙ ap₂ word block index) byte
