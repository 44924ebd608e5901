use Rattle.std.proofs.Common.{◌≡◌, ◌-◌, arith, ◌∙◌, ap, slice_index_or, [], ℕ}
use Rattle.argon_core.specs.Argon2.{lane_len, last_blocks}
use Rattle.argon_core.proofs.LastBlocks.{last_blocks_next, last_shown}
use Rattle.argon_core.proofs.Limits.{segment_len-least}
use Rattle.argon_core.proofs.params.Instance.last_block.Goals as goal

pub lanes-init : goal.lanes-init
unfolding last_blocks
lanes-init c = c.zeros-last.ensures

pub overflow_sub-lane_len : goal.overflow_sub-lane_len
overflow_sub-lane_len c = omega (arith, segment_len-least c.args.self.now.params c.requires.limits, c.lane_len.ensures.len)

pub place_of-end-requires-clause-column : goal.place_of-end-requires-clause-column
place_of-end-requires-clause-column c = omega (arith, segment_len-least c.args.self.now.params c.requires.limits, c.lane_len.ensures.len)

pub lanes-preserved : goal.lanes-preserved
lanes-preserved c =
    let i = c.args.self.now in
    let lane = c.lanes.lane in
    let memory = c.args.memory.now in
    let end : c.lane_len.result - 1 ≡ lane_len i.params - 1 = ap (λ (k : ℕ). k - 1) c.lane_len.ensures.len in
    let place = rw end at c.place_of-end.ensures.place in
    let shown = last_shown i memory lane (lane_len i.params - 1) c.requires.limits c.requires.filled (omega arith) (omega (arith, segment_len-least i.params c.requires.limits)) in
    c.xor_into.ensures ∙ last_blocks_next i lane _ _ c.lanes.invariant (ap (λ (k : ℕ). slice_index_or memory k []) place ∙ shown)
