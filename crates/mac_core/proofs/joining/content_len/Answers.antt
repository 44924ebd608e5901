use Rattle.std.proofs.Common.{◌≡◌, ℕ, List, ◌+◌, ◌-◌, take, drop, sym, ◌∙◌, ap, arith, Ok}
use Rattle.mac_core.specs.Blocks.{size_in}
use Rattle.mac_core.specs.Contents.{head_of_block}
use Rattle.mac_core.proofs.BlockMoves.{block_of_len}
use Rattle.mac_core.proofs.ContentSteps.{block_right, block_short, block_wrong}
use Rattle.mac_core.proofs.joining.content_len.Goals as goal

-- the content whose head was made is the one that the head's size gives
same_content : (base rest : List ℕ) (i len : ℕ) → len ≡ size_in rest
    → head_of_block base i (take (36 + len - 36) (drop 36 rest)) ≡ head_of_block base i (take (size_in rest) (drop 36 rest))
same_content base rest i len told =
    let same : 36 + len - 36 ≡ size_in rest = omega (arith, told) in
    ap (λ (n : ℕ). head_of_block base i (take n (drop 36 rest))) same

pub returns-then-rest-lt-HEAD-clause-gives : goal.returns-then-rest-lt-HEAD-clause-gives
returns-then-rest-lt-HEAD-clause-gives c = block_short c.args.base.now c.args.size c.args.index c.args.rest.now (omega arith)

pub returns-then-rest-len-clause-gives : goal.returns-then-rest-len-clause-gives
returns-then-rest-len-clause-gives c =
    block_short c.args.base.now c.args.size c.args.index c.args.rest.now (omega (arith, c.size_at_start-len.ensures))

pub returns-then-not-is_same-clause-gives : goal.returns-then-not-is_same-clause-gives
returns-then-not-is_same-clause-gives c =
    let rest = c.args.rest.now in
    let told = c.size_at_start-len.ensures in
    let head = c.block_head-head.ensures ∙ same_content c.args.base.now rest c.args.index c.size_at_start-len.result told in
    block_wrong c.args.base.now c.args.size c.args.index rest (omega (arith, told)) (λ e. let t = c.is_same.ensures.1 (e ∙ sym head) in cc)

pub returns-clause-gives : goal.returns-clause-gives
returns-clause-gives c =
    let rest = c.args.rest.now in
    let told = c.size_at_start-len.ensures in
    let head = c.block_head-head.ensures ∙ same_content c.args.base.now rest c.args.index c.size_at_start-len.result told in
    block_right c.args.base.now c.args.size c.args.index rest (omega (arith, told)) (c.is_same.ensures.0 c.if-not-is_same.false ∙ head)
    ∙ ap (λ (n : ℕ). Ok (block_of_len 36 n rest)) (sym told)
