use Rattle.std.proofs.Common.{◌≡◌, ℕ, ◌+◌, ◌-◌, ◌≤◌, List, length, take, drop, ap, sym, ◌∙◌, subst, arith, length-drop, Ok}
use Rattle.std.proofs.lemmas.Result.{err_from_is_err_and}
use Rattle.std.proofs.lemmas.List.{take_rest}
use Rattle.mac_core.specs.HashedBlocks.{hashed_at}
use Rattle.mac_core.proofs.BlockMoves.{block_of_len, left_ended, left_moved, left_none, left_refused}
use Rattle.mac_core.proofs.hashed.join_from.Goals as goal

-- what was read of the rest of a text, which was lent
read_at : (size i len at : ℕ) (text : List ℕ)
    → hashed_at size i (take (length text - at) (drop at text)) ≡ Ok (block_of_len 40 len (take (length text - at) (drop at text)))
    → hashed_at size i (drop at text) ≡ Ok (block_of_len 40 len (drop at text))
read_at size i len at text = subst (λ (xs : List ℕ). hashed_at size i xs ≡ Ok (block_of_len 40 len xs)) (take_rest text at)

pub returns-in_err-len-clause-gives : goal.returns-in_err-len-clause-gives
returns-in_err-len-clause-gives c =
    let size = length c.args.text.now in
    let p = err_from_is_err_and c.from_residual.result c.from_residual.ensures.1 in
    rw (p.1, p.2) (left_refused 40 (hashed_at size) size (size - c.args.from - c.each.index) c.each.index c.each.joined c.each.at c.each.text _ _
    (omega (arith, c.each-test.true))
    (ap (hashed_at size c.each.index) (sym (take_rest c.each.text c.each.at)) ∙ c.in_err-len.ensures.gives) c.each.invariant.so_far)

pub returns-then-len-eq0-clause-gives : goal.returns-then-len-eq0-clause-gives
returns-then-len-eq0-clause-gives c =
    let size = length c.args.text.now in
    left_ended 40 (hashed_at size) size (size - c.args.from - c.each.index) c.each.index c.each.joined c.each.at c.in_ok-len.len c.each.text _
    (omega (arith, c.each-test.true)) (omega (arith, c.in_ok-len.ensures.within, length-drop c.each.at c.each.text))
    (omega (arith, c.if-len-eq0.true)) (read_at size c.each.index c.in_ok-len.len c.each.at c.each.text c.in_ok-len.ensures.gives)
    c.each.invariant.so_far

pub each-preserved : goal.each-preserved
each-preserved c =
    let size = length c.args.text.now in
    let within = c.in_ok-len.ensures.within in
    let room : c.each.at + (40 + c.in_ok-len.len) ≤ length c.each.text = omega (arith, within, length-drop c.each.at c.each.text) in
    record {
      len = c.copy_within.ensures.len ∙ c.each.invariant.len;
      before = omega arith;
      within = omega (arith, c.copy_within.ensures.len);
      so_far = left_moved 40 (hashed_at size) size (size - c.args.from - c.each.index) _ c.each.index _ c.each.joined c.each.at c.in_ok-len.len _ c.each.text
          c.copy_within.new.self _ (omega (arith, c.each-test.true)) (omega arith) c.each.invariant.before room
          (omega (arith, c.if-len-eq0.false)) (omega arith) c.copy_within.ensures.after
          (read_at size c.each.index c.in_ok-len.len c.each.at c.each.text c.in_ok-len.ensures.gives) c.each.invariant.so_far;
    }

pub returns-clause-gives : goal.returns-clause-gives
returns-clause-gives c =
    let size = length c.args.text.now in
    left_none 40 (hashed_at size) size (size - c.args.from - c.each.index) c.each.index c.each.joined c.each.at c.each.text _
    (omega (arith, c.each-test.false)) c.each.invariant.so_far
