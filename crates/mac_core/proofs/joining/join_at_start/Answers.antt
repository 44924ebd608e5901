use Rattle.std.proofs.Common.{◌≡◌, ℕ, ◌+◌, ◌-◌, ◌≤◌, List, length, take, drop, refl, ap, sym, ◌∙◌, subst, arith, length-drop, Ok}
use Rattle.std.proofs.lemmas.Result.{err_from_is_err_and}
use Rattle.std.proofs.lemmas.List.{take_rest}
use Rattle.mac_core.specs.Contents.{block_at}
use Rattle.mac_core.specs.RightBlocks.{AreRight}
use Rattle.mac_core.proofs.BlockMoves.{block_of_len, left, left_ended, left_moved, left_none, left_refused, rest_is}
use Rattle.mac_core.proofs.RightSteps.{right_behind}
use Rattle.mac_core.proofs.joining.join_at_start.Goals as goal

-- what was read of the rest of a text, which was lent
read_at : (base : List ℕ) (size i len at : ℕ) (text : List ℕ)
    → block_at base size i (take (length text - at) (drop at text)) ≡ Ok (block_of_len 36 len (take (length text - at) (drop at text)))
    → block_at base size i (drop at text) ≡ Ok (block_of_len 36 len (drop at text))
read_at base size i len at text = subst (λ (xs : List ℕ). block_at base size i xs ≡ Ok (block_of_len 36 len xs)) (take_rest text at)

pub each-init : goal.each-init
unfolding AreRight
each-init c =
    let all : length c.args.text.now - 0 ≡ length c.args.text.now = omega arith in
    record {
      len = refl;
      before = omega arith;
      within = omega arith;
      so_far = ap (λ (n : ℕ). left 36 (block_at c.args.base.now c.args.size) c.args.size n 0 0 0 c.args.text.now) all;
      right = tt;
    }

pub returns-in_err-len-clause-gives : goal.returns-in_err-len-clause-gives
returns-in_err-len-clause-gives c =
    let base = c.args.base.now in
    let p = err_from_is_err_and c.from_residual.result c.from_residual.ensures.1 in
    rw (p.1, p.2) (left_refused 36 (block_at base c.args.size) c.args.size (length c.args.text.now - c.each.index) c.each.index c.each.joined c.each.at
    c.each.text _ _ (omega (arith, c.each-test.true))
    (ap (block_at base c.args.size c.each.index) (sym (take_rest c.each.text c.each.at)) ∙ c.in_err-len.ensures.gives) c.each.invariant.so_far)

pub returns-then-len-eq0-clause-gives : goal.returns-then-len-eq0-clause-gives
returns-then-len-eq0-clause-gives c =
    let base = c.args.base.now in
    left_ended 36 (block_at base c.args.size) c.args.size (length c.args.text.now - c.each.index) c.each.index c.each.joined c.each.at c.in_ok-len.len
    c.each.text _ (omega (arith, c.each-test.true)) (omega (arith, c.in_ok-len.ensures.within, length-drop c.each.at c.each.text))
    (omega (arith, c.if-len-eq0.true)) (read_at base c.args.size c.each.index c.in_ok-len.len c.each.at c.each.text c.in_ok-len.ensures.gives)
    c.each.invariant.so_far

pub each-preserved : goal.each-preserved
each-preserved c =
    let base = c.args.base.now in
    let len = c.in_ok-len.len in
    let within = c.in_ok-len.ensures.within in
    let room : c.each.at + (36 + len) ≤ length c.each.text = omega (arith, within, length-drop c.each.at c.each.text) in
    let read = read_at base c.args.size c.each.index len c.each.at c.each.text c.in_ok-len.ensures.gives in
    let known = subst (λ (xs : List ℕ). AreRight base c.known_ahead-known.result c.each.index xs) (take_rest c.each.text c.each.at) c.known_ahead-known.ensures in
    let behind = right_behind base (drop c.each.at c.each.text) c.args.size c.known_ahead-known.result c.each.index (c.each.index + 1) _ known read refl in
    let rest = rest_is 36 (block_at base c.args.size) c.args.size (length c.args.text.now - c.each.index - 1) c.each.index c.each.joined c.each.at len _
    c.each.text c.copy_within.new.self c.each.invariant.before room (omega arith) c.copy_within.ensures.after in
    record {
      len = c.copy_within.ensures.len ∙ c.each.invariant.len;
      before = omega arith;
      within = omega (arith, c.copy_within.ensures.len);
      so_far = left_moved 36 (block_at base c.args.size) c.args.size (length c.args.text.now - c.each.index) _ c.each.index _ c.each.joined c.each.at len _
          c.each.text c.copy_within.new.self _ (omega (arith, c.each-test.true)) (omega arith) c.each.invariant.before room
          (omega (arith, c.if-len-eq0.false)) (omega arith) c.copy_within.ensures.after read c.each.invariant.so_far;
      right = subst (λ (n : ℕ). AreRight base n (c.each.index + 1) (drop (c.each.at + (36 + len)) c.copy_within.new.self)) (sym c.saturating_sub-known.ensures)
          (subst (λ (xs : List ℕ). AreRight base (c.known_ahead-known.result - 1) (c.each.index + 1) xs) (sym rest) behind);
    }

pub returns-clause-gives : goal.returns-clause-gives
returns-clause-gives c =
    left_none 36 (block_at c.args.base.now c.args.size) c.args.size (length c.args.text.now - c.each.index) c.each.index c.each.joined c.each.at c.each.text _
    (omega (arith, c.each-test.false)) c.each.invariant.so_far
