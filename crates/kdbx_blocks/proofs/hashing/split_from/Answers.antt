use Rattle.std.proofs.Common.{◌≡◌, ℕ, ◌+◌, ◌-◌, ◌<◌, ◌≤◌, List, length, take, drop, min, refl, ap, sym, ◌∙◌, arith, length-drop}
use Rattle.std.proofs.lemmas.List.{take_all}
use Rattle.kdbx_blocks.specs.Pieces.{hashed_heads_len}
use Rattle.kdbx_blocks.proofs.HashedMoves.{behind_first, first_piece, one_head}
use Rattle.kdbx_blocks.proofs.HashedPieces.{hashed_ended, hashed_put}
use Rattle.kdbx_blocks.proofs.hashing.split_from.Goals as goal

-- The code counts the head before the piece.
moved_end : (to len : ℕ) (text : List ℕ) → take (to + (40 + len)) text ≡ take (to + 40 + len) text
moved_end to len text =
    let same : to + (40 + len) ≡ to + 40 + len = omega arith in
    ap (λ (n : ℕ). take n text) same

pub pieces-preserved : goal.pieces-preserved
pieces-preserved c =
    let inv = c.pieces.invariant in
    let text = c.pieces.text in
    let new = c.move_to_block.new.text in
    let to = c.pieces.to in
    let at = c.pieces.at in
    let index = c.pieces.index in
    let len = c.min-piece.result in
    let put = c.move_to_block.ensures in
    let some : at < length text = omega (arith, c.pieces-test.true, inv.same) in
    let is : len ≡ min 1048576 (length text - at) = c.min-piece.ensures ∙ ap (λ (n : ℕ). min 1048576 (n - at)) (sym inv.same) in
    let heads = one_head (length text - at) len is (omega (arith, some)) in
    let left : length new - (at + len) ≡ length text - at - len = omega (arith, put.len) in
    let all = inv.whole some in
    record {
      same = put.len ∙ inv.same;
      within = omega (arith, put.len, is, some);
      room = omega (arith, inv.room, heads, ap hashed_heads_len left);
      bytes = hashed_put (take to text) (take (to + (40 + len)) new) _ (drop at text) (take len (drop at text)) (drop (at + len) new) index (index + 1)
          (omega (arith, length-drop at text, some)) refl (first_piece text at len is) (put.rest ∙ behind_first text at len is)
          (moved_end to len new ∙ put.block) inv.bytes;
      whole = λ more. omega (arith, all, is, put.len, more);
      index = omega (arith, all, some);
    }

pub returns-clause-blocks : goal.returns-clause-blocks
returns-clause-blocks c =
    let inv = c.pieces.invariant in
    let text = c.pieces.text in
    let new = c.move_to_block-2.new.text in
    let to = c.pieces.to in
    let put = c.move_to_block-2.ensures in
    let none : length text ≡ c.pieces.at = omega (arith, c.pieces-test.false, inv.same, inv.within) in
    let all : length new ≤ to + 40 + 0 = omega (arith, put.len, inv.room, none) in
    hashed_ended (take to text) new _ (drop c.pieces.at text) c.pieces.index (omega (arith, length-drop c.pieces.at text, none))
    (sym (take_all (to + 40 + 0) new all) ∙ put.block) inv.bytes
