use Rattle.std.proofs.Common.{◌≡◌, ℕ, ◌≤◌, ◌+◌, ◌-◌, List, length, take, drop, ap, ◌∙◌, sym, arith, length-drop, length-take, refl, subst}
use Rattle.kdbx_blocks.specs.Appending.{AreNext, headed}
use Rattle.kdbx_blocks.proofs.Appended.{four_next}
use Rattle.kdbx_blocks.proofs.blocks.four_heads.Goals as goal

-- A piece that is not the last is whole.
whole_piece : (piece left : List ℕ) → piece ≡ take 1048576 left → 1048576 ≤ length left → length piece ≡ 1048576
whole_piece piece left is long = ap length is ∙ length-take 1048576 left ∙ omega (arith, long)

-- What is left behind some pieces.
behind : (rest before : List ℕ) (least : ℕ) → rest ≡ drop 1048576 before → least + 1048576 ≤ length before → least ≤ length rest
behind rest before least is long = omega (arith, ap length is, length-drop 1048576 before, long)

pub four_heads-requires-clause-lengths : goal.four_heads-requires-clause-lengths
four_heads-requires-clause-lengths c =
    let left = c.args.left.now in
    let one = c.split_piece.ensures in
    let two = c.split_piece-2.ensures in
    let three = c.split_piece-3.ensures in
    let four = c.split_piece-4.ensures in
    let after_one = behind c.split_piece.result.1.now left 3145728 one.rest (omega (arith, c.requires.length)) in
    let after_two = behind c.split_piece-2.result.1.now c.split_piece.result.1.now 2097152 two.rest (omega (arith, after_one)) in
    let after_three = behind c.split_piece-3.result.1.now c.split_piece-2.result.1.now 1048576 three.rest (omega (arith, after_two)) in
    let same = sym (whole_piece c.split_piece.result.0.now left one.piece (omega (arith, c.requires.length))) in
    record {
      first = refl;
      second = whole_piece c.split_piece-2.result.0.now c.split_piece.result.1.now two.piece (omega (arith, after_one)) ∙ same;
      third = whole_piece c.split_piece-3.result.0.now c.split_piece-2.result.1.now three.piece (omega (arith, after_two)) ∙ same;
      fourth = whole_piece c.split_piece-4.result.0.now c.split_piece-3.result.1.now four.piece after_three ∙ same;
    }

pub four_heads-requires-clause-long : goal.four_heads-requires-clause-long
four_heads-requires-clause-long c =
    let all = whole_piece c.split_piece.result.0.now c.args.left.now c.split_piece.ensures.piece (omega (arith, c.requires.length)) in
    omega (arith, all)

pub returns-clause-blocks : goal.returns-clause-blocks
returns-clause-blocks c =
    let base = c.args.writer.now.base in
    let i = c.args.writer.now.index in
    let left = c.args.left.now in
    let heads = c.four_heads.result in
    let two = c.split_piece.ensures.rest in
    let three = c.split_piece-2.ensures.rest ∙ ap (λ (xs : List ℕ). drop 1048576 xs) two in
    let last = c.split_piece-3.ensures.rest ∙ ap (λ (xs : List ℕ). drop 1048576 xs) three in
    subst (λ (k : ℕ). AreNext base i left (headed 4 0 heads left) k (drop 4194304 left)) (sym c.four_heads.ensures.index)
    (four_next base i left c.split_piece.result.0.now c.split_piece-2.result.0.now c.split_piece-3.result.0.now c.split_piece-4.result.0.now heads
    c.requires.length c.split_piece.ensures.piece
    (c.split_piece-2.ensures.piece ∙ ap (λ (xs : List ℕ). take 1048576 xs) two)
    (c.split_piece-3.ensures.piece ∙ ap (λ (xs : List ℕ). take 1048576 xs) three)
    (c.split_piece-4.ensures.piece ∙ ap (λ (xs : List ℕ). take 1048576 xs) last)
    c.four_heads.ensures.blocks)
