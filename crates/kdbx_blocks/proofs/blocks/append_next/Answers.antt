use Rattle.std.proofs.Common.{◌≡◌, ℕ, List, ◌++◌, length, drop, take, ap, ◌∙◌, refl, arith, length-take, min}
use Rattle.std.proofs.lemmas.List.{drop_min}
use Rattle.mac_core.specs.Blocks.{block}
use Rattle.kdbx_blocks.specs.Pieces.{blocks_to_end, pieces}
use Rattle.kdbx_blocks.proofs.Appended.{appended, some_more}
use Rattle.kdbx_blocks.proofs.blocks.append_next.Goals as goal

-- the length of the first piece of what is left
piece_len : (piece left : List ℕ) → piece ≡ take 1048576 left → length piece ≡ min 1048576 (length left)
piece_len piece left is = ap length is ∙ length-take 1048576 left

pub returns-then-left-lt-FOUR-clause-step : goal.returns-then-left-lt-FOUR-clause-step
returns-then-left-lt-FOUR-clause-step g c =
    let len = piece_len c.split_piece.result.0.now c.args.left.now c.split_piece.ensures.piece in
    let next = c.append_block.ensures.index in
    record {
      some = omega (arith, len, c.requires.some);
      within = omega (arith, len);
      index = omega (arith, len, next, c.requires.some);
    }

pub returns-then-left-lt-FOUR-clause-bytes : goal.returns-then-left-lt-FOUR-clause-bytes
returns-then-left-lt-FOUR-clause-bytes g c =
    let base = c.args.writer.now.base in
    let i = c.args.writer.now.index in
    let left = c.args.left.now in
    let piece = c.split_piece.result.0.now in
    let old = g.F.FileStore.draft_bytes c.args.files.now in
    let new = g.F.FileStore.draft_bytes c.append_block.new.files in
    let put : Type 0 = new ≡ old ++ block base i piece in
    let said = c.in_ok-append_block.ensures.bytes in
    some_more (g.F.FileStore.files c.args.files.now) put put _ said said
    (λ h _. appended old new old (blocks_to_end base i (pieces left)) base base i c.append_block.new.writer.index left piece (drop (length piece) left)
    c.requires.some refl c.append_block.ensures.index c.split_piece.ensures.piece
    (ap (λ (n : ℕ). drop n left) (piece_len piece left c.split_piece.ensures.piece) ∙ drop_min 1048576 left) refl h)
