use Rattle.std.proofs.Common.{sym, arith}
use Rattle.std.proofs.lemmas.List.{drop_all, take_all}
use Rattle.kdbx_blocks.proofs.blocks.split_piece.Goals as goal

pub returns-then-left-lt-PIECE-clause-piece : goal.returns-then-left-lt-PIECE-clause-piece
returns-then-left-lt-PIECE-clause-piece c = sym (take_all 1048576 c.args.left.now (omega (arith, c.if-left-lt-PIECE.true)))

pub returns-then-left-lt-PIECE-clause-rest : goal.returns-then-left-lt-PIECE-clause-rest
returns-then-left-lt-PIECE-clause-rest c = sym (drop_all 1048576 c.args.left.now (omega (arith, c.if-left-lt-PIECE.true)))
