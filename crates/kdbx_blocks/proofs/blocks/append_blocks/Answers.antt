use Rattle.std.proofs.Common.{◌≡◌, Option, [], ◌++◌, drop, length, ap, arith, length-drop, subst, IfSome}
use Rattle.outside_core.specs.Files.{FileMap}
use Rattle.mac_core.specs.Blocks.{block}
use Rattle.kdbx_blocks.specs.Appending.{GoesOn}
use Rattle.kdbx_blocks.specs.Pieces.{blocks_to_end, pieces}
use Rattle.kdbx_blocks.proofs.Appended.{ended, ok_more, some_more}
use Rattle.kdbx_blocks.proofs.blocks.append_blocks.Goals as goal

pub returns-clause-bytes : goal.returns-clause-bytes
returns-clause-bytes g c =
    let inv = c.pieces.invariant in
    let base = c.args.base.now in
    let left = drop c.pieces.at c.args.content.now in
    let start = g.F.FileStore.draft_bytes c.args.files.now in
    let old = g.F.FileStore.draft_bytes c.pieces.files in
    let new = g.F.FileStore.draft_bytes c.append_block.new.files in
    let so_far : Type 0 = GoesOn base start 0 c.args.content.now old c.pieces.writer.index left in
    let put : Type 0 = new ≡ old ++ block c.pieces.writer.base c.pieces.writer.index [] in
    let said : Option FileMap → Type 0 = λ o. IfSome o (λ _. put) in
    ok_more c.append_block.result (said (g.F.FileStore.files c.pieces.files)) _ c.append_block.ensures.bytes
    (λ t. some_more (g.F.FileStore.files c.args.files.now) so_far put _ inv.bytes (subst said inv.files t)
    (ended old new start (blocks_to_end base 0 (pieces c.args.content.now)) base c.pieces.writer.base c.pieces.writer.index left
    (omega (arith, length-drop c.pieces.at c.args.content.now, c.pieces-test.false)) inv.base))
