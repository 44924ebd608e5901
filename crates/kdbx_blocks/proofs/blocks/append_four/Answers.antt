use Rattle.std.proofs.Common.{◌≡◌, ◌++◌, drop, IfSome}
use Rattle.kdbx_blocks.specs.Appending.{headed}
use Rattle.kdbx_blocks.proofs.Appended.{ok_more, some_more, went_on}
use Rattle.kdbx_blocks.proofs.blocks.append_four.Goals as goal

pub returns-clause-bytes : goal.returns-clause-bytes
returns-clause-bytes g c =
    let base = c.args.writer.now.base in
    let left = c.args.left.now in
    let old = g.F.FileStore.draft_bytes c.args.files.now in
    let new = g.F.FileStore.draft_bytes c.append_pieces.new.files in
    let bytes = headed 4 0 c.four_heads-heads.result left in
    let put : Type 0 = new ≡ old ++ bytes in
    ok_more c.append_pieces.result (IfSome (g.F.FileStore.files c.args.files.now) (λ _. put)) _ c.append_pieces.ensures.bytes
    (λ t. some_more (g.F.FileStore.files c.args.files.now) put put _ t t
    (λ h _. went_on base old new bytes c.args.writer.now.index c.four_heads-heads.new.writer.index left (drop 4194304 left) h c.four_heads-heads.ensures.blocks))
