use Rattle.std.proofs.Common.{◌∙◌, ◌/◌, ap, length, bytes_eq, List, ℕ}
use Rattle.std.specs.List.{position}
use Rattle.psafe_file.specs.SafeFiles.{end_mark}
use Rattle.psafe_file.proofs.Blocks.{chunks_are_blocks}
use Rattle.psafe_file.proofs.parts.blocks_before_mark.Goals as goal

pub returns-clause-is : goal.returns-clause-is
returns-clause-is c =
    c.end_mark_in.ensures
    ∙ ap (position (λ (block : List ℕ). bytes_eq block end_mark)) (c.as_chunks.ensures.front ∙ chunks_are_blocks (length c.args.bytes.now / 16) c.args.bytes.now)
