use Rattle.std.proofs.Common.{sym}
use Rattle.block_core.proofs.PaddingSteps.{unpadded-text_before}
use Rattle.block_core.proofs.padding.unpad.Goals as goal

pub returns-clause-text : goal.returns-clause-text
returns-clause-text c =
    sym (unpadded-text_before c.args.text.now c.length_before.result c.length_before.ensures.ok c.length_before.ensures.err)
