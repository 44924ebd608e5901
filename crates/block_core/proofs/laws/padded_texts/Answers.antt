use Rattle.block_core.proofs.PaddingSteps.{IsPadded-padded, unpadded-padded}
use Rattle.block_core.proofs.laws.padded_texts.Goals as goal

pub returns-clause-right : goal.returns-clause-right
returns-clause-right c = IsPadded-padded

pub returns-clause-undone : goal.returns-clause-undone
returns-clause-undone c = unpadded-padded
