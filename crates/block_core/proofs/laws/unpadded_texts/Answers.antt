use Rattle.block_core.proofs.PaddingSteps.{unpadded-IsBeforePadding, unpadded_is}
use Rattle.block_core.proofs.laws.unpadded_texts.Goals as goal

pub returns-clause-value : goal.returns-clause-value
returns-clause-value c = unpadded-IsBeforePadding

pub returns-clause-meaning : goal.returns-clause-meaning
returns-clause-meaning c = unpadded_is
