use Rattle.mac_core.proofs.ContentSteps.{contents_of-AreContents, AreContents-contents_of, IsWhole-contents_of}
use Rattle.mac_core.proofs.laws.contents_of_blocks.Goals as goal

pub returns-clause-value : goal.returns-clause-value
returns-clause-value c = contents_of-AreContents

pub returns-clause-meaning : goal.returns-clause-meaning
returns-clause-meaning c = AreContents-contents_of

pub returns-clause-right : goal.returns-clause-right
returns-clause-right c = IsWhole-contents_of
