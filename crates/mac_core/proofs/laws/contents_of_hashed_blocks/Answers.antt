use Rattle.mac_core.proofs.HashedBlocks.{contents_of-AreHashed, AreHashed-contents_of}
use Rattle.mac_core.proofs.laws.contents_of_hashed_blocks.Goals as goal

pub returns-clause-value : goal.returns-clause-value
returns-clause-value c = contents_of-AreHashed

pub returns-clause-right : goal.returns-clause-right
returns-clause-right c = AreHashed-contents_of
