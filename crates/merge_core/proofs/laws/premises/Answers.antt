-- Sound databases that can be joined, and one alone.
use Rattle.merge_core.proofs.SoundDoc.{document_sound}
use Rattle.merge_core.proofs.SoundJoin.{join_sound}
use Rattle.merge_core.proofs.ExampleAgrees.{example_agreed}
use Rattle.merge_core.proofs.MoreLaws.{alone_agreed}
use Rattle.merge_core.proofs.laws.premises.Goals as goal

pub returns-clause-documents_are_sound : goal.returns-clause-documents_are_sound
returns-clause-documents_are_sound c d is = document_sound d is

pub returns-clause-joins_are_sound : goal.returns-clause-joins_are_sound
returns-clause-joins_are_sound c S al sound = join_sound S al sound

pub returns-clause-one_is_agreed : goal.returns-clause-one_is_agreed
returns-clause-one_is_agreed c m s = alone_agreed m s

pub returns-clause-copies_agree : goal.returns-clause-copies_agree
returns-clause-copies_agree c = example_agreed
