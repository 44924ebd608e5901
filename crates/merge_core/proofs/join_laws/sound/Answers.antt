-- Documents, and joins of sound databases.
use Rattle.merge_core.proofs.SoundDoc.{document_sound}
use Rattle.merge_core.proofs.SoundJoin.{join_sound}
use Rattle.merge_core.proofs.join_laws.sound.Goals as goal

pub returns-clause-documents : goal.returns-clause-documents
returns-clause-documents c d is = document_sound d is

pub returns-clause-joins : goal.returns-clause-joins
returns-clause-joins c S al sound = join_sound S al sound
