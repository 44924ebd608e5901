use Rattle.frame_laws.proofs.EntryFrames.{attach_frames}
use Rattle.frame_laws.proofs.FoundAgain.{export_gives_imported}
use Rattle.frame_laws.proofs.laws.attach_frames.Goals as goal

pub returns-clause-attach : goal.returns-clause-attach
returns-clause-attach c = attach_frames

pub returns-clause-export : goal.returns-clause-export
returns-clause-export c = export_gives_imported
