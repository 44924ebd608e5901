use Rattle.frame_laws.proofs.EntryFrames.{restore_frames}
use Rattle.frame_laws.proofs.laws.restore_frames.Goals as goal

pub returns : goal.returns
returns c = restore_frames
