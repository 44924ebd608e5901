use Rattle.frame_laws.proofs.EntryFrames.{detach_frames}
use Rattle.frame_laws.proofs.laws.detach_frames.Goals as goal

pub returns : goal.returns
returns c = detach_frames
