use Rattle.frame_laws.proofs.EntryRemovals.{remove_entry_frames}
use Rattle.frame_laws.proofs.laws.removal_frames.Goals as goal

pub returns : goal.returns
returns c = remove_entry_frames
