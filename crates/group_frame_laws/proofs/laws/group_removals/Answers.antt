use Rattle.group_frame_laws.proofs.GroupRemovals.{remove_group_frames}
use Rattle.group_frame_laws.proofs.laws.group_removals.Goals as goal

pub returns : goal.returns
returns c = remove_group_frames
