use Rattle.group_frame_laws.proofs.GroupMoves.{move_group_frames}
use Rattle.group_frame_laws.proofs.laws.group_moves.Goals as goal

pub returns : goal.returns
returns c = move_group_frames
