use Rattle.typed_runs.proofs.Meeting.{two_edits_meet}
use Rattle.typed_runs.proofs.laws.two_edits_meet.Goals as goal

pub returns : goal.returns
returns c = two_edits_meet
