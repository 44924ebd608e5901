use Rattle.attachment_laws.proofs.TakenOut.{taken_out}
use Rattle.attachment_laws.proofs.laws.what_is_put_in_is_taken_out.Goals as goal

pub returns : goal.returns
returns c = taken_out
