use Rattle.otp_core.proofs.Places.{before_place, before_none}
use Rattle.otp_core.proofs.marks.prefix_before.Goals as goal

pub returns-in-Some : goal.returns-in-Some
returns-in-Some c = before_place c.args.mark c.in-Some.i c.args.text.now c.in-Some.ensures

pub returns-in-None : goal.returns-in-None
returns-in-None c = before_none c.args.mark c.args.text.now c.in-None.ensures
