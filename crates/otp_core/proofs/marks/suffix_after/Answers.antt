use Rattle.otp_core.proofs.Places.{after_place, after_none}
use Rattle.otp_core.proofs.marks.suffix_after.Goals as goal

pub returns-in-Some : goal.returns-in-Some
returns-in-Some c = after_place c.args.mark c.in-Some.i c.args.text.now c.in-Some.ensures

pub returns-in-None : goal.returns-in-None
returns-in-None c = after_none c.args.mark c.args.text.now c.in-None.ensures
