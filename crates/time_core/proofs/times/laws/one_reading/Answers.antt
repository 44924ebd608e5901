-- The seconds of a moment name its parts, and those its text.
use Rattle.std.proofs.Common.{sym, ◌∙◌}
use Rattle.time_core.proofs.Moments.{same_moment, same_text, iso_in_range}
use Rattle.time_core.proofs.times.laws.one_reading.Goals as goal

pub returns-clause-one_text : goal.returns-clause-one_text
returns-clause-one_text c a b seconds h k =
    let same = same_moment h.moment k.moment h.real k.real (sym h.counted ∙ k.counted) in
    h.spelling ∙ same_text _ _ same ∙ sym k.spelling

pub returns-clause-in_range : goal.returns-clause-in_range
returns-clause-in_range c = iso_in_range
