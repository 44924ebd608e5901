use Rattle.std.proofs.Common.{None, ◌∙◌, arith}
use Rattle.std.proofs.lemmas.Str.Pattern.{strip_prefix_char}
use Rattle.find_references.proofs.TermParts.{no_sign}
use Rattle.find_references.proofs.parsing.signs_before.Goals as goal

pub returns-in_default-strip_prefix-2 : goal.returns-in_default-strip_prefix-2
returns-in_default-strip_prefix-2 c =
    let following = c.signs.following.now in
    no_sign c.signs.not c.signs.whole following
    (strip_prefix_char 33 following None c.in_default.ensures.cases (omega arith))
    (strip_prefix_char 45 following None c.in_default-strip_prefix.ensures.cases (omega arith))
    (strip_prefix_char 43 following None c.in_default-strip_prefix-2.ensures.cases (omega arith))
    ∙ c.signs.invariant.1
