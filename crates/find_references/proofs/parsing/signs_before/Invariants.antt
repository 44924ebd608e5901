use Rattle.std.proofs.Common.{◌≡◌, false, length}
use denote.Text.{Utf8}
use denote.Shadow.{shadow}
use Rattle.find_references.specs.Terms as spec
use Rattle.find_references.proofs.parsing.signs_before.Given as goal

abbrev pub invariant-signs : goal.invariant-signs
invariant-signs l =
    shadow (Utf8 l.following) × (spec.signs_before l.not l.whole l.following ≡ spec.signs_before false false l.text)

abbrev pub decreases-signs : goal.decreases-signs
decreases-signs l = length l.following
