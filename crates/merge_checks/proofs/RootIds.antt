-- Truth values of the ids that a table has so far.
use Rattle.std.proofs.Common.{◌≡◌, ◌||◌, Bool, true, false, refl}

pub or_off : (a b : Bool) → b ≡ false → (a || b) ≡ a
or_off true b e = refl
or_off false b e = e
