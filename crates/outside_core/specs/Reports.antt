-- What an object of the outside reports of its content, which only proofs read.
use Rattle.std.specs.Prelude.{◌≡◌, Bool, true, false, Option, None}

-- The content, as long as every answer was that of this content.
abbrev pub reported : {A : Type 0} → Bool → Option A → Option A
reported true content = content
reported false content = None

-- Where every answer up to now was that of the content, so was every answer before.
abbrev pub StaysTruthful : Bool → Bool → Type 0
StaysTruthful before now = now ≡ true → before ≡ true
