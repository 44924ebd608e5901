-- Ids of sixteen bytes.
use Rattle.std.specs.Prelude.{ℕ, List, [], ◌∷◌, ◌++◌, take}
use Rattle.sha1.specs.Sha1.{sha1}
use Rattle.uuid.specs.Parts.{with_variant, with_version}
use Rattle.uuid.specs.declared.Variant.TheVariants.{RFC4122}
use Rattle.uuid.specs.declared.Version.TheVariants.{Sha1}

-- The bytes of the id that no node has.
abbrev pub nil_bytes : List ℕ
nil_bytes = 0 ∷ 0 ∷ 0 ∷ 0 ∷ 0 ∷ 0 ∷ 0 ∷ 0 ∷ 0 ∷ 0 ∷ 0 ∷ 0 ∷ 0 ∷ 0 ∷ 0 ∷ 0 ∷ []

-- The bytes of the id that a name has in a space: version 5.
abbrev pub named_bytes : List ℕ → List ℕ → List ℕ
named_bytes space name = with_version (with_variant (take 16 (sha1 (space ++ name))) RFC4122) Sha1
