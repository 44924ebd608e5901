-- The laws of twins.
use Rattle.std.specs.Prelude.{◌≤◌, ℕ, [], ◌∷◌}
use Rattle.vault_model.specs.Join.{join, Agreed}
use Rattle.vault_model.specs.Tree.{LEVELS, FitsLevels, IsDoc, db_in}
use Rattle.merge_twins.specs.Twins.{first_twin, second_twin}

-- both copies keep what every document keeps
abbrev pub TwinsAreDocuments : Type 0
TwinsAreDocuments = (count : ℕ) → count ≤ 50_000
    → IsDoc (first_twin count) × IsDoc (second_twin count)

-- and they agree
abbrev pub TwinsAgree : Type 0
TwinsAgree = (count : ℕ) → count ≤ 50_000
    → Agreed (db_in (first_twin count) ∷ db_in (second_twin count) ∷ [])

-- and made one they fit the levels of a document
abbrev pub TwinsFit : Type 0
TwinsFit = (count : ℕ) → count ≤ 50_000
    → FitsLevels LEVELS (join (db_in (first_twin count) ∷ db_in (second_twin count) ∷ []))
