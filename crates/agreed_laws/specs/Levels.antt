-- Which documents are merged without passing the last level.
use Rattle.std.specs.Prelude.{◌≡◌, ◌<◌, ℕ, List, None, ◌↔◌}
use Rattle.vault_model.specs.Db.{Db, Sound}
use Rattle.vault_model.specs.Join.{join, IsIn, Allowed}
use Rattle.vault_model.specs.Tree.{BareDoc, LEVELS, FitsLevels, IsDoc, db_in}
use Rattle.merge_core.specs.Refusals.{least, too_deep}

-- the database of a document fits its levels
abbrev pub DocumentsFit : Type 0
DocumentsFit = (d : BareDoc) → IsDoc d → FitsLevels LEVELS (db_in d)

-- no kept node is too deep exactly where the join fits the levels
abbrev pub FitsIsShallow : Type 0
FitsIsShallow = (n : ℕ) (S : List Db) → 0 < n → Allowed S → ((m : Db) → IsIn m S → Sound m)
    → (least (too_deep n S) ≡ None) ↔ FitsLevels n (join S)
