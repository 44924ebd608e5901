-- Files that agree on what words name.
use Rattle.std.specs.Prelude.{◌≡◌, ℕ, List}
use Rattle.std.specs.FinMap as map
use Rattle.outside_core.specs.Files.{FileMap}
use Rattle.vault_model.specs.Join.{IsIn}

-- Two maps of files agree on these names: under each of them both have the same bytes, or neither
-- has a file.
abbrev pub AgreeOn : List (List ℕ) → FileMap → FileMap → Type 0
AgreeOn names files others = (name : List ℕ) → IsIn name names
    → map.get files name ≡ map.get others name
