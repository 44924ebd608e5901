-- That a file of a call is there, and which key a key file gives.
use Rattle.std.specs.Prelude.{◌≡◌, ◌≤◌, ℕ, List, length, Option, None, Some, Ok}
use Rattle.std.specs.FinMap as map
use Rattle.outside_core.specs.Files.{FileMap}
use Rattle.cli_lines.specs.KeyCore.KeyFile.{key_file_key}
use Rattle.cli_lines.specs.KdbxFrame.Fields.{file_limit}

-- The file of this name is there and within the limit, and these are its bytes.
pub record IsThere (files : FileMap) (name bytes : List ℕ) : Type 0 where
  pub found : map.get files name ≡ Some bytes
  pub within : length bytes ≤ file_limit

-- The key file of this name gives this key.
pub record IsKeyFile (name : List ℕ) (files : FileMap) (key : List ℕ) : Type 0 where
  pub bytes : List ℕ
  pub there : IsThere files name bytes
  pub gives : key_file_key bytes ≡ Ok key

-- The key file gives this key, where one is named.
abbrev pub GivesKey : Option (List ℕ) → FileMap → Option (List ℕ) → Type 0
GivesKey None files key = key ≡ None
GivesKey (Some name) files key = (k : List ℕ) × (IsKeyFile name files k × (key ≡ Some k))
