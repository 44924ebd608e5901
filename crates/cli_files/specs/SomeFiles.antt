-- That some bytes are a key file, whatever the store reports and answered.
use Rattle.std.specs.Prelude.{◌≡◌, ℕ, List, Option, None, Some, Ok}
use Rattle.cli_lines.specs.KeyCore.KeyFile.{key_file_key}

-- Some bytes are a key file that gives this key.
abbrev pub IsSomeKey : List ℕ → Type 0
IsSomeKey key = (bytes : List ℕ) × (key_file_key bytes ≡ Ok key)

-- The key is that of some key file, where one is named.
abbrev pub SomeKey : Option (List ℕ) → Option (List ℕ) → Type 0
SomeKey None key = key ≡ None
SomeKey (Some name) key = (k : List ℕ) × (IsSomeKey k × (key ≡ Some k))
