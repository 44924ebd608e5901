-- The names of the groups that lead to an entry of a table.
use Rattle.std.specs.Prelude.{ℕ, Bool, true, false, ◌==◌, if◌then◌else◌, List, [], ◌∷◌, codes, drop, filter}
use Rattle.std.specs.List.{slice_split}
use Rattle.std.specs.Str.{bytes_eq}

-- a part that is not empty is a name
abbrev pub is_name : List ℕ → Bool
is_name [] = false
is_name (byte ∷ bytes) = true

-- the first of some names is that of the root
abbrev pub begins_at_root : List (List ℕ) → Bool
begins_at_root [] = false
begins_at_root (name ∷ names) = bytes_eq name (codes "Root")

-- names from below the root
abbrev pub below_root : List (List ℕ) → List (List ℕ)
below_root names = if begins_at_root names then drop 1 names else names

-- the names that lead to an entry: the parts of a text between its slashes that are not empty, from
-- below the root, which a first part `Root` is
abbrev pub group_names : List ℕ → List (List ℕ)
group_names text = below_root (filter is_name (slice_split (λ byte. byte == 47) text))
