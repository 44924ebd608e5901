-- The path of a new node: the group that is to hold it, and the node's own name.
use Rattle.std.specs.Prelude.{ℕ, Bool, ◌==◌, cond, List, [], ◌∷◌, ◌++◌, codes, length}
use Rattle.std.specs.List.{list_any}
use Rattle.tree_core.specs.Finding.{without_slashes}

-- a text has a slash
abbrev pub has_slash : List ℕ → Bool
has_slash = list_any (λ b. b == 47)

-- the part of a path before its last slash, and nothing where there is none
abbrev pub before_last : List ℕ → List ℕ
before_last [] = []
before_last (b ∷ bs) = cond (has_slash bs) (b ∷ before_last bs) []

-- the part after the last slash, and all of it where there is none
abbrev pub after_last : List ℕ → List ℕ
after_last [] = []
after_last (b ∷ bs) = cond (has_slash (b ∷ bs)) (after_last bs) (b ∷ bs)

-- a name below a group's path, which is the root's where it is empty
abbrev pub path_below : List ℕ → List ℕ → List ℕ
path_below [] name = name
path_below (b ∷ bs) name = (b ∷ bs) ++ codes "/" ++ name

-- the path that a new node of this path will have: that of the group that the part before the last
-- slash names, and the part after it
abbrev pub new_path : List ℕ → List ℕ
new_path path = path_below (without_slashes (before_last path)) (after_last path)

-- a path that names the root: it is empty but for one slash at its start and one at its end
abbrev pub names_root : List ℕ → Bool
names_root path = length (without_slashes path) == 0
