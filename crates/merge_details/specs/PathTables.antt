-- The paths of nodes in tables, and in the order in which a program makes them.
use Rattle.std.specs.Prelude.{ℕ, List, [], ◌∷◌, ◌++◌, codes, map}
use Rattle.std.specs.FinMap.{FinMap, get}
use Rattle.std.specs.Option.{unwrap_or}
use Rattle.vault_model.specs.Db.{NodeId, id_cmp}
use Rattle.vault_model.specs.Shape.{EntryRecord}
use Rattle.vault_model.specs.Tree.{Tree, Trees, beside, id_of, node, none}
use Rattle.vault_model.specs.Walk.{name_of, title_of}

-- the path of an id, and nothing where there is none
abbrev pub path_at : FinMap id_cmp (List ℕ) → NodeId → List ℕ
path_at paths id = unwrap_or (get paths id) []

-- the path of what has this name in a group of this path, which is empty for the root
abbrev pub path_below : List ℕ → List ℕ → List ℕ
path_below above name = above ++ codes "/" ++ name

-- an entry's id beside its path, in a group of this path
abbrev pub entry_path : List ℕ → NodeId × EntryRecord → NodeId × List ℕ
entry_path above e = (e.0, path_below above (title_of e.1))

-- a group's id beside its path, in a group of this path
abbrev pub group_path : List ℕ → Tree → NodeId × List ℕ
group_path above t = (id_of t, path_below above (name_of t))

abbrev mutual
  -- the ids beside the paths of all that is in a group of this path
  pub paths_inside : List ℕ → Tree → List (NodeId × List ℕ)
  paths_inside above (node u r es ts) = map (entry_path above) es ++ paths_among above ts

  -- the same of groups side by side in a group of this path, and of all that is in them
  pub paths_among : List ℕ → Trees → List (NodeId × List ℕ)
  paths_among above none = []
  paths_among above (beside t ts) =
      (group_path above t ∷ paths_inside (group_path above t).1 t) ++ paths_among above ts

-- the ids beside the paths of all nodes of a tree
abbrev pub all_paths : Tree → List (NodeId × List ℕ)
all_paths t = (id_of t, codes "/") ∷ paths_inside [] t
