-- The paths of entries, from group to group.
use Rattle.std.specs.Prelude.{ℕ, Bool, if◌then◌else◌, List, [], ◌++◌, codes, flat_map}
use Rattle.vault_model.specs.Db.{NodeId}
use Rattle.vault_model.specs.Shape.{EntryRecord}
use Rattle.vault_model.specs.Tree.{Tree, Trees, beside, node, none}
use Rattle.vault_model.specs.Walk.{name_of, title_of}

-- The line of an entry whose id passes a test; what is before its title is the path of its group.
abbrev pub entry_line : (NodeId → Bool) → List ℕ → NodeId × EntryRecord → List ℕ
entry_line is_found front e =
    if is_found e.0 then (front ++ title_of e.1) ++ codes "\n" else []

-- The lines of such entries in a group.
abbrev pub entry_lines : (NodeId → Bool) → List ℕ → List (NodeId × EntryRecord) → List ℕ
entry_lines is_found front es = flat_map (entry_line is_found front) es

-- What is before the titles of a group of this name.
abbrev pub front_below : List ℕ → List ℕ → List ℕ
front_below front name = (front ++ name) ++ codes "/"

-- The lines of such entries in a group and below it.
abbrev mutual
  pub tree_lines : (NodeId → Bool) → List ℕ → Tree → List ℕ
  tree_lines is_found front (node u r es ts) = entry_lines is_found front es
      ++ trees_lines is_found front ts

  -- the same of groups side by side
  pub trees_lines : (NodeId → Bool) → List ℕ → Trees → List ℕ
  trees_lines is_found front none = []
  trees_lines is_found front (beside t ts) =
      tree_lines is_found (front_below front (name_of t)) t ++ trees_lines is_found front ts
