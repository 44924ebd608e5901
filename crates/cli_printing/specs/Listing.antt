-- What `ls` prints.
use Rattle.std.specs.Prelude.{ℕ, Bool, true, false, cond, List, [], ◌++◌, bytes_eq, codes, flat_map, Option, None, Some, option_and_then}
use Rattle.tree_core.specs.Finding.{group_found, id_name, or_else}
use Rattle.vault_model.specs.Db.{NodeId}
use Rattle.vault_model.specs.Shape.{EntryRecord}
use Rattle.vault_model.specs.Tree.{BareDoc, Tree, Trees, id_of, node, none, beside}
use Rattle.vault_model.specs.Walk.{name_of, title_of}

-- What is before the names in a group: two spaces for each level, or the path.
abbrev pub front_below : Bool → List ℕ → List ℕ → List ℕ
front_below true front name = (front ++ name) ++ codes "/"
front_below false front name = front ++ codes "  "

-- A name as it is listed: after the id of its node in braces, where ids are listed.
abbrev pub name_listed : Bool → NodeId → List ℕ → List ℕ
name_listed true id name = (id_name id ++ codes " ") ++ name
name_listed false id name = name

-- The titles of entries, each on a line.
abbrev pub title_lines : (ids : Bool) → List ℕ → List (NodeId × EntryRecord) → List ℕ
title_lines ids front entries = flat_map (λ (e : NodeId × EntryRecord). (front
    ++ name_listed ids e.0 (title_of e.1)) ++ codes "\n") entries

-- The titles of a group's entries, then the names of its groups, each with a slash and on a line,
-- and after each, where the listing goes down, what is listed of it.
abbrev mutual
  pub group_lines : (recursive flat ids : Bool) → List ℕ → Tree → List ℕ
  group_lines recursive flat ids front (node id group entries groups) =
      title_lines ids front entries ++ name_lines recursive flat ids front groups

  -- the same of groups side by side
  pub name_lines : (recursive flat ids : Bool) → List ℕ → Trees → List ℕ
  name_lines recursive flat ids front none = []
  name_lines recursive flat ids front (beside tree trees) =
      (((front ++ name_listed ids (id_of tree) (name_of tree)) ++ codes "/\n")
      ++ cond recursive (group_lines recursive flat ids
      (front_below flat front (name_of tree)) tree) [])
      ++ name_lines recursive flat ids front trees

-- The group of this id in a tree: the first in document order.
abbrev mutual
  pub tree_with : NodeId → Tree → Option Tree
  tree_with id (node u group entries groups) = cond (bytes_eq u id)
      (Some (node u group entries groups)) (tree_among id groups)

  -- the same of groups side by side
  pub tree_among : NodeId → Trees → Option Tree
  tree_among id none = None
  tree_among id (beside tree trees) = or_else (tree_with id tree) (tree_among id trees)

-- The group that is listed: the root, or the one that a path names.
abbrev pub tree_listed : Option (List ℕ) → BareDoc → Option Tree
tree_listed None doc = Some doc.tree
tree_listed (Some path) doc = option_and_then (λ id. tree_with id doc.tree) (group_found doc path)
