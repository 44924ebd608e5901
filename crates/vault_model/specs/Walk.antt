-- The nodes of a document with their paths, in document order.
use Rattle.std.specs.Prelude.{ℕ, List, [], ◌∷◌, ◌++◌, codes, map}
use Rattle.std.specs.List.{find}
use Rattle.std.specs.Option.{option_map, unwrap_or}
use Rattle.std.specs.Str.{bytes_eq}
use Rattle.vault_model.specs.Bare.{BareField}
use Rattle.vault_model.specs.Db.{NodeId}
use Rattle.vault_model.specs.Shape.{EntryRecord, GroupRecord}
use Rattle.vault_model.specs.Tree.{BareDoc, Tree, Trees, beside, node, none}

-- An entry or a group, with its id.
pub data Node : Type 0 where
  an_entry : NodeId → EntryRecord → Node
  a_group : NodeId → GroupRecord → Node

-- A node with its path.
pub record Walked : Type 0 where
  pub path : List ℕ
  pub found : Node

-- names one after another, each after a slash
abbrev pub slashed : List (List ℕ) → List ℕ
slashed [] = []
slashed (n ∷ ns) = codes "/" ++ n ++ slashed ns

-- names with a slash between each two
abbrev pub slash_joined : List (List ℕ) → List ℕ
slash_joined [] = []
slash_joined (n ∷ ns) = n ++ slashed ns

-- the value of the field of this key, empty where there is none
abbrev pub value_of : List ℕ → List BareField → List ℕ
value_of key fields = unwrap_or (option_map (λ (f : BareField). f.value)
    (find (λ (f : BareField). bytes_eq key f.key) fields)) []

-- an entry's title: the value of the field `Title` of its current version
abbrev pub title_of : EntryRecord → List ℕ
title_of e = value_of (codes "Title") e.current.mark.content.fields

-- a group's name
abbrev pub name_of : Tree → List ℕ
name_of (node u r es ts) = r.state.content.name

-- an entry with its path: the names of its groups below the root, and then its title
abbrev pub walked_entry : List (List ℕ) → NodeId × EntryRecord → Walked
walked_entry names e = record {
  path = slash_joined (names ++ title_of e.1 ∷ []);
  found = an_entry
      e.0 e.1;
}

-- a group, then its entries, and then its groups in their order, each with all below it; the names
-- are those that lead to it from below the root
abbrev mutual
  pub walk_tree : List (List ℕ) → Tree → List Walked
  walk_tree names (node u r es ts) = record { path = slash_joined names; found = a_group u r } ∷
      (map (walked_entry names) es ++ walk_trees names ts)

  -- the same of groups side by side
  pub walk_trees : List (List ℕ) → Trees → List Walked
  walk_trees names none = []
  walk_trees names (beside t ts) = walk_tree (names ++ name_of t ∷ []) t ++ walk_trees names ts

-- all nodes with their paths; the root's path is empty
abbrev pub walk : BareDoc → List Walked
walk d = walk_tree [] d.tree
