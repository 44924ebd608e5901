-- The names of nodes by their ids, in tables.
use Rattle.std.specs.Prelude.{ℕ, List, [], ◌∷◌, cond}
use Rattle.std.specs.FinMap.{FinMap, contains_key, get, insert}
use Rattle.std.specs.Option.{unwrap_or}
use Rattle.vault_model.specs.Db.{NodeId, id_cmp}
use Rattle.vault_model.specs.Shape.{EntryRecord}
use Rattle.vault_model.specs.Tree.{Tree, Trees, beside, node, none}
use Rattle.vault_model.specs.Walk.{title_of}

-- Names by ids.
abbrev pub Names : Type 0
Names = FinMap id_cmp (List ℕ)

-- The name of an id, and nothing where there is none.
abbrev pub name_at : Names → NodeId → List ℕ
name_at names id = unwrap_or (get names id) []

-- Names with one more, unless its id has one.
abbrev pub with_name : NodeId → List ℕ → Names → Names
with_name id name names = cond (contains_key names id) names (insert names id name)

-- Names with the titles of entries, one after another.
abbrev pub with_titles : List (NodeId × EntryRecord) → Names → Names
with_titles [] names = names
with_titles (entry ∷ entries) names =
    with_titles entries (with_name entry.0 (title_of entry.1) names)

abbrev mutual
  -- Names with those of a group and of all that is in it.
  pub with_tree : Tree → Names → Names
  with_tree (node u r es ts) names =
      with_trees ts (with_titles es (with_name u r.state.content.name names))

  -- the same of groups side by side
  pub with_trees : Trees → Names → Names
  with_trees none names = names
  with_trees (beside t ts) names = with_trees ts (with_tree t names)
