-- Finding a node by its id, from group to group.
use Rattle.std.specs.Prelude.{ℕ, cond, List, [], ◌∷◌, Option, None, Some, bytes_eq}
use Rattle.vault_model.specs.Db.{NodeId}
use Rattle.vault_model.specs.Shape.{EntryRecord}
use Rattle.vault_model.specs.Tree.{Tree, Trees, beside, node, none}
use Rattle.tree_core.specs.Finding.{id_name, or_else}

-- of entries the first whose id a text names
abbrev pub named_among : List ℕ → List (NodeId × EntryRecord) → Option NodeId
named_among text [] = None
named_among text (e ∷ es) = cond (bytes_eq text (id_name e.0)) (Some e.0) (named_among text es)

-- of a group's entries and those below it the first whose id a text names
abbrev mutual
  pub entry_with_name : List ℕ → Tree → Option NodeId
  entry_with_name text (node u r es ts) = or_else (named_among text es)
      (entry_with_name_in text ts)

  -- the same of groups side by side
  pub entry_with_name_in : List ℕ → Trees → Option NodeId
  entry_with_name_in text none = None
  entry_with_name_in text (beside t ts) =
      or_else (entry_with_name text t) (entry_with_name_in text ts)

-- of a group and those below it the first whose id a text names
abbrev mutual
  pub group_with_name : List ℕ → Tree → Option NodeId
  group_with_name text (node u r es ts) = cond (bytes_eq text (id_name u)) (Some u)
      (group_with_name_in text ts)

  -- the same of groups side by side
  pub group_with_name_in : List ℕ → Trees → Option NodeId
  group_with_name_in text none = None
  group_with_name_in text (beside t ts) =
      or_else (group_with_name text t) (group_with_name_in text ts)
