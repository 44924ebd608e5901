-- The entry that has a text at a place, from group to group.
use Rattle.std.specs.Prelude.{ℕ, List, Option, None}
use Rattle.std.specs.List.{find}
use Rattle.find_references.specs.declared.parts.Place.{Place}
use Rattle.find_references.specs.Fields.{has_at}
use Rattle.tree_core.specs.Finding.{or_else}
use Rattle.vault_model.specs.Db.{NodeId}
use Rattle.vault_model.specs.Shape.{EntryRecord}
use Rattle.vault_model.specs.Tree.{Tree, Trees, beside, node, none}

-- of a group's entries and those below it the first
abbrev mutual
  pub sought_in : Place → List ℕ → Tree → Option (NodeId × EntryRecord)
  sought_in place text (node u r es ts) = or_else (find (has_at place text) es)
      (sought_among place text ts)

  -- the same of groups side by side
  pub sought_among : Place → List ℕ → Trees → Option (NodeId × EntryRecord)
  sought_among place text none = None
  sought_among place text (beside t ts) =
      or_else (sought_in place text t) (sought_among place text ts)
