-- The nodes that are in each group.
use Rattle.std.specs.Prelude.{◌≡◌, List, []}
use Rattle.std.specs.FinMap.{FinMap, get}
use Rattle.std.specs.Option.{unwrap_or}
use Rattle.vault_model.specs.Db.{NodeId, id_cmp, Db}
use Rattle.vault_model.specs.Shape.{ids_in_group}

-- the ids that a table has for a group, none where it has no list of it
abbrev pub ids_under : FinMap id_cmp (List NodeId) → NodeId → List NodeId
ids_under t g = unwrap_or (get t g) []

-- a table has for each group those of some ids that are in it
abbrev pub AreUnder : Db → List NodeId → FinMap id_cmp (List NodeId) → Type 0
AreUnder m us t = (g : NodeId) → ids_under t g ≡ ids_in_group m g us
