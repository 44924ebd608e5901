-- The ids that members know of.
use Rattle.std.specs.Prelude.{List, ◌++◌}
use Rattle.std.specs.FinMap.{keys}
use Rattle.std.specs.List.{flat_map}
use Rattle.vault_model.specs.Db.{Db, NodeId}

-- all ids that a database knows of, those of nodes, of places and of tombstones
abbrev pub known_in : Db → List NodeId
known_in m = (keys m.entries ++ keys m.groups) ++ (keys m.places ++ keys m.tombs)

-- all ids that some members know of
abbrev pub known_ids : List Db → List NodeId
known_ids S = flat_map known_in S
