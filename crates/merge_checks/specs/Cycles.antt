-- The cycle that the way up from a node ends in.
use Rattle.std.specs.Prelude.{List, length}
use Rattle.vault_model.specs.Db.{NodeId, Db, steps}
use Rattle.vault_model.specs.Join.{above, ids, trail}
use Rattle.merge_changes.specs.Changes.{rising_ids}

-- the cycle that the way up from a node ends in: as many steps as there are ids lead into it, and as
-- many again visit all of it
abbrev pub cycle_above : List Db → NodeId → List NodeId
cycle_above S u = rising_ids (trail S (length (ids S)) (steps (above S) (length (ids S)) u))
