-- What it is for a database to have only grown: all that it held is there still, or was deleted.
use Rattle.std.specs.Prelude.{◌≡◌, true, false, [], ◌∷◌, None, max}
use Rattle.std.specs.FinMap.{get}
use Rattle.vault_model.specs.Db.{NodeId, place_cmp, Db, holds}
use Rattle.vault_model.specs.Join.{stats_join, state_join, meta_join, stamp, is_from}
use Rattle.vault_model.specs.Unite.{greater, join_options, unite}

-- One database before a change and another after it.
pub record Grows (m n : Db) : Type 0 where
  pub root : m.root ≡ n.root
  -- a node that is there has all versions that it had, the greatest state and the latest place, and had no tombstone
  pub entries : (u : NodeId) → holds n u ≡ true → join_options (unite stats_join) (get m.entries u) (get n.entries u) ≡ get n.entries u
  pub groups : (u : NodeId) → holds n u ≡ true → join_options state_join (get m.groups u) (get n.groups u) ≡ get n.groups u
  pub places : (u : NodeId) → holds n u ≡ true → join_options (greater place_cmp) (get m.places u) (get n.places u) ≡ get n.places u
  pub alive : (u : NodeId) → holds n u ≡ true → get m.tombs u ≡ None
  -- a node that is gone has a tombstone at or after its stamp, and tombstones stay
  pub gone : (u : NodeId) → holds n u ≡ false → holds m u ≡ true → is_from (stamp (m ∷ n ∷ []) u) (get n.tombs u) ≡ true
  pub tombs : (u : NodeId) → holds n u ≡ false → join_options max (get m.tombs u) (get n.tombs u) ≡ get n.tombs u
  pub meta : meta_join m.meta n.meta ≡ n.meta
