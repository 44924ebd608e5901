-- What two documents have in common, node by node: each node is known by its id, and each group has
-- two lists of children, whose order counts.
use Rattle.std.specs.Prelude.{◌≡◌, ℕ, Bool, false, ◌||◌, List, [], ◌∷◌, ◌++◌, Option, Some}
use Rattle.std.specs.FinMap.{get}
use Rattle.vault_model.specs.Db.{NodeId}
use Rattle.vault_model.specs.Join.{is_id}
use Rattle.vault_model.specs.Shape.{Children, EntryRecord, GroupRecord}
use Rattle.vault_model.specs.Tree.{BareDoc, id_of, shape_of}

-- an entry's record: since when it is in its group, its previous parent, and its versions
abbrev pub entry_of : BareDoc → NodeId → Option EntryRecord
entry_of d u = get (shape_of d).entries u

-- a group's record: since when it is in its parent, its previous parent, what it says of itself and
-- how it is looked at
abbrev pub group_of : BareDoc → NodeId → Option GroupRecord
group_of d u = get (shape_of d).groups u

-- the ids of a group's entries and of its groups, in their order
abbrev pub children_of : BareDoc → NodeId → Option Children
children_of d u = get (shape_of d).children u

-- when a node was deleted
abbrev pub tomb_of : BareDoc → NodeId → Option ℕ
tomb_of d u = get (shape_of d).tombs u

-- ---- some nodes

-- None of all nodes.
abbrev pub no_node : NodeId → Bool
no_node q = false

-- This node alone.
abbrev pub only : NodeId → NodeId → Bool
only u q = is_id q u

-- These two nodes.
abbrev pub either : NodeId → NodeId → NodeId → Bool
either u w q = is_id q u || is_id q w

-- ---- two documents

-- Two documents are the same but for the records of some entries, the records of some groups and
-- the children of some groups.
pub record AreSameBut (entry group children : NodeId → Bool) (d e : BareDoc) : Type 0 where
  pub entries : (q : NodeId) → entry q ≡ false → entry_of e q ≡ entry_of d q
  pub groups : (q : NodeId) → group q ≡ false → group_of e q ≡ group_of d q
  pub lists : (q : NodeId) → children q ≡ false → children_of e q ≡ children_of d q
  pub root : id_of e.tree ≡ id_of d.tree

-- A group has one entry more, after the others.
pub record HasNewEntry (g u : NodeId) (d e : BareDoc) : Type 0 where
  pub before : Children
  pub was : children_of d g ≡ Some before
  pub now : children_of e g ≡ Some (record before { entries = before.entries ++ u ∷ [] })

-- A group has one group more, after the others.
pub record HasNewGroup (g u : NodeId) (d e : BareDoc) : Type 0 where
  pub before : Children
  pub was : children_of d g ≡ Some before
  pub now : children_of e g ≡ Some (record before { groups = before.groups ++ u ∷ [] })

-- A group has one entry less; the others are in the same order.
pub record HasLostEntry (g u : NodeId) (d e : BareDoc) : Type 0 where
  pub front : List NodeId
  pub back : List NodeId
  pub groups : List NodeId
  pub was : children_of d g ≡ Some (record { entries = front ++ u ∷ back; groups = groups })
  pub now : children_of e g ≡ Some (record { entries = front ++ back; groups = groups })

-- A group has one group less; the others are in the same order.
pub record HasLostGroup (g u : NodeId) (d e : BareDoc) : Type 0 where
  pub front : List NodeId
  pub back : List NodeId
  pub entries : List NodeId
  pub was : children_of d g ≡ Some (record { entries = entries; groups = front ++ u ∷ back })
  pub now : children_of e g ≡ Some (record { entries = entries; groups = front ++ back })
