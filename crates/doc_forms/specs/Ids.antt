-- The ids of a tree's nodes, none of which two nodes may have, and the tombstones of other ids.
use Rattle.std.specs.Prelude.{ℕ, if◌then◌else◌, Option, Some, None, List, [], ◌∷◌, max, bytes_eq, filter, Result, Ok, Err}
use Rattle.std.specs.List.{list_any}
use Rattle.std.specs.Ordering.{is_lt}
use Rattle.std.specs.declared.cmp.Ordering.{Ordering}
use Rattle.std.specs.declared.cmp.Ordering.TheVariants.{Less, Equal, Greater}
use Rattle.vault_model.specs.Db.{NodeId}
use Rattle.vault_model.specs.Orders.{bytes_cmp}
use Rattle.vault_model.specs.Tree.{Tree, is_elsewhere}
use Rattle.vault_model.specs.declared.nodes.Tombstone.{Tombstone}
use Rattle.doc_forms.specs.declared.fails.DocFail.{DocFail}
use Rattle.doc_forms.specs.declared.fails.DocFail.TheVariants.{DuplicateId}

-- ---- duplicate ids

-- of an id and another, where there is another, the lesser
abbrev pub lesser_id : NodeId → Option NodeId → NodeId
lesser_id u None = u
lesser_id u (Some v) = if is_lt (bytes_cmp u v) then u else v

-- the least of some ids that occurs twice
abbrev pub least_duplicate : List NodeId → Option NodeId
least_duplicate [] = None
least_duplicate (u ∷ us) =
    if list_any (bytes_eq u) us then Some (lesser_id u (least_duplicate us)) else least_duplicate us

-- no id occurs twice
abbrev pub refuse_duplicate : Option NodeId → Result (Unit {0}) DocFail
refuse_duplicate None = Ok tt
refuse_duplicate (Some u) = Err (DuplicateId u)

-- ---- tombstones

-- what comes of the first of some tombstones: of two of one id the later time counts
abbrev pub bury_beside :
    Ordering → Tombstone → Tombstone → List Tombstone → List Tombstone → List Tombstone
bury_beside Less t u us after = t ∷ u ∷ us
bury_beside Equal t u us after = record t { deleted = max t.deleted u.deleted } ∷ us
bury_beside Greater t u us after = u ∷ after

-- tombstones that rise by id, and one more
abbrev pub bury : Tombstone → List Tombstone → List Tombstone
bury t [] = t ∷ []
bury t (u ∷ us) = bury_beside (bytes_cmp t.id u.id) t u us (bury t us)

-- some tombstones in the order of their ids
abbrev pub bury_all : List Tombstone → List Tombstone
bury_all [] = []
bury_all (t ∷ ts) = bury t (bury_all ts)

-- those that name no node of a tree
abbrev pub tombs_of : Tree → List Tombstone → List Tombstone
tombs_of tree tombs = filter (λ (t : Tombstone). is_elsewhere tree t.id) (bury_all tombs)

-- an id and the time of its deletion as a tombstone
abbrev pub tomb_of : NodeId × ℕ → Tombstone
tomb_of e = record { id = e.0; deleted = e.1 }
