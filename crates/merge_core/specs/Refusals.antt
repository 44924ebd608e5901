-- Why documents are not merged: which nodes each refusal is about, and the least of them, which is
-- the one that it names.
use Rattle.std.specs.Prelude.{◌≡◌, ◌-◌, ℕ, Bool, true, not, cond, ◌&&◌, List, ◌∷◌, Option, None, Some, map}
use Rattle.std.specs.FinMap.{contains_key}
use Rattle.std.specs.List.{list_any, filter, flat_map}
use Rattle.vault_model.specs.Db.{NodeId, id_cmp, Db, Sound}
use Rattle.vault_model.specs.Join.{is_id, root_of, ids, trail, kept, join, IsIn, Allowed}
use Rattle.vault_model.specs.Proper.{rises}
use Rattle.vault_model.specs.Tree.{BareDoc, LEVELS, IsDoc, id_of, db_in, lay_doc, rooted}
use Rattle.vault_model.specs.Unite.{by_order, gather}
use Rattle.merge_core.specs.NodesBelow.{below_ids}
use Rattle.merge_core.specs.Marking.{first_such, strays}

-- the lesser of two ids
abbrev pub lesser : NodeId → NodeId → NodeId
lesser u v = by_order (id_cmp v u) v u u

-- the least of some ids
abbrev pub least : List NodeId → Option NodeId
least us = gather lesser (map Some us)

-- the databases that are joined: the target's, and each source's with its root under the id of the
-- target's root
abbrev pub members : BareDoc → List BareDoc → List Db
members t ss = db_in t ∷ map (λ s. db_in (rooted s (id_of t.tree))) ss

-- nodes that have the id of some document's root, and are not the root of their own
abbrev pub root_clashes : List BareDoc → List NodeId
root_clashes ds = filter (λ u. list_any (λ d. is_id u (id_of d.tree)) ds)
    (flat_map (λ d. below_ids d.tree) ds)

-- some member has the id for an entry
abbrev pub is_entry : List Db → NodeId → Bool
is_entry S u = list_any (λ m. contains_key m.entries u) S

-- some member has the id for a group
abbrev pub is_group : List Db → NodeId → Bool
is_group S u = list_any (λ m. contains_key m.groups u) S

-- ids of an entry in one member and of a group in another
abbrev pub kind_clashes : List Db → List NodeId
kind_clashes S = filter (λ u. is_entry S u && is_group S u) (ids S)

-- so many steps up a node may be from the root: an entry is at the level of its group
abbrev pub allowed_steps : ℕ → List Db → NodeId → ℕ
allowed_steps n S u = cond (is_entry S u) n (n - 1)

-- a kept node below the last of n levels
abbrev pub is_too_deep : ℕ → List Db → NodeId → Bool
is_too_deep n S u = kept S u && not (list_any (is_id (root_of S)) (trail S (allowed_steps n S u) u))

-- all of them
unfoldable pub too_deep : ℕ → List Db → List NodeId
too_deep n S = filter (is_too_deep n S) (ids S)

-- Documents that no refusal is about can be joined, and what is laid is a document.
pub record CanMerge (t : BareDoc) (ss : List BareDoc) : Type 0 where
  pub sound : (m : Db) → IsIn m (members t ss) → Sound m
  pub allowed : Allowed (members t ss)
  pub joined : Sound (join (members t ss))
  pub laid : IsDoc (lay_doc LEVELS (join (members t ss)) t)

-- where there is nothing to refuse
abbrev pub MergesAreDocuments : Type 0
MergesAreDocuments = (t : BareDoc) (ss : List BareDoc) → IsDoc t
    → ((s : BareDoc) → IsIn s ss → IsDoc s)
    → least (root_clashes (t ∷ ss)) ≡ None → least (kind_clashes (members t ss)) ≡ None
    → least (strays (members t ss)) ≡ None → least (too_deep LEVELS (members t ss)) ≡ None
    → CanMerge t ss

-- lists with the same ids have the same least
abbrev pub LeastIsOfIds : Type 0
LeastIsOfIds = (us vs : List NodeId)
    → ((u : NodeId) → list_any (is_id u) us ≡ list_any (is_id u) vs) → least us ≡ least vs

-- of ids that rise the first that passes a test is the least that does
abbrev pub FirstIsLeast : Type 0
FirstIsLeast = (test : NodeId → Bool) (us : List NodeId) → rises (λ u. u) us ≡ true
    → first_such test us ≡ least (filter test us)
