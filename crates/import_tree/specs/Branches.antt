-- Groups that places make, taken apart by the names that lead to the places, with no tree.
use Rattle.std.specs.Prelude.{ℕ, zero, suc, if◌then◌else◌, Option, None, Some, List, [], ◌∷◌, ◌++◌, bytes_eq, map}
use Rattle.import_tree.specs.Outcome.{groups_below_among}
use Rattle.import_tree.specs.Trees.{Placed, with_rows_among}
use Rattle.vault_model.specs.Db.{NodeId}
use Rattle.vault_model.specs.Shape.{EntryRecord}
use Rattle.vault_model.specs.Tree.{Trees, node_ids_all, none}

-- Entries, and before them those of a place to which these names lead, if there are none.
abbrev pub with_own : List (List ℕ) → List (NodeId × EntryRecord) → List (NodeId × EntryRecord)
    → List (NodeId × EntryRecord)
with_own [] own rows = own ++ rows
with_own (name ∷ names) own rows = rows

-- The entries of the places to which no more names lead.
abbrev pub own_rows : List Placed → List (NodeId × EntryRecord)
own_rows [] = []
own_rows (placed ∷ rest) = with_own placed.names placed.rows (own_rows rest)

-- Their ids.
abbrev pub own_ids : List Placed → List NodeId
own_ids places = map (λ (row : NodeId × EntryRecord). row.0) (own_rows places)

-- Places, and before them one to which these names lead, if there are some.
abbrev pub with_named : List (List ℕ) → Placed → List Placed → List Placed
with_named [] placed rest = rest
with_named (name ∷ names) placed rest = placed ∷ rest

-- The places to which more names lead.
abbrev pub places_below : List Placed → List Placed
places_below [] = []
places_below (placed ∷ rest) = with_named placed.names placed (places_below rest)

-- The first of some names, if there is one.
abbrev pub first_of : List (List ℕ) → Option (List ℕ)
first_of [] = None
first_of (name ∷ names) = Some name

-- The name that leads first to the first of some places, if there is one.
abbrev pub first_name : List Placed → Option (List ℕ)
first_name [] = None
first_name (placed ∷ rest) = first_of placed.names

-- Places, and before them one without the first of the names that lead to it, if that is this one.
abbrev pub with_inside : List ℕ → List (List ℕ) → Placed → List Placed → List Placed
with_inside name [] placed rest = rest
with_inside name (first ∷ names) placed rest =
    if bytes_eq name first then record placed { names = names } ∷ rest else rest

-- The places to which this name leads first, from the group of the name on.
abbrev pub inside : List ℕ → List Placed → List Placed
inside name [] = []
inside name (placed ∷ rest) = with_inside name placed.names placed (inside name rest)

-- Places, and before them one, unless this name is the first that leads to it.
abbrev pub with_other : List ℕ → List (List ℕ) → Placed → List Placed → List Placed
with_other name [] placed rest = placed ∷ rest
with_other name (first ∷ names) placed rest =
    if bytes_eq name first then rest else placed ∷ rest

-- The other places.
abbrev pub others : List ℕ → List Placed → List Placed
others name [] = []
others name (placed ∷ rest) = with_other name placed.names placed (others name rest)

-- The groups in the group of this id, with a place more.
abbrev pub with_way : NodeId → List (List ℕ) → Placed → Trees → Trees
with_way id [] placed trees = trees
with_way id (name ∷ names) placed trees =
    with_rows_among placed.now id name names placed.rows trees

-- The same with places more, one after another.
abbrev pub groups_of : NodeId → List Placed → Trees → Trees
groups_of id [] trees = trees
groups_of id (placed ∷ rest) trees = groups_of id rest (with_way id placed.names placed trees)

-- The ids of all nodes in the group of this id, in which nothing but these places is.
abbrev pub ids_in : NodeId → List Placed → List NodeId
ids_in id places = own_ids places ++ node_ids_all (groups_of id places none)

-- The id of a group on whose level no group may be.
abbrev pub deep_id : ℕ → NodeId → List NodeId
deep_id zero id = id ∷ []
deep_id (suc levels) id = []

-- The ids of the groups in it that are below so many more levels.
abbrev pub deep_in : ℕ → NodeId → List Placed → List NodeId
deep_in levels id places = groups_below_among levels (groups_of id places none)
