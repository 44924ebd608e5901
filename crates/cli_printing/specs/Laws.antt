-- What the laws of a listing speak of.
use Rattle.std.specs.Prelude.{ℕ, ◌+◌, Bool, true, false, ◌≡◌, ◌⊎◌, List, [], ◌∷◌, ◌++◌, codes, flat_map, length, map}
use Rattle.cli_printing.specs.Listing.{front_below, name_listed}
use Rattle.vault_model.specs.Db.{NodeId}
use Rattle.vault_model.specs.Shape.{EntryRecord}
use Rattle.vault_model.specs.Tree.{Tree, Trees, id_of, node, none, beside, ids_of}
use Rattle.vault_model.specs.Walk.{name_of, title_of}

-- Texts, each on a line and after this prefix.
abbrev pub lines_of : List ℕ → List (List ℕ) → List ℕ
lines_of front texts = flat_map (λ text. (front ++ text) ++ codes "\n") texts

-- The titles of entries as they are listed.
abbrev pub titles_of : (ids : Bool) → List (NodeId × EntryRecord) → List (List ℕ)
titles_of ids entries =
    map (λ (e : NodeId × EntryRecord). name_listed ids e.0 (title_of e.1)) entries

-- A group's name as it is listed, with a slash.
abbrev pub listed_name : (ids : Bool) → Tree → List ℕ
listed_name ids tree = name_listed ids (id_of tree) (name_of tree) ++ codes "/"

-- The names of groups side by side as they are listed, each with a slash.
abbrev pub listed_names : (ids : Bool) → Trees → List (List ℕ)
listed_names ids none = []
listed_names ids (beside tree trees) = listed_name ids tree ∷ listed_names ids trees

-- The titles of a group's entries, and then the names of its groups, each with a slash, as they are
-- listed.
abbrev pub children_named : (ids : Bool) → Tree → List (List ℕ)
children_named ids (node id group entries groups) =
    titles_of ids entries ++ listed_names ids groups

-- How many children a group has: entries and groups.
abbrev pub child_count : Tree → ℕ
child_count (node id group entries groups) = length entries + length (ids_of groups)

-- A group's name with a slash.
abbrev pub slashed_name : Tree → List ℕ
slashed_name tree = name_of tree ++ codes "/"

-- The paths of all that is below a group, as they are listed: the titles of its entries, and for
-- each of its groups the name with a slash, and the paths of all that is below that group, each
-- after the name of that group by itself and a slash.
abbrev mutual
  pub paths_below : (ids : Bool) → Tree → List (List ℕ)
  paths_below ids (node id group entries groups) = titles_of ids entries ++ paths_among ids groups

  -- the same of groups side by side
  pub paths_among : (ids : Bool) → Trees → List (List ℕ)
  paths_among ids none = []
  paths_among ids (beside tree trees) =
      (listed_name ids tree ∷ map (λ path. slashed_name tree ++ path) (paths_below ids tree))
      ++ paths_among ids trees

-- A group is one of groups side by side.
abbrev pub IsAmong : Tree → Trees → Type 0
IsAmong group none = true ≡ false
IsAmong group (beside tree trees) = (group ≡ tree) ⊎ IsAmong group trees

-- The names lead from a group down to one that is below it: each is the name of a group in the one
-- before.
abbrev pub LeadTo : List (List ℕ) → Tree → Tree → Type 0
LeadTo [] tree group = group ≡ tree
LeadTo (name ∷ names) (node id row entries groups) group =
    (child : Tree) × IsAmong child groups × (name_of child ≡ name) × LeadTo names child group

-- The prefix of the lines in a group to which names lead: two spaces for each name, or each name
-- with a slash.
abbrev pub front_along : Bool → List ℕ → List (List ℕ) → List ℕ
front_along flat front names = front ++ flat_map (λ name. front_below flat [] name) names

-- A text is a part of another.
abbrev pub IsPart : List ℕ → List ℕ → Type 0
IsPart part text = (before : List ℕ) × (after : List ℕ) × (text ≡ (before ++ part) ++ after)
