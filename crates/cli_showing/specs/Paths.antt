-- The paths of entries, each on a line.
use Rattle.std.specs.Prelude.{ℕ, Bool, false, if◌then◌else◌, List, [], ◌++◌, codes, flat_map}
use Rattle.std.specs.List.{list_any}
use Rattle.vault_model.specs.Db.{NodeId}
use Rattle.vault_model.specs.Join.{is_id}
use Rattle.vault_model.specs.Tree.{BareDoc}
use Rattle.vault_model.specs.Walk.{Node, Walked, a_group, an_entry, walk}

-- A node is an entry whose id passes a test.
abbrev pub is_entry_found : (NodeId → Bool) → Node → Bool
is_entry_found is_found (an_entry id entry) = is_found id
is_entry_found is_found (a_group id group) = false

-- The path of a node after a slash, on a line, where it is such an entry.
abbrev pub path_line : (NodeId → Bool) → Walked → List ℕ
path_line is_found w =
    if is_entry_found is_found w.found then codes "/" ++ w.path ++ codes "\n" else []

-- An id is one of these.
abbrev pub is_among : List NodeId → NodeId → Bool
is_among ids id = list_any (is_id id) ids

-- The paths of a document's entries of these ids, in document order.
abbrev pub paths_found : List NodeId → BareDoc → List ℕ
paths_found ids doc = flat_map (path_line (is_among ids)) (walk doc)
