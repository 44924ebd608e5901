-- Which rows the table of a document has: the names of its columns, and the current version of each
-- entry.
use Rattle.std.specs.Prelude.{ℕ, List, [], ◌∷◌, ◌++◌, codes, map}
use Rattle.doc_spelling.specs.Moments.{iso_at}
use Rattle.table_core.specs.Tables.{rows_text}
use Rattle.vault_model.specs.Db.{NodeId}
use Rattle.vault_model.specs.Shape.{EntryRecord}
use Rattle.vault_model.specs.Tree.{BareDoc, Tree, Trees, node, none, beside}
use Rattle.vault_model.specs.Walk.{name_of, slash_joined, value_of}

-- The names of the columns.
abbrev pub header : List (List ℕ)
header = codes "Group" ∷ codes "Title" ∷ codes "Username" ∷ codes "Password" ∷ codes "URL"
    ∷ codes "Notes" ∷ codes "Last Modified" ∷ codes "Created" ∷ []

-- The value of a field of an entry's current version, empty where there is none.
abbrev pub current_value : List ℕ → EntryRecord → List ℕ
current_value key entry = value_of key entry.current.mark.content.fields

-- What the row of an entry has after its group: the values of its current version, when that was
-- made, and when the entry was created.
abbrev pub entry_values : EntryRecord → List (List ℕ)
entry_values entry = current_value (codes "Title") entry
    ∷ current_value (codes "UserName") entry
    ∷ current_value (codes "Password") entry
    ∷ current_value (codes "URL") entry
    ∷ current_value (codes "Notes") entry
    ∷ iso_at entry.current.mark.modified
    ∷ iso_at entry.current.mark.content.created
    ∷ []

-- The row of an entry in the group to which these names lead from the root.
abbrev pub entry_fields : List (List ℕ) → NodeId × EntryRecord → List (List ℕ)
entry_fields names entry = slash_joined names ∷ entry_values entry.1

-- The rows of a group's entries, then those of its groups in their order; the names are those that
-- lead to the group from the root, its own among them.
abbrev mutual
  pub rows_in : List (List ℕ) → Tree → List (List (List ℕ))
  rows_in names (node id group entries groups) = map (entry_fields names) entries
      ++ rows_among names groups

  -- the same of groups side by side in a group
  pub rows_among : List (List ℕ) → Trees → List (List (List ℕ))
  rows_among names none = []
  rows_among names (beside tree trees) = rows_in (names ++ name_of tree ∷ []) tree
      ++ rows_among names trees

-- The table of a document.
abbrev pub table_of : BareDoc → List ℕ
table_of doc = rows_text (header ∷ rows_in (name_of doc.tree ∷ []) doc.tree)
