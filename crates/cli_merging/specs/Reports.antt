-- What a merge prints.
use Rattle.std.specs.Prelude.{ℕ, Bool, true, false, if◌then◌else◌, List, [], ◌∷◌, ◌++◌, codes, Option, None, Some}
use Rattle.std.specs.Option.{option_or, unwrap_or}
use Rattle.uuid.specs.Text.{hyphenated_text, lower}
use Rattle.vault_model.specs.Db.{NodeId}
use Rattle.vault_model.specs.Join.{is_id}
use Rattle.vault_model.specs.Shape.{EntryRecord}
use Rattle.vault_model.specs.Tree.{BareDoc, Tree, Trees, beside, node, none}
use Rattle.vault_model.specs.Walk.{title_of}
use Rattle.merge_changes.specs.declared.changes.Change.{Change}
use Rattle.merge_changes.specs.declared.changes.Change.TheVariants.{Created, Updated, Moved, Deleted, Metadata, Deletions, Order}
use Rattle.merge_changes.specs.declared.changes.Kind.{Kind}
use Rattle.merge_changes.specs.declared.changes.Kind.TheVariants.{Entry, Group}

-- ---- the names of nodes

-- The title of the entry of an id among these.
abbrev pub title_among : NodeId → List (NodeId × EntryRecord) → Option (List ℕ)
title_among id [] = None
title_among id (entry ∷ entries) =
    if is_id id entry.0 then Some (title_of entry.1) else title_among id entries

abbrev mutual
  -- The name or the title of the node of an id: a group, or what is in it.
  pub name_in_tree : NodeId → Tree → Option (List ℕ)
  name_in_tree id (node u r es ts) = if is_id id u then Some r.state.content.name
      else option_or (title_among id es) (name_in_trees id ts)

  -- the same in groups side by side
  pub name_in_trees : NodeId → Trees → Option (List ℕ)
  name_in_trees id none = None
  name_in_trees id (beside t ts) = option_or (name_in_tree id t) (name_in_trees id ts)

-- The name or the title of the node of an id in a document; nothing where there is none.
abbrev pub name_in : BareDoc → NodeId → List ℕ
name_in doc id = unwrap_or (name_in_tree id doc.tree) []

-- ---- the lines

-- What a node is.
abbrev pub kind_text : Kind → List ℕ
kind_text Entry = codes "entry "
kind_text Group = codes "group "

-- The line of a node: what was done with it, its kind, its name and its id.
abbrev pub node_line : List ℕ → Kind → List ℕ → NodeId → List ℕ
node_line done kind name id =
    done ++ kind_text kind ++ name ++ codes " [" ++ hyphenated_text lower id ++ codes "]\n"

-- The line of a change, by the names that nodes had and those that they have. A node that is gone
-- has the name that it had.
abbrev pub change_line : (old new : NodeId → List ℕ) → Change → List ℕ
change_line old new (Created kind id) = node_line (codes "created ") kind (new id) id
change_line old new (Updated kind id) = node_line (codes "updated ") kind (new id) id
change_line old new (Moved kind id) = node_line (codes "moved ") kind (new id) id
change_line old new (Deleted kind id) = node_line (codes "deleted ") kind (old id) id
change_line old new Metadata = codes "metadata\n"
change_line old new Deletions = codes "deletions\n"
change_line old new Order = codes "order\n"

-- The lines of changes.
abbrev pub change_lines : (old new : NodeId → List ℕ) → List Change → List ℕ
change_lines old new [] = []
change_lines old new (change ∷ changes) =
    change_line old new change ++ change_lines old new changes

-- The line of a source and its target; `done` is how it begins.
abbrev pub source_line : List ℕ → List ℕ → List ℕ → List ℕ
source_line done target source = done ++ source ++ codes " into " ++ target ++ codes ".\n"

-- The lines of sources.
abbrev pub source_lines : List ℕ → List ℕ → List (List ℕ) → List ℕ
source_lines done target [] = []
source_lines done target (source ∷ sources) =
    source_line done target source ++ source_lines done target sources

-- What a merge prints where no details are asked for: one line where nothing was changed, or
-- else a line for each change and then one for each source.
abbrev pub told_report : Bool → List ℕ → List (List ℕ) → (old new : BareDoc) → List Change → List ℕ
told_report true target sources old new changes =
    codes "Database was not modified by merge operation.\n"
told_report false target sources old new changes =
    change_lines (name_in old) (name_in new) changes
    ++ source_lines (codes "Successfully merged ") target sources

-- ---- how the code relates to it

-- Whether a change is the deletion of a node, whose line has the name that it had.
abbrev pub is_deletion : Change → Bool
is_deletion (Created kind id) = false
is_deletion (Updated kind id) = false
is_deletion (Moved kind id) = false
is_deletion (Deleted kind id) = true
is_deletion Metadata = false
is_deletion Deletions = false
is_deletion Order = false
