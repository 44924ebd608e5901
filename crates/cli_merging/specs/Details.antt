-- What a merge prints where details are asked for, and what every merge prints.
use Rattle.std.specs.Prelude.{ℕ, Bool, true, false, List, [], ◌∷◌, ◌++◌, codes, count_by, length}
use Rattle.std.specs.Fmt.{decimal}
use Rattle.uuid.specs.Text.{hyphenated_text, lower}
use Rattle.vault_model.specs.Db.{NodeId}
use Rattle.vault_model.specs.Tree.{BareDoc}
use Rattle.merge_changes.specs.declared.changes.Change.{Change}
use Rattle.merge_changes.specs.declared.changes.Change.TheVariants.{Created, Updated, Moved, Deleted, Metadata, Deletions, Order}
use Rattle.merge_changes.specs.declared.changes.Kind.{Kind}
use Rattle.merge_details.specs.Conflicts.{conflicts}
use Rattle.merge_details.specs.Lines.{conflict_lines}
use Rattle.merge_details.specs.Paths.{path_in}
use Rattle.cli_merging.specs.Reports.{change_line, is_deletion, kind_text, source_lines, told_report}

-- ---- the lines of changes

-- The line of a node that was moved: its kind, its path, its id, and the path that it had.
abbrev pub move_line : Kind → (old new : List ℕ) → NodeId → List ℕ
move_line kind old new id =
    codes "moved " ++ kind_text kind ++ new ++ codes " [" ++ hyphenated_text lower id
    ++ codes "] from " ++ old ++ codes "\n"

-- The line of a change, by the paths that nodes had and those that they have.
abbrev pub detail_line : (old new : NodeId → List ℕ) → Change → List ℕ
detail_line old new (Moved kind id) = move_line kind (old id) (new id) id
detail_line old new change = change_line old new change

-- The lines of changes.
abbrev pub detail_lines : (old new : NodeId → List ℕ) → List Change → List ℕ
detail_lines old new [] = []
detail_lines old new (change ∷ changes) =
    detail_line old new change ++ detail_lines old new changes

-- ---- the last line

-- whether a change is the creation of a node
abbrev pub is_creation : Change → Bool
is_creation (Created kind id) = true
is_creation change = false

-- whether it is an update
abbrev pub is_update : Change → Bool
is_update (Updated kind id) = true
is_update change = false

-- whether it is a move
abbrev pub is_move : Change → Bool
is_move (Moved kind id) = true
is_move change = false

-- The line of numbers: of these changes, by their kinds, and of conflicts.
abbrev pub count_line : List Change → ℕ → List ℕ
count_line changes conflicts =
    decimal (count_by is_creation changes) ++ codes " created, "
    ++ decimal (count_by is_update changes) ++ codes " updated, "
    ++ decimal (count_by is_move changes) ++ codes " moved, "
    ++ decimal (count_by is_deletion changes) ++ codes " deleted, "
    ++ decimal conflicts ++ codes " conflicts\n"

-- ---- the report

-- How the line of a source begins: in a dry run nothing was merged.
abbrev pub merging_words : Bool → List ℕ
merging_words true = codes "Would merge "
merging_words false = codes "Successfully merged "

-- What a merge prints where details are asked for: one line where nothing was changed, or else
-- the lines of changes, of conflicts and of sources, and then the line of numbers.
abbrev pub detailed_report : (dry same : Bool) → List ℕ → List (List ℕ) → BareDoc → List BareDoc
    → BareDoc → List Change → List ℕ
detailed_report dry true target names old sources new changes =
    codes "Database was not modified by merge operation.\n"
detailed_report dry false target names old sources new changes =
    detail_lines (path_in old) (path_in new) changes
    ++ conflict_lines (conflicts old sources new)
    ++ source_lines (merging_words dry) target names
    ++ count_line changes (length (conflicts old sources new))

-- What a merge prints: nothing where it is quiet.
abbrev pub merge_report : (quiet dry details same : Bool) → List ℕ → List (List ℕ) → BareDoc
    → List BareDoc → BareDoc → List Change → List ℕ
merge_report true dry details same target names old sources new changes = []
merge_report false dry true same target names old sources new changes =
    detailed_report dry same target names old sources new changes
merge_report false dry false same target names old sources new changes =
    told_report same target names old new changes
