-- The lines of conflicts.
use Rattle.std.specs.Prelude.{ℕ, List, [], ◌∷◌, ◌++◌, codes}
use Rattle.uuid.specs.Text.{hyphenated_text, lower}
use Rattle.vault_model.specs.Db.{NodeId}
use Rattle.doc_spelling.specs.Moments.{iso_at}
use Rattle.merge_details.specs.declared.conflict_tables.ConflictTimes.{ConflictTimes}

-- The line of a conflict.
abbrev pub conflict_line : (List ℕ × NodeId) × ConflictTimes → List ℕ
conflict_line conflict =
    codes "conflict entry " ++ conflict.0.0 ++ codes " [" ++ hyphenated_text lower conflict.0.1
    ++ codes "]: " ++ iso_at conflict.1.current
    ++ codes " is current, " ++ iso_at conflict.1.older ++ codes " is in its history\n"

-- The lines of conflicts.
abbrev pub conflict_lines : List ((List ℕ × NodeId) × ConflictTimes) → List ℕ
conflict_lines [] = []
conflict_lines (conflict ∷ conflicts) = conflict_line conflict ++ conflict_lines conflicts
