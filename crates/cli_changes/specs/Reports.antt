-- The lines that report what became of a node.
use Rattle.std.specs.Prelude.{ℕ, Bool, true, false, List, [], ◌∷◌, ◌++◌, codes, Option, None, Some}
use Rattle.std.specs.Borrow.{Bor}
use Rattle.tree_core.specs.declared.fails.Removed.{Removed}
use Rattle.tree_core.specs.declared.fails.Removed.TheVariants.{Deleted, Recycled}

-- The parts of a line that are lent, one after another.
abbrev pub parts_text : List (Bor (List ℕ)) → List ℕ
parts_text [] = []
parts_text (part ∷ parts) = part.now ++ parts_text parts

-- Where a node was moved to, if it was moved: the word that named the group.
abbrev pub goal_text : Option (List ℕ) → List ℕ
goal_text None = []
goal_text (Some group) = codes " to group " ++ group

-- The line that reports what was done with a node of this name; nothing where the command is quiet.
abbrev pub report : Bool → List ℕ → List ℕ → Option (List ℕ) → List ℕ
report true done name goal = []
report false done name goal =
    codes "Successfully " ++ done ++ name ++ goal_text goal ++ codes ".\n"

-- One of two reports, by what became of a node.
abbrev pub chosen_report : Removed → List ℕ → List ℕ → List ℕ
chosen_report Recycled recycled deleted = recycled
chosen_report Deleted recycled deleted = deleted

-- The line that reports what became of a node of this name, by what is said of one that is in the
-- bin and of one that is deleted.
abbrev pub removal_report : Bool → Removed → (recycled deleted : List ℕ) → List ℕ → List ℕ
removal_report quiet removed recycled deleted name =
    chosen_report removed (report quiet recycled name None) (report quiet deleted name None)
