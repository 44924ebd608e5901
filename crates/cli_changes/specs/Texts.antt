-- The lines that report what was changed.
use Rattle.std.specs.Prelude.{ℕ, Bool, true, false, List, [], ◌++◌, codes}

-- The line that reports what was done with an entry of this title; nothing where the command is
-- quiet.
abbrev pub report : Bool → List ℕ → List ℕ → List ℕ
report true done title = []
report false done title =
    codes "Successfully " ++ done ++ codes " entry " ++ title ++ codes ".\n"
