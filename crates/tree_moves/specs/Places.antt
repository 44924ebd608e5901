-- Entries moved to places that are kept for them.
use Rattle.std.specs.Prelude.{ℕ, cond, List, [], ◌∷◌}
use Rattle.vault_model.specs.Db.{NodeId, nil_id}
use Rattle.vault_model.specs.Join.{is_id}
use Rattle.vault_model.specs.Shape.{EntryRecord}
use Rattle.vault_model.specs.Tree.{Tree}
use Rattle.tree_core.specs.Changes.{changed_at, moved_entry, on_entries, without_entry}

-- entries with one in the place of the first without an id, which was kept for it
abbrev pub entries_filled : NodeId × EntryRecord → List (NodeId × EntryRecord)
    → List (NodeId × EntryRecord)
entries_filled e [] = []
entries_filled e (x ∷ xs) = cond (is_id x.0 nil_id) (e ∷ xs) (x ∷ entries_filled e xs)

-- a tree whose entry is moved from one group to the place that is kept for it in another
abbrev pub entry_placed : NodeId → NodeId → ℕ → NodeId × EntryRecord → Tree → Tree
entry_placed from to time e t =
    changed_at to (on_entries (entries_filled (e.0, moved_entry from time e.1)))
    (changed_at from (without_entry e.0) t)
