-- Imported entries get their ids, and are placed, one after another.
use Rattle.std.specs.Prelude.{◌≡◌, ◌<◌, ◌-◌, ◌^◌, ℕ, List, [], ◌∷◌, ◌++◌, length}
use Rattle.import_ids.specs.Counts.{HasCounted}
use Rattle.import_ids.specs.Names.{EntryTexts}
use Rattle.import_ids.specs.declared.counts.NameCounts.{NameCounts}
use Rattle.import_tree.specs.Entries.{ImportedEntry, texts_of}
use Rattle.import_tree.specs.Trees.{Placed, placed_at}

-- An entry more is placed at a moment, and counted.
pub record Added (now : ℕ) (before : List EntryTexts) (entry : ImportedEntry)
    (old new : List Placed) (after : NameCounts) : Type 0 where
  pub placed : new ≡ old ++ placed_at now before entry ∷ []
  pub counted : HasCounted after (before ++ texts_of entry ∷ [])

-- The same as a step, where the entries before it were counted.
abbrev pub Adds : ℕ → ImportedEntry → NameCounts → List Placed → NameCounts → List Placed → Type 0
Adds now entry counts old after new = (before : List EntryTexts) → HasCounted counts before
    → length before < 2 ^ 64 - 1 → Added now before entry old new after
