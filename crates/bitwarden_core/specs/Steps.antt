-- Items are placed, one after another.
use Rattle.std.specs.Prelude.{◌≡◌, ◌<◌, ◌-◌, ◌^◌, ℕ, List, [], ◌∷◌, ◌++◌, Result, Ok, Err, length, map}
use Rattle.bitwarden_core.specs.Placing.{placed_item, texts_of}
use Rattle.bitwarden_forms.specs.Refusals.{meaning_of}
use Rattle.bitwarden_forms.specs.declared.fails.BitwardenFail.{BitwardenFail}
use Rattle.import_ids.specs.Counts.{HasCounted}
use Rattle.import_ids.specs.Names.{EntryTexts}
use Rattle.import_ids.specs.declared.counts.NameCounts.{NameCounts}
use Rattle.bitwarden_forms.specs.ImportTree.SeenDrafts.{placed_seen}
use Rattle.bitwarden_forms.specs.ImportTree.Trees.{Placed}
use Rattle.bitwarden_forms.specs.ImportTree.declared.drafts.ImportedPlace.{ImportedPlace}
use Rattle.outside_core.specs.Results.{Fails}
use Rattle.serde_json.specs.Data.{Data}

-- places without memory
abbrev pub all_seen : List ImportedPlace → List Placed
all_seen places = map placed_seen places

-- An item more is placed, and counted.
pub record PlacedNext (now : ℕ) (folders : List Data) (before : List EntryTexts) (item : Data)
    (old new : List Placed) (after : NameCounts) : Type 0 where
  pub entry : Placed
  pub is : placed_item now folders before item ≡ Ok entry
  pub placed : new ≡ old ++ entry ∷ []
  pub counted : HasCounted after (before ++ texts_of folders item ∷ [])

-- An item more is placed, or is refused.
abbrev pub Places : ℕ → List Data → List EntryTexts → Data → List Placed → List Placed → NameCounts
    → Result (Unit {0}) BitwardenFail → Type 0
Places now folders before item old new after (Ok u) =
    PlacedNext now folders before item old new after
Places now folders before item old new after (Err refusal) =
    Fails (meaning_of refusal) (placed_item now folders before item)

-- The same as a step, where the items before it were counted.
abbrev pub PlacesNext : ℕ → List Data → Data → NameCounts → List Placed → NameCounts → List Placed
    → Result (Unit {0}) BitwardenFail → Type 0
PlacesNext now folders item counts old after new result = (before : List EntryTexts)
    → HasCounted counts before → length before < 2 ^ 64 - 1
    → Places now folders before item old new after result
