-- The places of the tree that an export gives: those of its folders, and then those of its entries,
-- under their ids.
use Rattle.std.specs.Prelude.{ℕ, List, [], ◌∷◌, ◌++◌, Some, Result, Ok, codes, map}
use Rattle.bitwarden_core.specs.Folders.{folder_names, item_groups}
use Rattle.bitwarden_items.specs.BitwardenFields.Said.{addresses_of, first_text, login_of}
use Rattle.bitwarden_forms.specs.Exports.{folders_in, items_in}
use Rattle.bitwarden_forms.specs.Json.{text}
use Rattle.bitwarden_forms.specs.Kinds.{given_id}
use Rattle.bitwarden_forms.specs.declared.fails.BitwardenFail.{BitwardenFail}
use Rattle.bitwarden_items.specs.Versions.{item_row}
use Rattle.import_ids.specs.Ids.{id_after}
use Rattle.import_ids.specs.Names.{EntryTexts}
use Rattle.bitwarden_forms.specs.ImportTree.Trees.{Placed}
use Rattle.outside_core.specs.Results.{◌>>=◌}
use Rattle.serde_json.specs.Data.{Data}
use Rattle.vault_model.specs.Db.{NodeId}
use Rattle.vault_model.specs.Walk.{slash_joined}

-- what tells the entry of an item apart from the others
abbrev pub texts_of : List Data → Data → EntryTexts
texts_of folders item = record {
  path = slash_joined (item_groups folders item);
  title = text (codes "name") (Some item);
  user = text (codes "username") (login_of item);
  url = first_text (addresses_of (login_of item));
}

-- the id of an item, where those before it have these texts: its own, if it has one
abbrev pub item_id : List Data → List EntryTexts → Data → NodeId
item_id folders before item = id_after before (given_id item) (texts_of folders item)

-- the entry of an item under an id, in the group to which names lead
abbrev pub entry_place : ℕ → List (List ℕ) → NodeId → Data → Result Placed BitwardenFail
entry_place now names id item = do
  row ← item_row now id item
  Ok (record { now = now; names = names; rows = row ∷ [] })

-- the entry of an item, where those before it have these texts
abbrev pub placed_item : ℕ → List Data → List EntryTexts → Data → Result Placed BitwardenFail
placed_item now folders before item =
    entry_place now (item_groups folders item) (item_id folders before item) item

-- the entries of items, one after another, where those before them have these texts
abbrev pub placed_items : ℕ → List Data → List EntryTexts → List Data
    → Result (List Placed) BitwardenFail
placed_items now folders before [] = Ok []
placed_items now folders before (item ∷ items) = do
  placed ← placed_item now folders before item
  rest ← placed_items now folders (before ++ texts_of folders item ∷ []) items
  Ok (placed ∷ rest)

-- the group of a folder, with nothing in it
abbrev pub folder_place : ℕ → Data → Placed
folder_place now folder = record { now = now; names = folder_names folder; rows = [] }

-- places, and those of a result after them
abbrev pub with_places : List Placed → Result (List Placed) BitwardenFail
    → Result (List Placed) BitwardenFail
with_places places rest = rest >>= λ more. Ok (places ++ more)

-- The places of an export at a moment: the group of each folder, in their order, and then each entry
-- in its group.
abbrev pub export_places : ℕ → Data → Result (List Placed) BitwardenFail
export_places now export =
    with_places (map (folder_place now) (folders_in export))
    (placed_items now (folders_in export) [] (items_in export))
