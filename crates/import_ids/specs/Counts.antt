-- How often each name occurred among the entries of a source so far.
use Rattle.std.specs.Prelude.{◌≡◌, ℕ, List, [], ◌∷◌, ◌++◌, Option, length}
use Rattle.std.specs.BTreeMap.{BTreeMap, get}
use Rattle.std.specs.List.{filter}
use Rattle.std.specs.Option.{unwrap_or}
use Rattle.std.specs.Str.{bytes_eq}
use Rattle.import_ids.specs.Ids.{id_after}
use Rattle.import_ids.specs.Names.{EntryTexts, texts_name}
use Rattle.import_ids.specs.SeenNames.{name_bytes, name_cmp}
use Rattle.import_ids.specs.declared.counts.NameCounts.{NameCounts}
use Rattle.import_ids.specs.declared.names.EntryName.{EntryName}
use Rattle.vault_model.specs.Db.{NodeId}

-- How many of some entries have the texts of which this is the name.
abbrev pub count_named : List ℕ → List EntryTexts → ℕ
count_named name entries =
    length (filter (λ (other : EntryTexts). bytes_eq name (texts_name other)) entries)

-- How often a name was counted.
abbrev pub counted_in : BTreeMap EntryName ℕ → EntryName → ℕ
counted_in counts name = unwrap_or (get name_cmp counts name) 0

-- The names of entries of these texts were counted, and no others.
unfoldable pub HasCounted : NameCounts → List EntryTexts → Type 0
HasCounted counts entries =
    (name : EntryName) → counted_in counts.counts name ≡ count_named (name_bytes name) entries

-- An entry gets its id, and is counted.
pub record GivesId (before : List EntryTexts) (own : Option NodeId) (texts : EntryTexts)
    (made : NodeId) (after : NameCounts) : Type 0 where
  pub id : made ≡ id_after before own texts
  pub counted : HasCounted after (before ++ texts ∷ [])
