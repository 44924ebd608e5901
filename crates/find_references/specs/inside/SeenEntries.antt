-- The entries of a document with their indexes.
use Rattle.std.specs.Prelude.{◌≡◌, ℕ, List, Some}
use Rattle.std.specs.BTreeMap.{BTreeMap, get}
use Rattle.std.specs.Ordering.{nat_cmp}
use Rattle.find_references.specs.declared.parts.Part.TheVariants.{Title, UserName, Password, Url, Notes, Id}
use Rattle.find_references.specs.declared.parts.Place.{Place}
use Rattle.find_references.specs.declared.parts.Place.TheVariants.{In, OtherField}
use Rattle.find_references.specs.declared.seeking.Entries.{Entries}
use Rattle.find_references.specs.inside.Indexed.{Index, IsIndex, Row}
use Rattle.vault_model.specs.SeenNodes.{tree_seen}
use Rattle.vault_model.specs.Tree.{entry_rows}

-- the number of a place, by which its index is kept
abbrev pub number_of : Place → ℕ
number_of (In Title) = 0
number_of (In UserName) = 1
number_of (In Password) = 2
number_of (In Url) = 3
number_of (In Notes) = 4
number_of (In Id) = 5
number_of OtherField = 6

-- all entries, in document order
abbrev pub rows_of : Entries → List Row
rows_of entries = entry_rows (tree_seen entries.root.now)

-- each index is that of these entries
unfoldable pub AreIndexes : List Row → BTreeMap ℕ Index → Type 0
AreIndexes rows indexes = (place : Place) (index : Index)
    → get nat_cmp indexes (number_of place) ≡ Some index
    → IsIndex place rows index

-- each index is that of all entries
abbrev pub IsIndexed : Entries → Type 0
IsIndexed entries = AreIndexes (rows_of entries) entries.indexes
