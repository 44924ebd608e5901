-- Indexes of entries by the texts that they have at a place.
use Rattle.std.specs.Prelude.{◌≡◌, ℕ, Bool, true, false, ◌&&◌, if◌then◌else◌, List, Option, None, Some, option_map}
use Rattle.std.specs.Borrow.{Bor}
use Rattle.std.specs.BTreeMap.{BTreeMap, get_by}
use Rattle.std.specs.Cmp.Lexicographic.{slice_cmp}
use Rattle.std.specs.Cow.{cow_slice_items}
use Rattle.std.specs.Global.{Global}
use Rattle.std.specs.List.{find, list_any}
use Rattle.std.specs.Ordering.{nat_cmp}
use Rattle.std.specs.Str.{bytes_eq, str_to_ascii_lowercase}
use Rattle.std.specs.declared.borrow.CowSlice.{CowSlice}
use Rattle.find_references.specs.declared.parts.Part.TheVariants.{Title, UserName, Password, Url, Notes, Id}
use Rattle.find_references.specs.declared.parts.Place.{Place}
use Rattle.find_references.specs.declared.parts.Place.TheVariants.{In, OtherField}
use Rattle.find_references.specs.Fields.{fields_of, is_other, part_value}
use Rattle.tree_core.specs.Finding.{or_else}
use Rattle.vault_model.specs.Bare.{BareField}
use Rattle.vault_model.specs.Db.{NodeId}
use Rattle.vault_model.specs.SeenNodes.{entry_row}
use Rattle.vault_model.specs.Shape.{EntryRecord}
use Rattle.vault_model.specs.declared.nodes.Entry.{Entry}

abbrev pub Row : Type 0
Row = NodeId × EntryRecord

-- the first entries, by their texts
abbrev pub Index : Type 0
Index = BTreeMap (CowSlice ℕ Global) (Bor Entry)

-- texts at a place are digits of ids
abbrev pub are_digits : Place → Bool
are_digits (In Title) = false
are_digits (In UserName) = false
are_digits (In Password) = false
are_digits (In Url) = false
are_digits (In Notes) = false
are_digits (In Id) = true
are_digits OtherField = false

-- a text as it is compared at a place: digits in lower case
abbrev pub compared : Place → List ℕ → List ℕ
compared place text = if are_digits place then str_to_ascii_lowercase text else text

-- an entry has a text at a place, as it is compared there
abbrev pub has_compared : Place → List ℕ → Row → Bool
has_compared (In part) bytes e = bytes_eq (compared (In part) (part_value part e)) bytes
has_compared OtherField bytes e = list_any (λ (f : BareField). is_other f && bytes_eq f.value bytes)
    (fields_of e.1)

-- what an index has at a text
abbrev pub row_at : Index → List ℕ → Option Row
row_at index bytes = option_map (λ (e : Bor Entry). entry_row e.now)
    (get_by (λ (text : CowSlice ℕ Global). slice_cmp nat_cmp bytes (cow_slice_items text)) index)

-- at each text an index has the first of some entries that has it
unfoldable pub IsIndex : Place → List Row → Index → Type 0
IsIndex place rows index =
    (bytes : List ℕ) → row_at index bytes ≡ find (has_compared place bytes) rows

-- one entry, where it has a text
abbrev pub where_it_has : Bool → Row → Option Row
where_it_has has row = if has then Some row else None

-- at each text where an index has none, these come
unfoldable pub Adds : (List ℕ → Option Row) → Index → Index → Type 0
Adds more before after =
    (bytes : List ℕ) → row_at after bytes ≡ or_else (row_at before bytes) (more bytes)
