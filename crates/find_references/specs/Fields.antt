-- The values of entries that references and searches speak of.
use Rattle.std.specs.Prelude.{ℕ, Bool, not, ◌&&◌, List, [], ◌∷◌, codes}
use Rattle.std.specs.List.{list_any}
use Rattle.std.specs.Str.{bytes_eq, str_eq_ignore_ascii_case}
use Rattle.find_references.specs.declared.parts.Part.{Part}
use Rattle.find_references.specs.declared.parts.Part.TheVariants.{Title, UserName, Password, Url, Notes, Id}
use Rattle.find_references.specs.declared.parts.Place.{Place}
use Rattle.find_references.specs.declared.parts.Place.TheVariants.{In, OtherField}
use Rattle.uuid.specs.Text.{simple_text, upper}
use Rattle.vault_model.specs.Bare.{BareField}
use Rattle.vault_model.specs.Db.{NodeId}
use Rattle.vault_model.specs.Shape.{EntryRecord}
use Rattle.vault_model.specs.Walk.{value_of}

-- The fields of an entry's current version.
abbrev pub fields_of : EntryRecord → List BareField
fields_of e = e.current.mark.content.fields

-- The keys of the fields that have names of their own.
abbrev pub named_keys : List (List ℕ)
named_keys = codes "Title" ∷ codes "UserName" ∷ codes "Password" ∷ codes "URL" ∷ codes "Notes" ∷ []

-- A field is none of those.
abbrev pub is_other : BareField → Bool
is_other f = not (list_any (bytes_eq f.key) named_keys)

-- A part of an entry: the value of a field, empty where there is none, or the id in digits.
abbrev pub part_value : Part → NodeId × EntryRecord → List ℕ
part_value Title e = value_of (codes "Title") (fields_of e.1)
part_value UserName e = value_of (codes "UserName") (fields_of e.1)
part_value Password e = value_of (codes "Password") (fields_of e.1)
part_value Url e = value_of (codes "URL") (fields_of e.1)
part_value Notes e = value_of (codes "Notes") (fields_of e.1)
part_value Id e = simple_text upper e.0

-- A part of an entry is a text; digits of ids may be in any case.
abbrev pub is_part : Part → List ℕ → NodeId × EntryRecord → Bool
is_part Title text e = bytes_eq (part_value Title e) text
is_part UserName text e = bytes_eq (part_value UserName e) text
is_part Password text e = bytes_eq (part_value Password e) text
is_part Url text e = bytes_eq (part_value Url e) text
is_part Notes text e = bytes_eq (part_value Notes e) text
is_part Id text e = str_eq_ignore_ascii_case (part_value Id e) text

-- An entry has a text at a place: a part of it is the text, or the value of some other field is.
abbrev pub has_at : Place → List ℕ → NodeId × EntryRecord → Bool
has_at (In part) text e = is_part part text e
has_at OtherField text e = list_any (λ (f : BareField). is_other f && bytes_eq f.value text)
    (fields_of e.1)
