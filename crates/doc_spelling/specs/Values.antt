-- The elements of values, of times and of custom items.
use Rattle.std.specs.Prelude.{ℕ, ℤ, Bool, true, false, List, [], ◌∷◌, codes}
use Rattle.std.specs.Fmt.{decimal, signed_decimal}
use Rattle.vault_model.specs.Db.{NodeId}
use Rattle.vault_model.specs.declared.contents.Item.{Item}
use Rattle.vault_model.specs.declared.contents.Tri.{Tri}
use Rattle.vault_model.specs.declared.contents.Tri.TheVariants.{Inherit, No, Yes}
use Rattle.vault_model.specs.declared.forms.DocForm.{DocForm}
use Rattle.vault_model.specs.declared.forms.DocForm.TheVariants.{Plain}
use Rattle.doc_forms.specs.declared.times.Times.{Times}
use Rattle.doc_spelling.specs.Moments.{time_text}
use Rattle.doc_spelling.specs.Pieces.{Piece, Pieces, leaf, secret, box, none, ◌▹◌, pieces_of, piece_if, unless_empty, unless_zero, text_piece, base64_piece, in_memory_attribute}

-- ---- values

-- `True` or `False`
abbrev pub bool_text : Bool → List ℕ
bool_text true = codes "True"
bool_text false = codes "False"

-- `null`, `True` or `False`
abbrev pub tri_text : Tri → List ℕ
tri_text Inherit = codes "null"
tri_text No = codes "False"
tri_text Yes = codes "True"

-- an element with a truth value
abbrev pub bool_piece : List ℕ → Bool → Piece
bool_piece name b = text_piece name (bool_text b)

-- an element with a choice that a group may take from its parent
abbrev pub tri_piece : List ℕ → Tri → Piece
tri_piece name choice = text_piece name (tri_text choice)

-- an element with a number, in decimal digits
abbrev pub number_piece : List ℕ → ℕ → Piece
number_piece name n = text_piece name (decimal n)

-- an element with a number that may be below 0
abbrev pub signed_piece : List ℕ → ℤ → Piece
signed_piece name z = text_piece name (signed_decimal z)

-- an element with an id, in base64
abbrev pub id_piece : List ℕ → NodeId → Piece
id_piece name u = base64_piece name [] u

-- an element with a time
abbrev pub time_piece : DocForm → List ℕ → ℕ → Piece
time_piece form name seconds = text_piece name (time_text form seconds)

-- an element with a value that may be hidden: by the keystream, or in a document by itself, which
-- has none, by an attribute alone
abbrev pub value_piece : DocForm → List ℕ → List ℕ → Bool → Piece
value_piece form name value false = text_piece name value
value_piece Plain name value true = leaf name (in_memory_attribute ∷ []) value
value_piece _ name value true = secret name [] value

-- ---- times

-- `Times`
abbrev pub times_piece : DocForm → Times → Piece
times_piece form t = box (codes "Times") (
    time_piece form (codes "LastModificationTime") t.modified
    ▹ time_piece form (codes "CreationTime") t.created
    ▹ time_piece form (codes "LastAccessTime") t.accessed
    ▹ time_piece form (codes "ExpiryTime") t.expiry
    ▹ bool_piece (codes "Expires") t.expires
    ▹ number_piece (codes "UsageCount") t.usage
    ▹ time_piece form (codes "LocationChanged") t.placed
    ▹ none)

-- ---- custom items

-- the time of a change, where it is not 0
abbrev pub change_pieces : DocForm → ℕ → Pieces
change_pieces form changed = piece_if (time_piece form (codes "LastModificationTime"))
    (unless_zero changed)

-- a custom item
abbrev pub item_piece : DocForm → Item → Piece
item_piece form i = box (codes "Item") (
    text_piece (codes "Key") i.key
    ▹ text_piece (codes "Value") i.value
    ▹ change_pieces form i.changed)

-- `CustomData`
abbrev pub items_piece : DocForm → List Item → Piece
items_piece form items = box (codes "CustomData") (pieces_of (item_piece form) items)

-- `CustomData`, where there are items
abbrev pub items_pieces : DocForm → List Item → Pieces
items_pieces form items = piece_if (items_piece form) (unless_empty items)
