-- The elements of entries and of their versions.
use Rattle.std.specs.Prelude.{ℕ, Option, List, [], ◌∷◌, codes}
use Rattle.std.specs.Fmt.{decimal}
use Rattle.vault_model.specs.Bare.{BareField, BareAttachment, BareContent}
use Rattle.vault_model.specs.Db.{NodeId}
use Rattle.vault_model.specs.Shape.{BareVersion, EntryRecord}
use Rattle.vault_model.specs.declared.contents.Association.{Association}
use Rattle.vault_model.specs.declared.contents.AutoType.{AutoType}
use Rattle.vault_model.specs.declared.forms.DocForm.{DocForm}
use Rattle.doc_forms.specs.declared.times.Times.{Times}
use Rattle.doc_spelling.specs.Pieces.{Piece, Pieces, leaf, box, none, ◌▹◌, ◌▹▹◌, pieces_of, piece_if, unless_nil, unless_true, text_piece}
use Rattle.doc_spelling.specs.Pool.{PoolPair, number_in}
use Rattle.doc_spelling.specs.Values.{bool_piece, number_piece, id_piece, value_piece, times_piece, items_pieces}

-- an entry's `String`
abbrev pub field_piece : DocForm → BareField → Piece
field_piece form f = box (codes "String")
    (text_piece (codes "Key") f.key ▹ value_piece form (codes "Value") f.value f.hidden ▹ none)

-- an attribute with a number
abbrev pub number_attribute : List ℕ → ℕ → List ℕ × List ℕ
number_attribute name n = (name, decimal n)

-- an entry's `Binary`: its bytes are named by their number in the pool
abbrev pub attachment_piece : List PoolPair → BareAttachment → Piece
attachment_piece pool a = box (codes "Binary") (
    text_piece (codes "Key") a.name
    ▹ leaf (codes "Value")
    (number_attribute (codes "Ref") (number_in pool (a.bytes, a.hidden)) ∷ []) []
    ▹ none)

-- `Association`
abbrev pub association_piece : Association → Piece
association_piece a = box (codes "Association")
    (text_piece (codes "Window") a.window ▹ text_piece (codes "KeystrokeSequence") a.keys ▹ none)

-- `AutoType`
abbrev pub auto_type_piece : AutoType → Piece
auto_type_piece a = box (codes "AutoType") (
    bool_piece (codes "Enabled") a.enabled
    ▹ number_piece (codes "DataTransferObfuscation") a.obfuscation
    ▹ text_piece (codes "DefaultSequence") a.sequence
    ▹ pieces_of association_piece a.pairs)

-- the times of an entry's version; since when the entry is in its group, each version says
abbrev pub version_times : EntryRecord → BareVersion → Times
version_times e v = record {
  modified = v.mark.modified;
  created = v.mark.content.created;
  accessed = v.stats.accessed;
  expiry = v.mark.content.expiry;
  expires = v.mark.content.expires;
  usage = v.stats.usage;
  placed = e.placed;
}

-- the icon of a group's or a version's content
abbrev pub icon_pieces : ℕ → Option NodeId → Pieces
icon_pieces icon custom_icon =
    number_piece (codes "IconID") icon ▹ piece_if (id_piece (codes "CustomIconUUID")) custom_icon

-- the group in which a node was before, where it was in one
abbrev pub previous_pieces : NodeId → Pieces
previous_pieces previous = piece_if (id_piece (codes "PreviousParentGroup")) (unless_nil previous)

-- the colours, the texts and the quality of a version
abbrev pub text_pieces : BareContent → Pieces
text_pieces c =
    text_piece (codes "ForegroundColor") c.fore
    ▹ text_piece (codes "BackgroundColor") c.back
    ▹ text_piece (codes "OverrideURL") c.url_override
    ▹ text_piece (codes "Tags") c.tags
    ▹ piece_if (bool_piece (codes "QualityCheck")) (unless_true c.quality)

-- what a version holds: its fields, attachments, auto-type and custom items
abbrev pub held_pieces : DocForm → List PoolPair → BareContent → Pieces
held_pieces form pool c =
    pieces_of (field_piece form) c.fields
    ▹▹ pieces_of (attachment_piece pool) c.attachments
    ▹▹ (auto_type_piece c.auto_type ▹ items_pieces form c.items)

-- what an entry says of one of its versions; its id, place and previous parent each version says
abbrev pub version_pieces : DocForm → List PoolPair → NodeId × EntryRecord → BareVersion → Pieces
version_pieces form pool e v =
    id_piece (codes "UUID") e.0
    ▹ icon_pieces v.mark.content.icon v.mark.content.custom_icon
    ▹▹ text_pieces v.mark.content
    ▹▹ previous_pieces e.1.previous
    ▹▹ (times_piece form (version_times e.1 v) ▹ held_pieces form pool v.mark.content)

-- an earlier version of an entry
abbrev pub history_item_piece : DocForm → List PoolPair → NodeId × EntryRecord → BareVersion → Piece
history_item_piece form pool e v = box (codes "Entry") (version_pieces form pool e v)

-- `History`
abbrev pub history_piece : DocForm → List PoolPair → NodeId × EntryRecord → Piece
history_piece form pool e = box (codes "History")
    (pieces_of (history_item_piece form pool e) e.1.history)

-- an entry
abbrev pub entry_piece : DocForm → List PoolPair → NodeId × EntryRecord → Piece
entry_piece form pool e = box (codes "Entry")
    (version_pieces form pool e e.1.current ▹▹ (history_piece form pool e ▹ none))
