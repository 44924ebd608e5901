-- The elements of groups.
use Rattle.std.specs.Prelude.{List, codes}
use Rattle.vault_model.specs.Db.{NodeId}
use Rattle.vault_model.specs.Shape.{GroupRecord}
use Rattle.vault_model.specs.Tree as vault
use Rattle.vault_model.specs.Tree.{Tree, Trees, node}
use Rattle.vault_model.specs.declared.contents.GroupContent.{GroupContent}
use Rattle.vault_model.specs.declared.forms.DocForm.{DocForm}
use Rattle.doc_forms.specs.declared.times.Times.{Times}
use Rattle.doc_spelling.specs.Entries.{icon_pieces, previous_pieces, entry_piece}
use Rattle.doc_spelling.specs.Pieces.{Piece, Pieces, box, none, beside, ◌▹◌, ◌▹▹◌, pieces_of, piece_if, unless_empty, text_piece}
use Rattle.doc_spelling.specs.Pool.{PoolPair}
use Rattle.doc_spelling.specs.Values.{bool_piece, tri_piece, id_piece, times_piece, items_pieces}

-- the times of a group
abbrev pub group_times : GroupRecord → Times
group_times r = record {
  modified = r.state.modified;
  created = r.state.content.created;
  accessed = r.state.stats.accessed;
  expiry = r.state.content.expiry;
  expires = r.state.content.expires;
  usage = r.state.stats.usage;
  placed = r.placed;
}

-- a group's name, notes, tags and icon
abbrev pub name_pieces : GroupContent → Pieces
name_pieces c =
    text_piece (codes "Name") c.name
    ▹ text_piece (codes "Notes") c.notes
    ▹ piece_if (text_piece (codes "Tags")) (unless_empty c.tags)
    ▹▹ icon_pieces c.icon c.custom_icon

-- how a group is shown, and how its entries are typed and searched
abbrev pub choice_pieces : GroupRecord → Pieces
choice_pieces r =
    bool_piece (codes "IsExpanded") r.view.expanded
    ▹ text_piece (codes "DefaultAutoTypeSequence") r.state.content.sequence
    ▹ tri_piece (codes "EnableAutoType") r.state.content.auto_type
    ▹ tri_piece (codes "EnableSearching") r.state.content.searching
    ▹ id_piece (codes "LastTopVisibleEntry") r.view.top_entry
    ▹ none

-- what a group says of itself
abbrev pub record_pieces : DocForm → NodeId → GroupRecord → Pieces
record_pieces form u r =
    id_piece (codes "UUID") u
    ▹ name_pieces r.state.content
    ▹▹ (times_piece form (group_times r) ▹ choice_pieces r)
    ▹▹ previous_pieces r.previous
    ▹▹ items_pieces form r.state.content.items

abbrev mutual
  -- a group: what it says of itself, its entries, and its groups
  pub group_piece : DocForm → List PoolPair → Tree → Piece
  group_piece form pool (node u r es ts) = box (codes "Group")
      (record_pieces form u r
      ▹▹ pieces_of (entry_piece form pool) es
      ▹▹ group_pieces form pool ts)

  -- groups side by side
  pub group_pieces : DocForm → List PoolPair → Trees → Pieces
  group_pieces form pool vault.none = none
  group_pieces form pool (vault.beside t ts) =
      beside (group_piece form pool t) (group_pieces form pool ts)
