-- Written documents: the text of a document as a whole.
use Rattle.std.specs.Prelude.{ℕ, false, Option, None, List, [], ◌∷◌, codes}
use Rattle.markup_grammar.specs.Tree.{Tree, Around, instruction, blank, aside, spelled_tree}
use Rattle.stream_core.specs.InnerStream.{Keystream}
use Rattle.vault_model.specs.Tree.{BareDoc}
use Rattle.vault_model.specs.declared.forms.DocForm.{DocForm}
use Rattle.vault_model.specs.declared.forms.DocForm.TheVariants.{V3, V4}
use Rattle.vault_model.specs.declared.nodes.Tombstone.{Tombstone}
use Rattle.doc_spelling.specs.Groups.{group_piece}
use Rattle.doc_spelling.specs.Metas.{meta_piece}
use Rattle.doc_spelling.specs.Pieces.{Piece, box, none, ◌▹◌, pieces_of, element_of}
use Rattle.doc_spelling.specs.Pool.{PoolPair, pool_of}
use Rattle.doc_spelling.specs.Values.{id_piece, time_piece}

-- ---- its elements

-- `DeletedObject`
abbrev pub tomb_piece : DocForm → Tombstone → Piece
tomb_piece form t = box (codes "DeletedObject")
    (id_piece (codes "UUID") t.id ▹ time_piece form (codes "DeletionTime") t.deleted ▹ none)

-- `DeletedObjects`
abbrev pub tombs_piece : DocForm → List Tombstone → Piece
tombs_piece form tombs = box (codes "DeletedObjects") (pieces_of (tomb_piece form) tombs)

-- `Root`
abbrev pub root_piece : DocForm → List PoolPair → BareDoc → Piece
root_piece form pool d =
    box (codes "Root") (group_piece form pool d.tree ▹ tombs_piece form d.tombs ▹ none)

-- `KeePassFile`, with the hash of the header of its file, and with this pool
abbrev pub file_piece : DocForm → Option (List ℕ) → List PoolPair → BareDoc → Piece
file_piece form hash pool d =
    box (codes "KeePassFile") (meta_piece form hash pool d.meta ▹ root_piece form pool d ▹ none)

-- ---- its text

-- what comes before the outermost element: the XML declaration and a line feed
abbrev pub declaration : List Around
declaration = aside (instruction (codes "xml version=\"1.0\" encoding=\"utf-8\"")) ∷ blank 10 ∷ []

-- the tree of a written document: in a form, hidden by a keystream from its start on, and with the
-- hash of the header of its file
abbrev pub written_tree : DocForm → Keystream → Option (List ℕ) → BareDoc → Tree
written_tree form k hash d = record {
  marked = false;
  front = declaration;
  root = element_of k 0 (file_piece form hash (pool_of d) d);
  back = [];
}

-- The text of a written document.
abbrev pub spelled_document : DocForm → Keystream → Option (List ℕ) → BareDoc → List ℕ
spelled_document form k hash d = spelled_tree (written_tree form k hash d)

-- ---- what goes with it

-- the pool that the file of a written document keeps apart
abbrev pub pool_apart : DocForm → BareDoc → List PoolPair
pool_apart V4 d = pool_of d
pool_apart _ d = []

-- the hash that a written document names
abbrev pub hash_named : DocForm → Option (List ℕ) → Option (List ℕ)
hash_named V3 hash = hash
hash_named _ hash = None
