-- What is seen of the places of an imported tree in memory.
use Rattle.std.specs.Prelude.{Bool, List, [], ◌∷◌, Option, None, Some, length, map, nat_lt}
use Rattle.import_tree.specs.Trees.{Placed, placed_document}
use Rattle.import_tree.specs.declared.drafts.ImportDraft.{ImportDraft}
use Rattle.import_tree.specs.declared.drafts.ImportedPlace.{ImportedPlace}
use Rattle.vault_model.specs.Db.{NodeId}
use Rattle.vault_model.specs.SeenNodes.{entry_row}
use Rattle.vault_model.specs.Shape.{EntryRecord}
use Rattle.vault_model.specs.Tree.{BareDoc}
use Rattle.vault_model.specs.declared.nodes.Entry.{Entry}

-- an entry with its id, if there is one
abbrev pub rows_seen : Option Entry → List (NodeId × EntryRecord)
rows_seen None = []
rows_seen (Some entry) = entry_row entry ∷ []

-- a place without memory
abbrev pub placed_seen : ImportedPlace → Placed
placed_seen place = record {
  now = place.moment;
  names = place.names;
  rows = rows_seen place.entry;
}

-- more names lead to a place than to any of a document
abbrev pub has_more_names : ImportedPlace → Bool
has_more_names place = nat_lt 127 (length place.names)

-- the document that a draft would be, before its ids and levels are tested
abbrev pub draft_seen : ImportDraft → BareDoc
draft_seen draft = placed_document draft.moment (map placed_seen draft.places.items)
