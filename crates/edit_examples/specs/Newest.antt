-- What is no edit: what drops the newest version of an entry. Such a change does not grow in what is
-- current.
use Rattle.std.specs.Prelude.{List, [], ◌∷◌}
use Rattle.vault_model.specs.Db.{NodeId}
use Rattle.vault_model.specs.Shape.{BareVersion, EntryRecord}
use Rattle.vault_model.specs.Tree.{BareDoc, IsDoc}
use Rattle.tree_core.specs.Changes.{changed_at, changed_entry}
use Rattle.command_laws.specs.Growing.{GrowsInCurrent}

-- a document in which an entry of a group is changed so
abbrev pub with_change : (EntryRecord → EntryRecord) → (group entry : NodeId) → BareDoc → BareDoc
with_change change group entry d =
    record d { tree = changed_at group (changed_entry entry change) d.tree }

-- a change of an entry grows in what is current, in every document
abbrev pub AlwaysGrows : (EntryRecord → EntryRecord) → Type 0
AlwaysGrows change = (group entry : NodeId) (d : BareDoc) → IsDoc d
    → IsDoc (with_change change group entry d) → GrowsInCurrent d (with_change change group entry d)

-- the last of some versions, or this one where there is none
abbrev pub last_or : BareVersion → List BareVersion → BareVersion
last_or v [] = v
last_or v (w ∷ ws) = last_or w ws

-- those before the last
abbrev pub before_last : List BareVersion → List BareVersion
before_last [] = []
before_last (v ∷ []) = []
before_last (v ∷ w ∷ ws) = v ∷ before_last (w ∷ ws)

-- an entry without its newest version: the last of its history is the current one
abbrev pub undone : EntryRecord → EntryRecord
undone e = record e { current = last_or e.current e.history; history = before_last e.history }

-- an edit that drops the newest version grows in what is current
abbrev pub UndoingGrows : Type 0
UndoingGrows = AlwaysGrows undone

-- an entry with this version in place of its current one, which is not kept
abbrev pub replaced : BareVersion → EntryRecord → EntryRecord
replaced v e = record e { current = v }

-- an edit whose version may be older than the one that it replaces grows in what is current
abbrev pub ReplacingGrows : Type 0
ReplacingGrows = (v : BareVersion) → AlwaysGrows (replaced v)
