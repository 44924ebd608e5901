-- An edit is undone by restoring the version before it.
use Rattle.std.specs.Prelude.{◌≡◌, ◌<◌, ℕ, List, Option, Some, Ok}
use Rattle.std.specs.Option.{option_map}
use Rattle.vault_model.specs.Bare.{BareContent}
use Rattle.vault_model.specs.Db.{NodeId}
use Rattle.vault_model.specs.Join.{IsIn}
use Rattle.vault_model.specs.Shape.{BareVersion, EntryRecord}
use Rattle.vault_model.specs.Tree.{BareDoc, IsDoc}
use Rattle.tree_core.specs.After.{after_edit, after_restore}
use Rattle.tree_core.specs.Finding.{entry_found}
use Rattle.tree_core.specs.FurtherChanges.{FurtherChange}
use Rattle.tree_core.specs.NewNodes.{GivenValues}
use Rattle.growth_laws.specs.Growth.{DropsNothing}
use Rattle.frame_laws.specs.Frame.{entry_of}

-- what the entry of an id says, where there is one
abbrev pub said_of : BareDoc → NodeId → Option BareContent
said_of d u = option_map (λ (x : EntryRecord). x.current.mark.content) (entry_of d u)

-- The current version of an entry is later than all those of its history.
abbrev pub IsNewest : EntryRecord → Type 0
IsNewest x = (v : BareVersion) → IsIn v x.history → v.mark.modified < x.current.mark.modified

-- The current version of the entry of an id is its newest.
abbrev pub IsNewestIn : BareDoc → NodeId → Type 0
IsNewestIn d u = (x : EntryRecord) → entry_of d u ≡ Some x → IsNewest x

-- An edit of an entry whose current version is its newest is undone by restoring version 1, where
-- the limits of histories drop nothing: the entry says again what it said before the edit. The path
-- that names it after the edit may be another one, since the edit may have changed its title.
abbrev pub RestoreUndoes : Type 0
RestoreUndoes = (path again : List ℕ) (values : GivenValues) (further : FurtherChange)
    (now later : ℕ) (entry : NodeId) (d e r : BareDoc) → IsDoc d → IsDoc e → IsDoc r
    → entry_found d path ≡ Some entry → entry_found e again ≡ Some entry → IsNewestIn d entry
    → DropsNothing path d → after_edit path values further now d ≡ Ok e
    → after_restore again 1 later e ≡ Ok r → said_of r entry ≡ said_of d entry
