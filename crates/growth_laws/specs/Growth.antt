-- Commands only grow: the join of the databases before and after a command is the one after it, which
-- is what a change in a schedule has to be. Each statement speaks of all documents and arguments.
use Rattle.std.specs.Prelude.{◌≡◌, ℕ, Bool, List, [], ◌∷◌, Option, Result, Ok, is_some}
use Rattle.vault_model.specs.declared.metas.Meta.{Meta}
use Rattle.vault_model.specs.Bare.{BareContent}
use Rattle.vault_model.specs.Db.{NodeId}
use Rattle.vault_model.specs.Join.{join}
use Rattle.vault_model.specs.Plans.{IsStep, World, change}
use Rattle.vault_model.specs.Tree.{BareDoc, IsDoc, db_in}
use Rattle.tree_core.specs.declared.fails.TreeFail.{TreeFail}
use Rattle.tree_core.specs.After.{AfterRemoval, Holding, after_add, after_attach, after_change, after_detach, after_edit, after_make_group, after_move_entry, after_move_group, after_remove_entry, after_remove_group, after_restore, entry_named, needs_bin}
use Rattle.tree_core.specs.FurtherChanges.{FurtherChange}
use Rattle.tree_core.specs.Histories.{rising_versions, within_limits}
use Rattle.tree_core.specs.NewNodes.{GivenValues}

-- the database of a document is that of another, grown
abbrev pub GrowsTo : BareDoc → BareDoc → Type 0
GrowsTo d e = join (db_in d ∷ db_in e ∷ []) ≡ db_in e

-- what a replica's document grows to is a step of a schedule
abbrev pub GrowthIsAStep : Type 0
GrowthIsAStep = (n : ℕ) (w : World) (i : ℕ) (e : BareDoc) → GrowsTo (w i).doc e
    → IsStep n w (change i e)

-- an entry is added
abbrev pub AddGrows : Type 0
AddGrows = (path : List ℕ) (id : NodeId) (values : GivenValues) (now : ℕ) (d e : BareDoc)
    → IsDoc d → IsDoc e → after_add path id values now d ≡ Ok e → GrowsTo d e

-- the limits of histories drop no version of the entry that a path names
abbrev pub DropsNothing : List ℕ → BareDoc → Type 0
DropsNothing path d = (held : Holding) → entry_named path d ≡ Ok held
    → within_limits d.meta.settings.value.history_items d.meta.settings.value.history_size
    (rising_versions held.entry.1) ≡ rising_versions held.entry.1

-- an entry comes to say something else, by what it said, and the limits drop nothing
abbrev pub ChangeGrows : Type 0
ChangeGrows = (path : List ℕ) (allows : BareContent → Result (Unit {0}) TreeFail)
    (says : Meta → BareContent → BareContent) (now : ℕ) (d e : BareDoc) → IsDoc d → IsDoc e
    → DropsNothing path d → after_change path allows says now d ≡ Ok e → GrowsTo d e

-- an entry is edited, and the limits drop nothing
abbrev pub EditGrows : Type 0
EditGrows = (path : List ℕ) (values : GivenValues) (further : FurtherChange) (now : ℕ)
    (d e : BareDoc) → IsDoc d → IsDoc e → DropsNothing path d
    → after_edit path values further now d ≡ Ok e → GrowsTo d e

-- something is attached to an entry, and the limits drop nothing
abbrev pub AttachGrows : Type 0
AttachGrows = (path name bytes : List ℕ) (replaces : Bool) (now : ℕ) (d e : BareDoc) → IsDoc d
    → IsDoc e → DropsNothing path d → after_attach path name bytes replaces now d ≡ Ok e
    → GrowsTo d e

-- an attachment of an entry is taken away, and the limits drop nothing
abbrev pub DetachGrows : Type 0
DetachGrows = (path name : List ℕ) (now : ℕ) (d e : BareDoc) → IsDoc d → IsDoc e
    → DropsNothing path d → after_detach path name now d ≡ Ok e → GrowsTo d e

-- a version of an entry is restored, and the limits drop nothing
abbrev pub RestoreGrows : Type 0
RestoreGrows = (path : List ℕ) (number now : ℕ) (d e : BareDoc) → IsDoc d → IsDoc e
    → DropsNothing path d → after_restore path number now d ≡ Ok e → GrowsTo d e

-- an entry is moved
abbrev pub MoveEntryGrows : Type 0
MoveEntryGrows = (path goal : List ℕ) (now : ℕ) (d e : BareDoc) → IsDoc d → IsDoc e
    → after_move_entry path goal now d ≡ Ok e → GrowsTo d e

-- a group is made
abbrev pub MakeGroupGrows : Type 0
MakeGroupGrows = (path : List ℕ) (id : NodeId) (now : ℕ) (d e : BareDoc) → IsDoc d → IsDoc e
    → after_make_group path id now d ≡ Ok e → GrowsTo d e

-- a group is moved
abbrev pub MoveGroupGrows : Type 0
MoveGroupGrows = (path goal : List ℕ) (now : ℕ) (d e : BareDoc) → IsDoc d → IsDoc e
    → after_move_group path goal now d ≡ Ok e → GrowsTo d e

-- an entry is removed, where a bin is given exactly where one has to be made
abbrev pub RemoveEntryGrows : Type 0
RemoveEntryGrows = (path : List ℕ) (bin : Option NodeId) (now : ℕ) (d : BareDoc) (a : AfterRemoval)
    → IsDoc d → IsDoc a.doc → is_some bin ≡ needs_bin d → after_remove_entry path bin now d ≡ Ok a
    → GrowsTo d a.doc

-- a group is removed, in the same way
abbrev pub RemoveGroupGrows : Type 0
RemoveGroupGrows = (path : List ℕ) (bin : Option NodeId) (now : ℕ) (d : BareDoc) (a : AfterRemoval)
    → IsDoc d → IsDoc a.doc → is_some bin ≡ needs_bin d → after_remove_group path bin now d ≡ Ok a
    → GrowsTo d a.doc
