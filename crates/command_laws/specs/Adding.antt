-- Commands only add. Each statement speaks of all documents and arguments.
use Rattle.std.specs.Prelude.{◌≡◌, ℕ, Bool, true, false, List, Option, None, Some, Result, Ok, is_some}
use Rattle.std.specs.FinMap.{get}
use Rattle.vault_model.specs.declared.metas.Meta.{Meta}
use Rattle.vault_model.specs.Bare.{BareContent}
use Rattle.vault_model.specs.Db.{Db, NodeId, holds}
use Rattle.vault_model.specs.Join.{IsIn}
use Rattle.vault_model.specs.Plans.{World, change}
use Rattle.vault_model.specs.Tree.{BareDoc, IsDoc, db_in}
use Rattle.tree_core.specs.After.{AfterRemoval, after_add, after_attach, after_change, after_detach, after_edit, after_make_group, after_move_entry, after_remove_entry, after_restore, needs_bin}
use Rattle.tree_core.specs.declared.fails.Removed.TheVariants.{Recycled}
use Rattle.tree_core.specs.declared.fails.TreeFail.{TreeFail}
use Rattle.tree_core.specs.FurtherChanges.{FurtherChange}
use Rattle.tree_core.specs.NewNodes.{GivenValues}
use Rattle.history_laws.specs.FreeHistories.{IsFree, OnlyAdds}
use Rattle.history_laws.specs.Histories.{schedule_step}

-- A document that has all that another had, and at most one node more, whose id is given.
pub record AddsOnly (id : Option NodeId) (d e : BareDoc) : Type 0 where
  pub adds : OnlyAdds (db_in d) (db_in e)
  pub new : (u : NodeId) → holds (db_in e) u ≡ true → holds (db_in d) u ≡ false → id ≡ Some u

-- an entry is added
abbrev pub AddAdds : Type 0
AddAdds = (path : List ℕ) (id : NodeId) (values : GivenValues) (now : ℕ) (d e : BareDoc)
    → IsDoc d → IsDoc e → after_add path id values now d ≡ Ok e → AddsOnly (Some id) d e

-- an entry comes to say something else, by what it said, whatever versions are dropped
abbrev pub ChangeAdds : Type 0
ChangeAdds = (path : List ℕ) (allows : BareContent → Result (Unit {0}) TreeFail)
    (says : Meta → BareContent → BareContent) (now : ℕ) (d e : BareDoc) → IsDoc d → IsDoc e
    → after_change path allows says now d ≡ Ok e → AddsOnly None d e

-- an entry is edited, whatever versions are dropped
abbrev pub EditAdds : Type 0
EditAdds = (path : List ℕ) (values : GivenValues) (further : FurtherChange) (now : ℕ)
    (d e : BareDoc) → IsDoc d → IsDoc e → after_edit path values further now d ≡ Ok e
    → AddsOnly None d e

-- something is attached to an entry, whatever versions are dropped
abbrev pub AttachAdds : Type 0
AttachAdds = (path name bytes : List ℕ) (replaces : Bool) (now : ℕ) (d e : BareDoc) → IsDoc d
    → IsDoc e → after_attach path name bytes replaces now d ≡ Ok e → AddsOnly None d e

-- an attachment of an entry is taken away, whatever versions are dropped
abbrev pub DetachAdds : Type 0
DetachAdds = (path name : List ℕ) (now : ℕ) (d e : BareDoc) → IsDoc d → IsDoc e
    → after_detach path name now d ≡ Ok e → AddsOnly None d e

-- a version of an entry is restored, whatever versions are dropped
abbrev pub RestoreAdds : Type 0
RestoreAdds = (path : List ℕ) (number now : ℕ) (d e : BareDoc) → IsDoc d → IsDoc e
    → after_restore path number now d ≡ Ok e → AddsOnly None d e

-- an entry is moved
abbrev pub MoveEntryAdds : Type 0
MoveEntryAdds = (path goal : List ℕ) (now : ℕ) (d e : BareDoc) → IsDoc d → IsDoc e
    → after_move_entry path goal now d ≡ Ok e → AddsOnly None d e

-- a group is made
abbrev pub MakeGroupAdds : Type 0
MakeGroupAdds = (path : List ℕ) (id : NodeId) (now : ℕ) (d e : BareDoc) → IsDoc d → IsDoc e
    → after_make_group path id now d ≡ Ok e → AddsOnly (Some id) d e

-- an entry is put into the bin, which is made where it is missing
abbrev pub RecyclingAdds : Type 0
RecyclingAdds = (path : List ℕ) (bin : Option NodeId) (now : ℕ) (d : BareDoc) (a : AfterRemoval)
    → IsDoc d → IsDoc a.doc → is_some bin ≡ needs_bin d → after_remove_entry path bin now d ≡ Ok a
    → a.removed ≡ Recycled → AddsOnly bin d a.doc

-- no known database holds an id, or has a tombstone of it
abbrev pub IsUnused : List Db → Option NodeId → Type 0
IsUnused known id = (x : Db) (u : NodeId) → IsIn x known → id ≡ Some u
    → (holds x u ≡ false) × (get x.tombs u ≡ None)

-- what only adds, with an id that is used nowhere, is a free event of a history
abbrev pub AddingIsFree : Type 0
AddingIsFree = (w : World) (known : List Db) (i : ℕ) (id : Option NodeId) (e : BareDoc) → IsDoc e
    → AddsOnly id (w i).doc e → IsUnused known id → IsFree w known (schedule_step (change i e))
