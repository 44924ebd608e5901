-- What removing an entry changes, and that all else is as before.
use Rattle.std.specs.Prelude.{◌≡◌, ◌≤◌, ◌<◌, ℕ, false, max, List, Option, None, Some, Ok, codes, is_some}
use Rattle.vault_model.specs.Db.{NodeId}
use Rattle.vault_model.specs.Empty.{new_group}
use Rattle.vault_model.specs.Join.{is_id}
use Rattle.vault_model.specs.SeenNodes.{entry_time}
use Rattle.vault_model.specs.Shape.{EntryRecord, no_children}
use Rattle.vault_model.specs.Tree.{BareDoc, IsDoc, id_of}
use Rattle.tree_core.specs.declared.fails.Removed.{Removed}
use Rattle.tree_core.specs.declared.fails.Removed.TheVariants.{Deleted, Recycled}
use Rattle.tree_core.specs.After.{AfterRemoval, after_remove_entry, needs_bin, with_bin}
use Rattle.tree_core.specs.Finding.{entry_found}
use Rattle.tree_core.specs.NewNodes.{as_bin}
use Rattle.frame_laws.specs.Entries.{EntryMoves}
use Rattle.frame_laws.specs.Frame.{HasLostEntry, HasNewGroup, AreSameBut, children_of, entry_of, group_of, no_node, only, tomb_of, either}

-- The bin is made: a group with the given id and no children, the last of the root's, which the
-- database says is its bin.
pub record MakesBin (bin : NodeId) (now : ℕ) (d e : BareDoc) : Type 0 where
  pub no_entry : entry_of d bin ≡ None
  pub no_group : group_of d bin ≡ None
  pub is : group_of e bin ≡ Some (as_bin (new_group (codes "Recycle Bin") now))
  pub empty : children_of e bin ≡ Some no_children
  pub new : HasNewGroup (id_of d.tree) bin d e
  pub rest : AreSameBut no_node (only bin) (either (id_of d.tree) bin) d e
  pub tombs : e.tombs ≡ d.tombs
  pub time : ℕ
  pub late : now ≤ time
  pub later : d.meta.bin.changed < time
  pub meta : e.meta ≡ with_bin bin time d.meta

-- a document whose bin is made where an id is given for it, and else is as it is
abbrev pub MakesGivenBin : Option NodeId → ℕ → BareDoc → BareDoc → Type 0
MakesGivenBin None now d ready = ready ≡ d
MakesGivenBin (Some bin) now d ready = MakesBin bin now d ready

-- An entry goes into the bin, which is made before where it is missing: else it is a move.
pub record RecyclesEntry (path : List ℕ) (bin : Option NodeId) (now : ℕ) (d e : BareDoc)
    : Type 0 where
  pub entry : NodeId
  pub from : NodeId
  pub named : entry_found d path ≡ Some entry
  pub ready : BareDoc
  pub made : MakesGivenBin bin now d ready
  pub moved : EntryMoves entry from ready.meta.bin.value.id now ready e

-- An entry is deleted: it is gone from its list, and has a tombstone.
pub record DeletesEntry (path : List ℕ) (now : ℕ) (d e : BareDoc) : Type 0 where
  pub entry : NodeId
  pub from : NodeId
  pub named : entry_found d path ≡ Some entry
  pub before : EntryRecord
  pub was : entry_of d entry ≡ Some before
  pub gone : entry_of e entry ≡ None
  pub lost : HasLostEntry from entry d e
  pub rest : AreSameBut (only entry) no_node (only from) d e
  pub tomb : tomb_of e entry ≡ Some (max now (entry_time before))
  pub tombs : (q : NodeId) → is_id q entry ≡ false → tomb_of e q ≡ tomb_of d q
  pub meta : e.meta ≡ d.meta

-- what became of an entry
abbrev pub RemovesEntry : Removed → List ℕ → Option NodeId → ℕ → BareDoc → BareDoc → Type 0
RemovesEntry Recycled path bin now d e = RecyclesEntry path bin now d e
RemovesEntry Deleted path bin now d e = DeletesEntry path now d e

-- a bin is given exactly where one has to be made
abbrev pub RemoveEntryFrames : Type 0
RemoveEntryFrames = (path : List ℕ) (bin : Option NodeId) (now : ℕ) (d : BareDoc)
    (a : AfterRemoval) → IsDoc d → IsDoc a.doc → is_some bin ≡ needs_bin d
    → after_remove_entry path bin now d ≡ Ok a → RemovesEntry a.removed path bin now d a.doc
