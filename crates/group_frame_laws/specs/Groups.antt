-- What moving and removing a group changes, and that all else is as before.
use Rattle.std.specs.Prelude.{◌≡◌, ◌≤◌, ◌<◌, ℕ, Bool, true, false, ◌||◌, max, List, Option, None, Some, Ok, is_some}
use Rattle.std.specs.List.{list_any}
use Rattle.vault_model.specs.Db.{NodeId}
use Rattle.vault_model.specs.Join.{is_id}
use Rattle.vault_model.specs.SeenNodes.{entry_time}
use Rattle.vault_model.specs.Shape.{EntryRecord, GroupRecord}
use Rattle.vault_model.specs.Tree.{BareDoc, IsDoc, Tree, id_of, node_ids}
use Rattle.tree_core.specs.declared.fails.Removed.{Removed}
use Rattle.tree_core.specs.declared.fails.Removed.TheVariants.{Deleted, Recycled}
use Rattle.tree_core.specs.After.{AfterRemoval, after_move_group, after_remove_group, group_named, needs_bin}
use Rattle.tree_core.specs.Finding.{group_found}
use Rattle.frame_laws.specs.Frame.{AreSameBut, HasLostGroup, HasNewGroup, children_of, either, entry_of, group_of, no_node, only, tomb_of}
use Rattle.frame_laws.specs.Removals.{MakesGivenBin}

-- a node is a group or below it
abbrev pub is_within : Tree → NodeId → Bool
is_within c q = list_any (is_id q) (node_ids c)

-- ---- move

-- A group is moved from one group to the end of another's groups, with all that is in it.
pub record GroupMoves (group from to : NodeId) (now : ℕ) (d e : BareDoc) : Type 0 where
  pub apart : is_id from to ≡ false
  pub before : GroupRecord
  pub time : ℕ
  pub was : group_of d group ≡ Some before
  pub is : group_of e group ≡ Some (record before { placed = time; previous = from })
  pub late : now ≤ time
  pub later : before.placed < time
  pub lost : HasLostGroup from group d e
  pub new : HasNewGroup to group d e
  pub rest : AreSameBut no_node (only group) (either from to) d e
  pub tombs : e.tombs ≡ d.tombs
  pub meta : e.meta ≡ d.meta

-- A move moves the group that one path names into the group that another names.
pub record MovesGroup (path goal : List ℕ) (now : ℕ) (d e : BareDoc) : Type 0 where
  pub group : NodeId
  pub from : NodeId
  pub to : NodeId
  pub named : group_found d path ≡ Some group
  pub aimed : group_found d goal ≡ Some to
  pub moved : GroupMoves group from to now d e

-- `mv` of a group moves the group that the path names, and nothing else.
abbrev pub MoveGroupFrames : Type 0
MoveGroupFrames = (path goal : List ℕ) (now : ℕ) (d e : BareDoc) → IsDoc d → IsDoc e
    → after_move_group path goal now d ≡ Ok e → MovesGroup path goal now d e

-- ---- removal

-- A group goes into the bin, which is made before where it is missing: else it is a move.
pub record RecyclesGroup (path : List ℕ) (bin : Option NodeId) (now : ℕ) (d e : BareDoc) : Type 0
  where
    pub group : NodeId
    pub from : NodeId
    pub named : group_found d path ≡ Some group
    pub ready : BareDoc
    pub made : MakesGivenBin bin now d ready
    pub moved : GroupMoves group from ready.meta.bin.value.id now ready e

-- A group is deleted: it and all below it are gone, each with a tombstone of now or of its last
-- time where that is later, and one list lost its id.
pub record DeletesGroup (path : List ℕ) (now : ℕ) (d e : BareDoc) : Type 0 where
  pub group : Tree
  pub from : NodeId
  pub named : group_named path d ≡ Ok group
  pub no_entry : (q : NodeId) → is_within group q ≡ true → entry_of e q ≡ None
  pub no_group : (q : NodeId) → is_within group q ≡ true → group_of e q ≡ None
  pub no_list : (q : NodeId) → is_within group q ≡ true → children_of e q ≡ None
  pub lost : HasLostGroup from (id_of group) d e
  pub rest : AreSameBut (is_within group) (is_within group) (λ q. is_within group q || is_id q from)
      d e
  pub entry_tombs : (q : NodeId) (x : EntryRecord) → is_within group q ≡ true
      → entry_of d q ≡ Some x → tomb_of e q ≡ Some (max now (entry_time x))
  pub group_tombs : (q : NodeId) (r : GroupRecord) → is_within group q ≡ true
      → group_of d q ≡ Some r → tomb_of e q ≡ Some (max now r.state.modified)
  pub other_tombs : (q : NodeId) → is_within group q ≡ false → tomb_of e q ≡ tomb_of d q
  pub meta : e.meta ≡ d.meta

-- what became of a group
abbrev pub RemovesGroup : Removed → List ℕ → Option NodeId → ℕ → BareDoc → BareDoc → Type 0
RemovesGroup Recycled path bin now d e = RecyclesGroup path bin now d e
RemovesGroup Deleted path bin now d e = DeletesGroup path now d e

-- a bin is given exactly where one has to be made
abbrev pub RemoveGroupFrames : Type 0
RemoveGroupFrames = (path : List ℕ) (bin : Option NodeId) (now : ℕ) (d : BareDoc)
    (a : AfterRemoval) → IsDoc d → IsDoc a.doc → is_some bin ≡ needs_bin d
    → after_remove_group path bin now d ≡ Ok a → RemovesGroup a.removed path bin now d a.doc
