-- What a merge of documents results in.
use Rattle.std.specs.Prelude.{◌≡◌, false, List, ◌∷◌, Option, None, Some, Result, Ok, Err}
use Rattle.std.specs.Option.{option_map}
use Rattle.vault_model.specs.declared.documents.Doc.{Doc}
use Rattle.vault_model.specs.Db.{NodeId, Db}
use Rattle.vault_model.specs.Join.{join}
use Rattle.vault_model.specs.SeenDoc.{doc_seen}
use Rattle.vault_model.specs.Shape.{lay}
use Rattle.merge_arranging.specs.MergeNodes.Shapes.{shape}
use Rattle.vault_model.specs.Tree.{BareDoc, LEVELS, db_in, lay_doc, shape_of}
use Rattle.merge_checks.specs.MergeChanges.Equality.{same_all, same_doc, same_meta, same_tomb}
use Rattle.merge_core.specs.Marking.{strays}
use Rattle.merge_core.specs.Refusals.{CanMerge, kind_clashes, least, members, root_clashes, too_deep}
use Rattle.merge_checks.specs.MergeJoin.declared.marking.JoinRefusal.{JoinRefusal}
use Rattle.merge_checks.specs.MergeJoin.declared.marking.JoinRefusal.TheVariants.{Stray}
use Rattle.merge_checks.specs.MergeJoin.declared.marking.JoinRefusal.TheVariants as refusal
use Rattle.merge_checks.specs.MergeChanges.Changes.{all_changes, node_changes}
use Rattle.merge_checks.specs.Cycles.{cycle_above}
use Rattle.document_merge.specs.declared.merging.MergeFail.{MergeFail}
use Rattle.document_merge.specs.declared.merging.MergeFail.TheVariants.{RootClash, KindClash, MoveCycle, TooDeep, NoMemory}
use Rattle.document_merge.specs.declared.merging.Laid.{Laid}
use Rattle.document_merge.specs.declared.merging.Merged.{Merged}
use Rattle.document_merge.specs.declared.merging.Refused.{Refused}

-- A merged document, or why there is none.
abbrev pub MergeResult : Type 0
MergeResult = Result BareDoc MergeFail

-- what comes next, unless a node is found that is refused
abbrev pub unless_found : Option NodeId → (NodeId → MergeFail) → MergeResult → MergeResult
unless_found (Some u) why next = Err (why u)
unless_found None why next = next

-- no kept node may be too deep; then the target has the join laid over it
abbrev pub level_stage : BareDoc → List BareDoc → MergeResult
level_stage t ss = unless_found (least (too_deep LEVELS (members t ss))) TooDeep
    (Ok (lay_doc LEVELS (join (members t ss)) t))

-- before that, each own node has a path to the root
abbrev pub path_stage : BareDoc → List BareDoc → MergeResult
path_stage t ss = unless_found (least (strays (members t ss)))
    (λ u. MoveCycle (cycle_above (members t ss) u)) (level_stage t ss)

-- before that, each id is of one kind
abbrev pub kind_stage : BareDoc → List BareDoc → MergeResult
kind_stage t ss = unless_found (least (kind_clashes (members t ss))) KindClash (path_stage t ss)

-- The first refusal, or the target with the join laid over it: first, no node but a root has a
-- root's id.
abbrev pub merge_result : BareDoc → List BareDoc → MergeResult
merge_result t ss = unless_found (least (root_clashes (t ∷ ss))) RootClash (kind_stage t ss)

-- What is reported of a merged document: whether it differs from the target, and what changed.
pub record IsReport (t : BareDoc) (ss : List BareDoc) (m : Merged) : Type 0 where
  pub kept : m.changed ≡ false → doc_seen m.doc ≡ t
  pub same : doc_seen m.doc ≡ t → m.changed ≡ false
  pub changes : m.changes ≡ all_changes (shape_of t).entries (db_in t) (join (members t ss))
      (same_meta t.meta (doc_seen m.doc).meta) (same_all same_tomb t.tombs (doc_seen m.doc).tombs)
      (same_doc t (doc_seen m.doc))

-- The join of documents that can be merged, laid over the target, and what changed of its nodes.
pub record IsLaid (t : BareDoc) (ss : List BareDoc) (l : Laid) : Type 0 where
  pub can_merge : CanMerge t ss
  pub shape : shape l.shape ≡ lay (join (members t ss)) (shape_of t)
  pub changes : l.changes ≡ node_changes (shape_of t).entries (db_in t) (join (members t ss))

-- a call results in what is defined, with its report, unless memory runs out
abbrev pub IsMergeResult : MergeResult → BareDoc → List BareDoc → Result Merged MergeFail → Type 0
IsMergeResult defined t ss (Ok m) = (defined ≡ Ok (doc_seen m.doc)) × IsReport t ss m
IsMergeResult defined t ss (Err NoMemory) = Unit {0}
IsMergeResult defined t ss (Err (RootClash u)) = defined ≡ Err (RootClash u)
IsMergeResult defined t ss (Err (KindClash u)) = defined ≡ Err (KindClash u)
IsMergeResult defined t ss (Err (MoveCycle us)) = defined ≡ Err (MoveCycle us)
IsMergeResult defined t ss (Err (TooDeep u)) = defined ≡ Err (TooDeep u)

-- a call lays what is defined, or refuses it, unless memory runs out
abbrev pub IsLaidResult : MergeResult → BareDoc → List BareDoc → Result Laid MergeFail → Type 0
IsLaidResult defined t ss (Ok l) =
    (defined ≡ Ok (lay_doc LEVELS (join (members t ss)) t)) × IsLaid t ss l
IsLaidResult defined t ss (Err why) = IsMergeResult defined t ss (Err why)

-- the target is handed back as it was, and nothing where memory ran out
abbrev pub HandsBack : BareDoc → MergeFail → Option Doc → Type 0
HandsBack t NoMemory d = d ≡ None
HandsBack t (RootClash u) d = option_map doc_seen d ≡ Some t
HandsBack t (KindClash u) d = option_map doc_seen d ≡ Some t
HandsBack t (MoveCycle us) d = option_map doc_seen d ≡ Some t
HandsBack t (TooDeep u) d = option_map doc_seen d ≡ Some t

-- the same of a call that takes the target: a refusal hands it back
abbrev pub IsMergeCall : MergeResult → BareDoc → List BareDoc → Result Merged Refused → Type 0
IsMergeCall defined t ss (Ok m) = IsMergeResult defined t ss (Ok m)
IsMergeCall defined t ss (Err r) =
    IsMergeResult defined t ss (Err r.why) × HandsBack t r.why r.target

-- why documents are not merged, where their databases are not joined
abbrev pub IsFailOf : List Db → JoinRefusal → MergeFail → Type 0
IsFailOf S (Stray u) (MoveCycle us) = us ≡ cycle_above S u
IsFailOf S (Stray u) NoMemory = Unit {0}
IsFailOf S (Stray u) (RootClash v) = ⊥
IsFailOf S (Stray u) (KindClash v) = ⊥
IsFailOf S (Stray u) (TooDeep v) = ⊥
IsFailOf S refusal.NoMemory NoMemory = Unit {0}
IsFailOf S refusal.NoMemory (MoveCycle us) = ⊥
IsFailOf S refusal.NoMemory (RootClash v) = ⊥
IsFailOf S refusal.NoMemory (KindClash v) = ⊥
IsFailOf S refusal.NoMemory (TooDeep v) = ⊥
