-- Merges of documents: what every merge keeps, and what comes of documents whose databases are
-- joins of parts of an agreed set.
use Rattle.std.specs.Prelude.{◌≡◌, true, List, ◌∷◌, None, Some, Ok, Err, map}
use Rattle.std.specs.FinMap.{get}
use Rattle.vault_model.specs.declared.contents.Stats.{Stats}
use Rattle.vault_model.specs.Db.{NodeId, Mark, Versions, Db}
use Rattle.vault_model.specs.Join.{kept, join, IsIn, IsPart, Agreed}
use Rattle.vault_model.specs.Tree.{BareDoc, LEVELS, FitsLevels, IsDoc, IsSettled, db_in}
use Rattle.merge_core.specs.JoinLaws.{AreParts, IsThere, end_to_end}
use Rattle.merge_core.specs.Refusals.{members}
use Rattle.document_merge.specs.declared.merging.MergeFail.TheVariants.{RootClash, KindClash, MoveCycle, TooDeep, NoMemory}
use Rattle.document_merge.specs.Merging.{MergeResult, merge_result}

-- all of them keep what every document keeps
abbrev pub AreDocs : List BareDoc → Type 0
AreDocs ds = (d : BareDoc) → IsIn d ds → IsDoc d

-- A settled document of this database.
pub record IsSettledAs (m : Db) (doc : BareDoc) : Type 0 where
  pub is_doc : IsDoc doc
  pub database : db_in doc ≡ m
  pub settled : IsSettled LEVELS doc

-- ---- every merge, of agreed documents or not

-- what is merged is a settled document, whose database is the join of the members
abbrev pub MergesSettle : Type 0
MergesSettle = (t : BareDoc) (ss : List BareDoc) (doc : BareDoc) → AreDocs (t ∷ ss)
    → merge_result t ss ≡ Ok doc → IsSettledAs (join (members t ss)) doc

-- and has each version that a member has of a kept entry, used at least so late and so often
abbrev pub MergesKeepVersions : Type 0
MergesKeepVersions = (t : BareDoc) (ss : List BareDoc) (doc : BareDoc) → AreDocs (t ∷ ss)
    → merge_result t ss ≡ Ok doc → (m : Db) (u : NodeId) (v : Versions) (k : Mark) (s : Stats)
    → IsIn m (members t ss) → kept (members t ss) u ≡ true → get m.entries u ≡ Some v
    → get v k ≡ Some s → IsThere (db_in doc) u k s

-- ---- documents whose databases are joins of parts of an agreed set

-- A merge results in a settled document of this database; or it is refused because a node is too
-- deep, which comes only where this database does not fit the levels.
abbrev pub MergesInto : Db → MergeResult → Type 0
MergesInto m (Ok doc) = IsSettledAs m doc
MergesInto m (Err (TooDeep u)) = ¬ (FitsLevels LEVELS m)
MergesInto m (Err (RootClash u)) = ⊥
MergesInto m (Err (KindClash u)) = ⊥
MergesInto m (Err (MoveCycle us)) = ⊥
MergesInto m (Err NoMemory) = ⊥

-- such documents are merged into the join of all the parts
abbrev pub PartsAreMerged : Type 0
PartsAreMerged = (t : BareDoc) (ss : List BareDoc) (S : List Db) (Rs : List (List Db))
    → AreDocs (t ∷ ss) → Agreed S → AreParts Rs S → map db_in (t ∷ ss) ≡ map join Rs
    → MergesInto (join (end_to_end Rs)) (merge_result t ss)

-- with each version of each entry that a member of a part holds and none has deleted
abbrev pub PartsKeepVersions : Type 0
PartsKeepVersions = (t : BareDoc) (ss : List BareDoc) (S : List Db) (Rs : List (List Db))
    (doc : BareDoc) → AreDocs (t ∷ ss) → Agreed S → AreParts Rs S
    → map db_in (t ∷ ss) ≡ map join Rs → merge_result t ss ≡ Ok doc
    → (m : Db) (u : NodeId) (v : Versions) (k : Mark) (s : Stats) → IsIn m (end_to_end Rs)
    → get m.entries u ≡ Some v → get v k ≡ Some s
    → ((n : Db) → IsIn n (end_to_end Rs) → get n.tombs u ≡ None) → IsThere (db_in doc) u k s

-- and where the sources' parts are within the target's, and the target is settled, the target is
-- what the merge results in
abbrev pub MergedAgain : Type 0
MergedAgain = (t : BareDoc) (ss : List BareDoc) (S R : List Db) (Rs : List (List Db))
    → AreDocs (t ∷ ss) → Agreed S → IsPart R S → AreParts Rs R
    → map db_in (t ∷ ss) ≡ map join (R ∷ Rs) → IsSettled LEVELS t → merge_result t ss ≡ Ok t
