-- Copies that would agree were it not for what was deleted: one deleted an entry for good, and another
-- changed it afterwards. For such copies the law of plans does not hold.
use Rattle.std.specs.Prelude.{◌≡◌, List, [], ◌∷◌, codes}
use Rattle.vault_model.specs.Db.{Db, Sound, nil_id}
use Rattle.vault_model.specs.Join.{HaveOneKind, HaveOneRoot, IsAcyclic, IsIn, IsPart}
use Rattle.vault_model.specs.Plans.{Plan, leaf, merge, more, none, value}
use Rattle.vault_model.specs.Tree.{BareDoc, beside, db_in, node}
use Rattle.vault_model.specs.Tree as tree
use Rattle.merge_core.specs.Example.{as_it_was, bank, entry, group, mail, meta, moved, root, version, work}
use Rattle.merge_core.specs.JoinLaws.{Names}

-- Agreed members, without what is asked of deletions.
pub record AgreedButDeletions (S : List Db) : Type 0 where
  pub sound : (m : Db) → IsIn m S → Sound m
  pub root : HaveOneRoot S
  pub kinds : HaveOneKind S
  pub acyclic : (R : List Db) → IsPart R S → IsAcyclic R

-- every order and grouping of merges of such members results in one database
abbrev pub DeletionsNeverCount : Type 0
DeletionsNeverCount = (S : List Db) → AgreedButDeletions S → (p q : Plan) → Names p S → Names q S
    → value p ≡ value q

-- the first copy of the worked example with another version of the entry that the third deleted at 40
abbrev pub changed_later : BareDoc
changed_later = record {
  tree = node root (group 10 (codes "Root"))
      ((bank, entry 10 nil_id (version 10 (codes "Bank") (codes "a")) []) ∷
      (mail, entry 10 nil_id (version 50 (codes "Mail") (codes "new")) []) ∷ [])
      (beside (node work (group 10 (codes "Work")) [] tree.none) tree.none);
  tombs = [];
  meta = meta;
}

-- all three at once
abbrev pub at_once : Plan
at_once = merge (leaf moved) (more (leaf as_it_was) (more (leaf changed_later) none))

-- two of them, and then the third
abbrev pub one_by_one : Plan
one_by_one = merge (merge (leaf moved) (more (leaf as_it_was) none))
    (more (leaf changed_later) none)

-- the databases of the three
abbrev pub three : List Db
three = db_in moved ∷ db_in as_it_was ∷ db_in changed_later ∷ []
