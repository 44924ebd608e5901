-- What is merged of two imports, of what only one of them has.
use Rattle.std.specs.Prelude.{◌≡◌, [], ◌∷◌, None, Some}
use Rattle.std.specs.FinMap.{get}
use Rattle.vault_model.specs.Db.{Db, NodeId, Versions}
use Rattle.vault_model.specs.Join.{Agreed, join}
use Rattle.vault_model.specs.Tree.{BareDoc, IsDoc, db_in}

-- An entry is the same after a merge that only one of two databases has: each of its versions is there,
-- and no other, so its current version is what it was.
abbrev pub KeepsOwn : Db → Db → Type 0
KeepsOwn one other = (entry : NodeId) (versions : Versions) → get one.entries entry ≡ Some versions
    → get other.entries entry ≡ None → get (join (one ∷ other ∷ [])).entries entry ≡ Some versions

-- The same of the second of them.
abbrev pub KeepsOther : Db → Db → Type 0
KeepsOther one other = (entry : NodeId) (versions : Versions)
    → get other.entries entry ≡ Some versions → get one.entries entry ≡ None
    → get (join (one ∷ other ∷ [])).entries entry ≡ Some versions

-- Nothing of two imports that agree is lost when they are merged.
abbrev pub NothingIsLost : Type 0
NothingIsLost = (one other : BareDoc) → IsDoc one → IsDoc other → one.tombs ≡ [] → other.tombs ≡ []
    → Agreed (db_in one ∷ db_in other ∷ [])
    → KeepsOwn (db_in one) (db_in other) × KeepsOther (db_in one) (db_in other)
