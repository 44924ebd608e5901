-- What joining and laying keep, each a statement by itself.
use Rattle.std.specs.Prelude.{◌≡◌, ℕ, List}
use Rattle.vault_model.specs.Db.{Db, Sound}
use Rattle.vault_model.specs.Join.{join, IsIn, Allowed}
use Rattle.vault_model.specs.Tree.{BareDoc, id_of, db_in, lay_doc, IsSettled, FitsLevels, IsDoc}

-- the database of every document is sound
abbrev pub DocumentsAreSound : Type 0
DocumentsAreSound = (d : BareDoc) → IsDoc d → Sound (db_in d)

-- the join of sound databases that can be joined is sound, agreed or not
abbrev pub JoinsAreSound : Type 0
JoinsAreSound = (S : List Db) → Allowed S → ((m : Db) → IsIn m S → Sound m) → Sound (join S)

-- a laid document has the database that was laid, and is settled
abbrev pub LaysSettle : Type 0
LaysSettle = (n : ℕ) (m : Db) (t : BareDoc) → Sound m → m.root ≡ id_of t.tree → FitsLevels n m
    → (db_in (lay_doc n m t) ≡ m) × IsSettled n (lay_doc n m t)
