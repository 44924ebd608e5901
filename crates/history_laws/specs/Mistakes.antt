-- What does not hold: a statement that is refuted.
use Rattle.std.specs.Prelude.{◌≡◌, ℕ, List}
use Rattle.vault_model.specs.Db.{Db}
use Rattle.vault_model.specs.Join.{join, IsWithin, Agreed}
use Rattle.vault_model.specs.Plans.{World, put}
use Rattle.vault_model.specs.Tree.{db_in}

-- the replicas after a copy that learns nothing
abbrev pub after_forgetful_copy : World → ℕ → ℕ → World
after_forgetful_copy w i j = put w i (record { doc = (w j).doc; learned = (w i).learned })

-- replicas that have the join of what they have learned have it after such a copy too
abbrev pub ForgetfulCopiesAgree : Type 0
ForgetfulCopiesAgree = (S : List Db) (w : World) (i j : ℕ) → Agreed S
    → ((k : ℕ) → IsWithin (w k).learned S) → ((k : ℕ) → db_in (w k).doc ≡ join (w k).learned)
    → db_in (after_forgetful_copy w i j i).doc ≡ join (after_forgetful_copy w i j i).learned
