-- What is current of a join, each statement by itself.
use Rattle.std.specs.Prelude.{◌≡◌, List, map}
use Rattle.vault_model.specs.Db.{Db, Sound}
use Rattle.vault_model.specs.Join.{Agreed, IsIn, join}
use Rattle.history_laws.specs.Current.{current_view}

-- what is current of a join is what is current of the join of what is current of each member
abbrev pub CurrentsJoin : Type 0
CurrentsJoin = (S : List Db) → current_view (join S) ≡ current_view (join (map current_view S))

-- what is current of what is current is the same
abbrev pub CurrentIsCurrent : Type 0
CurrentIsCurrent = (m : Db) → current_view (current_view m) ≡ current_view m

-- sound databases that are alike in what is current with agreed ones agree too
abbrev pub AgreementIsCurrent : Type 0
AgreementIsCurrent = (S T : List Db)
    → map current_view S ≡ map current_view T → ((m : Db) → IsIn m S → Sound m)
    → Agreed T → Agreed S
