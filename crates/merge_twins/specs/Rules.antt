-- The rules of the two copies, by which of them is asked for.
use Rattle.std.specs.Prelude.{ℕ, ◌&&◌, ◌==◌, if◌then◌else◌, List, [], ◌∷◌}
use Rattle.vault_model.specs.Db.{NodeId}
use Rattle.vault_model.specs.Shape.{EntryRecord}
use Rattle.merge_twins.specs.Twins.{Rules, first_rules, row_of, second_rules}
use Rattle.merge_twins.specs.declared.rules.Which.{Which}
use Rattle.merge_twins.specs.declared.rules.Which.TheVariants.{First, Second}

-- the rules of a copy
abbrev pub rules_of : Which → Rules
rules_of First = first_rules
rules_of Second = second_rules

-- an entry, if it is in a group of a copy
abbrev pub row_if : Rules → ℕ → ℕ → List (NodeId × EntryRecord)
row_if rules g i = if rules.is_there i && rules.group i == g then row_of rules i ∷ [] else []
