use Rattle.std.proofs.Common.{◌≡◌, ◌++◌, List, ℕ, map, drop}
use Rattle.std.specs.FinMap.{values}
use Rattle.vault_model.specs.declared.contents.Item.{Item}
use Rattle.merge_arranging.proofs.laying.push_items.Given as goal

abbrev pub invariant-loop-row : goal.invariant-loop-row
invariant-loop-row l = values l.items ≡ l.values.items ++ map (λ (e : List ℕ × Item). e.1) (drop l.row-index l.row-items)
