use Rattle.std.proofs.Common.{◌≡◌, drop}
use Rattle.vault_model.specs.Orders.{bytes_cmp}
use Rattle.vault_model.specs.declared.contents.Field.{Field}
use Rattle.tree_contents.specs.Spots.{further, spot}
use Rattle.tree_contents.proofs.fields.field_spot.Given as goal

abbrev pub invariant-loop-at : goal.invariant-loop-at
invariant-loop-at l = spot (λ (f : Field). bytes_cmp l.key f.key) l.fields ≡ further l.at (spot (λ (f : Field). bytes_cmp l.key f.key) (drop l.at l.fields))
