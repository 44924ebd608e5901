use Rattle.std.proofs.Common.{◌≡◌, drop}
use Rattle.std.specs.List.{position_from}
use Rattle.std.specs.Str.{bytes_eq}
use Rattle.vault_model.specs.declared.contents.Field.{Field}
use Rattle.tree_contents.proofs.fields.field_index.Given as goal

abbrev pub invariant-loop-at : goal.invariant-loop-at
invariant-loop-at l =
    position_from (λ (f : Field). bytes_eq l.key f.key) 0 l.fields
    ≡ position_from (λ (f : Field). bytes_eq l.key f.key) l.at (drop l.at l.fields)
