use Rattle.std.proofs.Common.{◌≡◌, drop, map}
use Rattle.vault_model.specs.Seen.{bare_field}
use Rattle.tree_core.specs.FurtherChanges.{has_field}
use Rattle.tree_contents.proofs.own_fields.has_field.Given as goal

abbrev pub invariant-loop-field : goal.invariant-loop-field
invariant-loop-field l = has_field l.name (map bare_field (drop l.field-index l.fields)) ≡ has_field l.name (map bare_field l.fields)
