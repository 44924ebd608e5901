use Rattle.std.proofs.Common.{◌≡◌, drop, map}
use Rattle.vault_model.specs.Seen.{bare_field}
use Rattle.tree_core.specs.FurtherChanges.{without_fields}
use Rattle.tree_contents.proofs.own_fields.remove_fields.Given as goal

abbrev pub invariant-loop-name : goal.invariant-loop-name
invariant-loop-name l = without_fields (drop l.name-index l.names) (map bare_field l.fields) ≡ without_fields l.names (map bare_field l.initial.fields)
