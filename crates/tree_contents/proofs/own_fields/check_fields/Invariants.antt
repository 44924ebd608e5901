use Rattle.std.proofs.Common.{◌≡◌, drop, map}
use Rattle.vault_model.specs.Seen.{bare_field}
use Rattle.tree_core.specs.FurtherChanges.{missing_from}
use Rattle.tree_contents.proofs.own_fields.check_fields.Given as goal

abbrev pub invariant-loop-place : goal.invariant-loop-place
invariant-loop-place l = missing_from l.place (drop l.place l.names) (map bare_field l.fields) ≡ missing_from 0 l.names (map bare_field l.fields)
