use Rattle.std.proofs.Common.{◌≡◌, ◌++◌, map, drop}
use Rattle.vault_model.specs.Shape.{version_of}
use Rattle.merge_arranging.proofs.laying.push_versions.Given as goal

abbrev pub invariant-loop-row : goal.invariant-loop-row
invariant-loop-row l = map version_of l.rows ≡ l.versions.items ++ map version_of (drop l.row-index l.rows)
