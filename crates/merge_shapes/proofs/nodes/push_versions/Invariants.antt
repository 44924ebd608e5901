use Rattle.std.proofs.Common.{◌≡◌, ◌++◌, map, drop}
use Rattle.vault_model.specs.SeenNodes.{bare_version}
use Rattle.merge_shapes.proofs.nodes.push_versions.Given as goal

abbrev pub invariant-loop-version : goal.invariant-loop-version
invariant-loop-version l = l.lent.items ++ map bare_version (drop l.version-index l.history) ≡ map bare_version l.history
