use Rattle.std.proofs.Common.{◌≡◌, drop, map}
use Rattle.std.specs.FinMap.{get}
use Rattle.std.specs.List.{list_any}
use Rattle.vault_model.specs.SeenNodes.{bare_version}
use Rattle.merge_details.specs.Conflicts.{Holding, lacks_version}
use Rattle.merge_details.proofs.conflicts.is_lacking.Given as goal

-- whether one of those that are left lacks it
abbrev pub invariant-loop-held : goal.invariant-loop-held
invariant-loop-held l =
    list_any (λ (held : Holding). lacks_version (bare_version l.version).mark (held l.id)) (map get (drop l.held-index l.sources))
    ≡ list_any (λ (held : Holding). lacks_version (bare_version l.version).mark (held l.id)) (map get l.sources)
