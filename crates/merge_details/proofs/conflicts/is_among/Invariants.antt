use Rattle.std.proofs.Common.{◌≡◌, drop, map}
use Rattle.std.specs.List.{list_any}
use Rattle.vault_model.specs.SeenNodes.{bare_version}
use Rattle.vault_model.specs.Shape.{BareVersion}
use Rattle.merge_details.specs.Conflicts.{same_mark}
use Rattle.merge_details.proofs.conflicts.is_among.Given as goal

-- whether one of those that are left is the same
abbrev pub invariant-loop-older : goal.invariant-loop-older
invariant-loop-older l =
    list_any (λ (v : BareVersion). same_mark (bare_version l.version).mark v.mark) (map bare_version (drop l.older-index l.versions))
    ≡ list_any (λ (v : BareVersion). same_mark (bare_version l.version).mark v.mark) (map bare_version l.versions)
