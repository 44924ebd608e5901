use Rattle.std.proofs.Common.{◌≡◌, drop, map}
use Rattle.std.specs.List.{zip}
use Rattle.secret_core.specs.Secret.{SecretBuffer}
use Rattle.vault_model.specs.Seen.{bare_field}
use Rattle.tree_core.specs.FurtherChanges.{with_own_values}
use Rattle.tree_contents.proofs.own_fields.set_own_values.Given as goal

-- with the values that are left they come to all
abbrev pub invariant-loop-at : goal.invariant-loop-at
invariant-loop-at l =
    with_own_values l.protect (zip (drop l.at l.names) (map (λ (value : SecretBuffer). value.bytes) (drop l.at l.values))) (map bare_field l.fields)
    ≡ with_own_values l.protect (zip l.names (map (λ (value : SecretBuffer). value.bytes) l.values)) (map bare_field l.initial.fields)
