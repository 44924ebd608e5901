use Rattle.std.proofs.Common.{◌≡◌, drop}
use Rattle.std.specs.Prelude.{map, codes}
use Rattle.vault_model.specs.Seen.{bare_field}
use Rattle.vault_model.specs.Walk.{value_of}
use Rattle.tree_core.proofs.finding.title_of_version.Given as goal

abbrev pub invariant-loop-field : goal.invariant-loop-field
invariant-loop-field l =
    value_of (codes "Title") (map bare_field (drop l.field-index l.field-items))
    ≡ value_of (codes "Title") (map bare_field l.field-items)
