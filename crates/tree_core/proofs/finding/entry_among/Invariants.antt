use Rattle.std.proofs.Common.{◌≡◌, drop}
use Rattle.std.specs.Prelude.{map, option_map}
use Rattle.vault_model.specs.SeenNodes.{entry_row}
use Rattle.tree_core.specs.Path as spec
use Rattle.tree_core.proofs.finding.entry_among.Given as goal

abbrev pub invariant-loop-entry : goal.invariant-loop-entry
invariant-loop-entry l =
    spec.entry_among (option_map (λ r. r.now) l.rest) (option_map (λ r. r.now) l.other) (map entry_row (drop l.entry-index l.entries))
    ≡ spec.entry_among (option_map (λ r. r.now) l.rest) (option_map (λ r. r.now) l.other) (map entry_row l.entries)
