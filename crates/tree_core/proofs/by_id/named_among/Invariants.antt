use Rattle.std.proofs.Common.{◌≡◌, drop}
use Rattle.std.specs.Prelude.{map}
use Rattle.vault_model.specs.SeenNodes.{entry_row}
use Rattle.tree_core.specs.ById as spec
use Rattle.tree_core.proofs.by_id.named_among.Given as goal

abbrev pub invariant-loop-entry : goal.invariant-loop-entry
invariant-loop-entry l =
    spec.named_among l.text (map entry_row (drop l.entry-index l.entries)) ≡ spec.named_among l.text (map entry_row l.entries)
