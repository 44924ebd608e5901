use Rattle.std.proofs.Common.{◌≡◌, ◌++◌, drop}
use Rattle.std.specs.Prelude.{map}
use Rattle.vault_model.specs.SeenNodes.{tree_seen}
use Rattle.vault_model.specs.Tree.{all_trees}
use Rattle.cli_printing.specs.Listing.{name_lines}
use Rattle.cli_printing.proofs.listing.+add_group.Given as goal

abbrev pub invariant-loop-child : goal.invariant-loop-child
invariant-loop-child l =
    l.text ++ name_lines l.manner.recursive l.manner.flat l.manner.ids l.front (all_trees (map tree_seen (drop l.child-index l.child-items)))
    ≡ l.initial.text ++ name_lines l.manner.recursive l.manner.flat l.manner.ids l.front (all_trees (map tree_seen l.child-items))
