use Rattle.std.proofs.Common.{◌≡◌, drop}
use Rattle.std.specs.Prelude.{map}
use Rattle.vault_model.specs.SeenNodes.{tree_seen}
use Rattle.vault_model.specs.Tree.{all_trees}
use Rattle.cli_printing.specs.Listing.{tree_among}
use Rattle.cli_printing.proofs.listing.+group_with.Given as goal

abbrev pub invariant-loop-child : goal.invariant-loop-child
invariant-loop-child l =
    tree_among l.id (all_trees (map tree_seen (drop l.child-index l.child-items))) ≡ tree_among l.id (all_trees (map tree_seen l.child-items))
