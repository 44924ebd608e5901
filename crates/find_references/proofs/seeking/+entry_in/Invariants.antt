use Rattle.std.proofs.Common.{◌≡◌, drop}
use Rattle.std.specs.Prelude.{map}
use Rattle.find_references.specs.inside.Sought.{sought_among}
use Rattle.vault_model.specs.SeenNodes.{tree_seen}
use Rattle.vault_model.specs.Tree.{all_trees}
use Rattle.find_references.proofs.seeking.+entry_in.Given as goal

abbrev pub invariant-loop-child : goal.invariant-loop-child
invariant-loop-child l =
    sought_among l.place l.text (all_trees (map tree_seen (drop l.child-index l.child-items)))
    ≡ sought_among l.place l.text (all_trees (map tree_seen l.child-items))
