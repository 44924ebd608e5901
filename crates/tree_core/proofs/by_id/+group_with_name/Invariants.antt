use Rattle.std.proofs.Common.{◌≡◌, drop}
use Rattle.std.specs.Prelude.{map}
use Rattle.vault_model.specs.SeenNodes.{tree_seen}
use Rattle.vault_model.specs.Tree.{all_trees}
use Rattle.tree_core.specs.ById as spec
use Rattle.tree_core.proofs.by_id.+group_with_name.Given as goal

abbrev pub invariant-loop-child : goal.invariant-loop-child
invariant-loop-child l =
    spec.group_with_name_in l.text (all_trees (map tree_seen (drop l.child-index l.child-items))) ≡ spec.group_with_name_in l.text (all_trees (map tree_seen l.child-items))
