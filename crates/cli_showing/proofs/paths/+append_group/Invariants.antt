use Rattle.std.proofs.Common.{◌≡◌, ◌++◌, drop}
use Rattle.std.specs.BTreeSet.{contains}
use Rattle.std.specs.Prelude.{map}
use Rattle.vault_model.specs.Db.{id_cmp}
use Rattle.vault_model.specs.SeenNodes.{tree_seen}
use Rattle.vault_model.specs.Tree.{all_trees}
use Rattle.cli_showing.specs.inside.Walking.{trees_lines}
use Rattle.cli_showing.proofs.paths.+append_group.Given as goal

abbrev pub invariant-loop-child : goal.invariant-loop-child
invariant-loop-child l =
    l.text.bytes ++ trees_lines (contains id_cmp l.ids) l.front (all_trees (map tree_seen (drop l.child-index l.child-items)))
    ≡ l.initial.text.bytes ++ trees_lines (contains id_cmp l.ids) l.front (all_trees (map tree_seen l.child-items))
