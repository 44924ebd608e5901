use Rattle.std.proofs.Common.{◌≡◌, ◌++◌, drop}
use Rattle.std.specs.Prelude.{map}
use Rattle.find_core.specs.Search.{found_among}
use Rattle.find_core.specs.inside.Found.{all_match_folded}
use Rattle.vault_model.specs.SeenNodes.{tree_seen}
use Rattle.vault_model.specs.Tree.{all_trees}
use Rattle.find_core.proofs.searching.+add_found.Given as goal

abbrev pub invariant-loop-child : goal.invariant-loop-child
invariant-loop-child l =
    l.ids ++ found_among (all_match_folded l.terms) l.searched (all_trees (map tree_seen (drop l.child-index l.child-items)))
    ≡ l.initial.ids ++ found_among (all_match_folded l.terms) l.searched (all_trees (map tree_seen l.child-items))
