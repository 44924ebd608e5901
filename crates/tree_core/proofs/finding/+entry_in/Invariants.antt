use Rattle.std.proofs.Common.{◌≡◌, drop}
use Rattle.std.specs.Prelude.{map, option_map}
use Rattle.vault_model.specs.SeenNodes.{tree_seen}
use Rattle.vault_model.specs.Tree.{all_trees}
use Rattle.tree_core.specs.Path as spec
use Rattle.tree_core.proofs.finding.+entry_in.Given as goal

abbrev pub invariant-loop-child : goal.invariant-loop-child
invariant-loop-child l =
    spec.entry_in_all (option_map (λ r. r.now) l.rest) (option_map (λ r. r.now) l.other) (all_trees (map tree_seen (drop l.child-index l.child-items)))
    ≡ spec.entry_in_all (option_map (λ r. r.now) l.rest) (option_map (λ r. r.now) l.other) (all_trees (map tree_seen l.child-items))
