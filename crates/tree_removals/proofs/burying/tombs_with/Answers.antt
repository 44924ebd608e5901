use Rattle.std.proofs.Common.{List, subst}
use Rattle.std.specs.List.Sorted.{IsPermutation}
use Rattle.vault_model.specs.SeenNodes.{tree_seen}
use Rattle.vault_model.specs.declared.nodes.Tombstone.{Tombstone}
use Rattle.tree_core.specs.Changes.{tree_buried}
use Rattle.tree_removals.proofs.SortedTombs.{copied, tombs_sorted}
use Rattle.tree_removals.proofs.burying.tombs_with.Goals as goal

pub returns : goal.returns
returns c =
    let g = tree_seen c.args.group.now in
    let sorted = c.sort_tombs.new.tombs.items in
    let moved = subst (λ (ts : List Tombstone). IsPermutation ts sorted) c.in_ok-all.ensures c.in_ok-sort_tombs.ensures.moved in
    copied c.as_slice.result.now sorted (tree_buried c.args.now g c.args.tombs.now) c.copy_tombs.result c.as_slice.ensures.value
    (tombs_sorted c.args.now g c.args.tombs.now sorted c.requires moved c.in_ok-sort_tombs.ensures.sorted) c.copy_tombs.ensures
