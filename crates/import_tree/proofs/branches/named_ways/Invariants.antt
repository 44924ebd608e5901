use Rattle.std.proofs.Common.{◌≡◌, ◌++◌, drop}
use Rattle.import_tree.specs.Branches.{places_below, own_ids}
use Rattle.import_tree.specs.SeenBranches.{ways_seen}
use Rattle.import_tree.proofs.branches.named_ways.Given as goal

-- what is found, with what is left, is all
abbrev pub invariant-loop-way : goal.invariant-loop-way
invariant-loop-way l = record {
  ids : l.initial.ids.items ++ own_ids (ways_seen l.ways) ≡ l.ids.items ++ own_ids (ways_seen (drop l.way-index l.ways));
  named_are : places_below (ways_seen l.ways) ≡ ways_seen l.named.items ++ places_below (ways_seen (drop l.way-index l.ways));
}
