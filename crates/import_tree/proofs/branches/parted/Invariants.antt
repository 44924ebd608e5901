use Rattle.std.proofs.Common.{◌≡◌, ◌++◌, drop}
use Rattle.import_tree.specs.Branches.{inside, others}
use Rattle.import_tree.specs.SeenBranches.{ways_seen}
use Rattle.import_tree.proofs.branches.parted.Given as goal

-- what is found, with what is left, is all
abbrev pub invariant-loop-way : goal.invariant-loop-way
invariant-loop-way l = record {
  inside_are : inside l.name (ways_seen l.ways) ≡ ways_seen l.parts.inside.items ++ inside l.name (ways_seen (drop l.way-index l.ways));
  others_are : others l.name (ways_seen l.ways) ≡ ways_seen l.parts.others.items ++ others l.name (ways_seen (drop l.way-index l.ways));
}
