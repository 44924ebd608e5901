use Rattle.std.proofs.Common.{◌≡◌, ◌++◌, drop, map}
use Rattle.import_tree.specs.SeenBranches.{ways_seen}
use Rattle.import_tree.specs.SeenDrafts.{placed_seen}
use Rattle.import_tree.proofs.depths.all_ways.Given as goal

-- those that are made, with those that are left, are all
abbrev pub invariant-loop-place : goal.invariant-loop-place
invariant-loop-place l = map placed_seen l.places ≡ ways_seen l.ways.items ++ map placed_seen (drop l.place-index l.places)
