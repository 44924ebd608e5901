use Rattle.std.proofs.Common.{◌++◌, [], length, map}
use Rattle.std.specs.Vec.Iter.{into_iter_items}
use Rattle.import_ids.specs.Counts.{HasCounted}
use Rattle.import_tree.specs.SeenDrafts.{placed_seen}
use Rattle.import_tree.specs.SeenEntries.{imported_seen}
use Rattle.import_tree.specs.Trees.{placed_after}
use Rattle.import_tree.proofs.Placing.{Placing}
use Rattle.import_tree.proofs.naming.add_all.Given as goal

-- those that are placed, with the entries that are left, are all
abbrev pub invariant-loop-entry : goal.invariant-loop-entry
invariant-loop-entry l = HasCounted l.initial.counts [] → Placing l.fn.now
    (map placed_seen l.initial.placed.items ++ placed_after l.fn.now [] (map imported_seen l.fn.entries.items))
    (length (map imported_seen l.fn.entries.items))
    (map placed_seen l.placed.items) (map imported_seen (into_iter_items l.entry-iterator)) l.counts
