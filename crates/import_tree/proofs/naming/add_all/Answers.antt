use Rattle.std.proofs.Common.{List, ◌≡◌, ◌∷◌, ◌++◌, [], subst, length, map, arith}
use Rattle.std.proofs.lemmas.List.{length-map}
use Rattle.std.specs.Vec.Iter.{into_iter_items}
use Rattle.import_tree.specs.SeenDrafts.{placed_seen}
use Rattle.import_tree.specs.SeenEntries.{imported_seen}
use Rattle.import_tree.specs.Trees.{placed_after}
use Rattle.import_tree.specs.declared.imported.ImportedEntry as memory
use Rattle.import_tree.proofs.Placing.{Placing, placing_more}
use Rattle.import_tree.proofs.naming.add_all.Goals as goal

pub loop-entry-preserved : goal.loop-entry-preserved
loop-entry-preserved c = λ none.
    let entries = c.args.entries.items in
    let total = map placed_seen c.args.placed.now.items ++ placed_after c.args.now [] (map imported_seen entries) in
    let here : into_iter_items c.loop-entry.entry-iterator ≡ c.in-Some.entry ∷ into_iter_items c.next.new.self = c.in-Some.ensures.steps.0 in
    placing_more c.args.now total (length (map imported_seen entries)) (map placed_seen c.loop-entry.placed.items) (map placed_seen c.add_imported.new.placed.items)
    (imported_seen c.in-Some.entry) (map imported_seen (into_iter_items c.next.new.self)) c.loop-entry.counts c.add_imported.new.counts
    (let many = length-map entries imported_seen in let small = c.args.entries.small in let ok = c.args.entries.ok in omega (arith, many, small, ok))
    (subst (λ (l : List memory.ImportedEntry). Placing c.args.now total (length (map imported_seen entries)) (map placed_seen c.loop-entry.placed.items) (map imported_seen l) c.loop-entry.counts) here (c.loop-entry.invariant none))
    c.in_ok-add_imported.ensures
