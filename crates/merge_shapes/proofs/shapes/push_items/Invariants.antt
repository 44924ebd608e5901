use Rattle.std.proofs.Common.{◌≡◌, ◌++◌, drop}
use Rattle.merge_shapes.proofs.shapes.push_items.Given as goal

abbrev pub invariant-loop-item : goal.invariant-loop-item
invariant-loop-item l = l.lent.items ++ drop l.item-index l.items ≡ l.items
