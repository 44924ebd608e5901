use Rattle.std.proofs.Common.{◌≡◌, ◌-◌, ◌<◌, length}
use Rattle.find_references.specs.inside.Seen.{made_seen}
use Rattle.find_references.specs.inside.SeenEntries.{IsIndexed, rows_of}
use Rattle.find_references.proofs.Steps.{after_pieces}
use Rattle.find_references.proofs.resolving.+add_resolved.Given as goal

-- each level deeper has one replacement less within it
abbrev pub decreases-add_resolved : goal.decreases-add_resolved
decreases-add_resolved l = l.levels

abbrev pub invariant-loop-rest : goal.invariant-loop-rest
invariant-loop-rest l =
    (0 < l.levels)
    × (after_pieces (l.levels - 1) (rows_of l.fn.entries) l.rest (made_seen l.made)
    ≡ after_pieces (l.levels - 1) (rows_of l.fn.entries) l.text (made_seen l.fn.made))
    × (l.entries.root ≡ l.fn.entries.root) × IsIndexed l.entries

abbrev pub decreases-loop-rest : goal.decreases-loop-rest
decreases-loop-rest l = length l.rest
