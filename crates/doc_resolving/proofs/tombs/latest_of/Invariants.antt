use Rattle.std.proofs.Common.{◌≡◌, ◌≤◌, drop, length, map}
use Rattle.doc_forms.specs.Ids.{bury_all, tomb_of}
use Rattle.doc_resolving.proofs.tombs.latest_of.Given as goal

-- the tombstones from the position on are kept by their ids
abbrev pub invariant-loop-at : goal.invariant-loop-at
invariant-loop-at l =
    record {
      within : l.at ≤ length l.tombs;
      buried : map tomb_of l.latest.entries ≡ bury_all (drop l.at l.tombs);
    }

abbrev pub decreases-loop-at : goal.decreases-loop-at
decreases-loop-at l = l.at
