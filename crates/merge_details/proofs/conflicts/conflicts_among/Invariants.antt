use Rattle.std.proofs.Common.{◌≡◌, map, vec_len}
use Rattle.std.specs.FinMap.{get}
use Rattle.merge_details.specs.Conflicts.{conflicts_among}
use Rattle.merge_details.specs.PathTables.{path_at}
use Rattle.merge_details.proofs.Found.{with_conflicts}
use Rattle.merge_details.proofs.conflicts.conflicts_among.Given as goal

-- those found, with those of the entries that are left, are all
abbrev pub invariant-loop-row : goal.invariant-loop-row
invariant-loop-row l =
    with_conflicts (path_at l.paths) (get l.held.target) (map get l.held.sources.items) l.rows.items l.found
    ≡ conflicts_among (path_at l.paths) (get l.held.target) (map get l.held.sources.items) l.fn.rows.items

abbrev pub decreases-loop-row : goal.decreases-loop-row
decreases-loop-row l = vec_len l.rows
