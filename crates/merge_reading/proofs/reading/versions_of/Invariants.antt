use Rattle.std.proofs.Common.{◌≡◌, ◌≤◌, length, map, drop}
use Rattle.vault_model.specs.Join.{stats_join}
use Rattle.vault_model.specs.SeenNodes.{bare_version}
use Rattle.vault_model.specs.Unite.{unite_all}
use Rattle.merge_reading.specs.Columns.{one_version}
use Rattle.merge_reading.proofs.reading.versions_of.Given as goal

abbrev pub invariant-loop-at : goal.invariant-loop-at
invariant-loop-at l =
    record {
      within : l.at ≤ length l.history;
      united : l.versions ≡ unite_all stats_join (map one_version (map bare_version (drop l.at l.history)));
    }

abbrev pub decreases-loop-at : goal.decreases-loop-at
decreases-loop-at l = l.at
