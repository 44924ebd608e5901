use Rattle.std.proofs.Common.{◌≡◌, ◌≤◌, ◌+◌, ◌-◌, false, drop, length}
use Rattle.std.specs.Prelude.{map}
use Rattle.vault_model.specs.Seen.{bare_field}
use Rattle.cli_showing.specs.History.{names_changed}
use Rattle.cli_showing.specs.inside.Names.{put_names}
use Rattle.cli_showing.proofs.changes.append_fields.Given as goal

abbrev pub invariant-loop-at : goal.invariant-loop-at
invariant-loop-at l = record {
  at : l.at ≤ length l.newer;
  passed : l.passed ≤ length l.older;
  same :
      put_names (names_changed (map bare_field (drop l.at l.newer)) (map bare_field (drop l.passed l.older))) (l.text.bytes, l.some)
      ≡ put_names (names_changed (map bare_field l.newer) (map bare_field l.older)) (l.fn.text.bytes, false);
}

abbrev pub decreases-loop-at : goal.decreases-loop-at
decreases-loop-at l = (length l.newer - l.at) + (length l.older - l.passed)
