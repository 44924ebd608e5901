use Rattle.std.proofs.Common.{◌≡◌, ◌-◌, ◌≤◌, length}
use Rattle.kdbx_inner.specs.Inner.{inner_step, inner_end_missing}
use Rattle.outside_core.specs.Results.{repeat_steps}
use Rattle.kdbx_inner.specs.Seen.{inner_read_seen}
use Rattle.kdbx_inner.proofs.inner.read_fields.Given as goal

-- What is left is no longer than the text, and reading on from here gives what reading all gives.
abbrev pub invariant-fields : goal.invariant-fields
invariant-fields l = record {
  shorter : length l.read.rest.now ≤ length l.initial.read.rest.now;
  so_far : repeat_steps (inner_step l.whole) (inner_end_missing l.whole) (l.whole - l.counter) (inner_read_seen l.read) ≡ repeat_steps (inner_step l.whole) (inner_end_missing l.whole) l.whole (inner_read_seen l.initial.read);
}
