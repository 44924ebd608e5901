use Rattle.std.proofs.Common.{◌≡◌, ◌-◌, ◌<◌, ◌≤◌, ℕ, slice_index}
use Rattle.block_core.proofs.padding.length_before.Given as goal

abbrev pub invariant-padding : goal.invariant-padding
invariant-padding l = (k : ℕ) → l.len - l.count ≤ k → k < l.i → slice_index l.text k ≡ l.count
