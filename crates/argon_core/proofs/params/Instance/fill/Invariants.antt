use Rattle.std.proofs.Common.{◌≡◌, ◌*◌, length}
use Rattle.argon_core.specs.Argon2.{memory_len}
use Rattle.argon_core.specs.Memory.{HoldsBlocks, segment_time}
use Rattle.argon_core.proofs.params.Instance.fill.Given as goal

abbrev pub invariant-passes : goal.invariant-passes
invariant-passes l = record {
  len : length l.memory ≡ memory_len l.self.params;
  filled : HoldsBlocks l.self l.memory (l.pass * memory_len l.self.params);
}

abbrev pub invariant-slices : goal.invariant-slices
invariant-slices l = record {
  len : length l.memory ≡ memory_len l.self.params;
  filled : HoldsBlocks l.self l.memory (segment_time l.self.params l.pass l.slice 0);
}

abbrev pub invariant-lanes : goal.invariant-lanes
invariant-lanes l = record {
  len : length l.memory ≡ memory_len l.self.params;
  filled : HoldsBlocks l.self l.memory (segment_time l.self.params l.pass l.slice l.lane);
}
