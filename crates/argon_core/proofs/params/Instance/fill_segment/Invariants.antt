use Rattle.std.proofs.Common.{◌≡◌, ◌≢◌, ◌+◌, ◌/◌, ◌%◌, true, length}
use Rattle.argon_core.specs.Argon2.{address_block, is_independent, memory_len}
use Rattle.argon_core.specs.Memory.{HoldsBlocks, segment_time}
use Rattle.argon_core.proofs.params.Instance.fill_segment.Given as goal

abbrev pub invariant-places : goal.invariant-places
invariant-places l =
    let before = segment_time l.self.params l.at.pass l.at.slice l.at.lane in
    record {
      len : length l.memory ≡ memory_len l.self.params;
      filled : HoldsBlocks l.self l.fn.memory before → HoldsBlocks l.self l.memory (before + l.place);
      addresses : is_independent l.self.kind l.at.pass l.at.slice ≡ true → l.place % 128 ≢ 0
          → l.addresses ≡ address_block l.self l.at.pass l.at.lane l.at.slice (l.place / 128 + 1);
    }
