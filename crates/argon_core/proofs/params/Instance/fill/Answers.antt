use Rattle.std.proofs.Common.{◌≡◌, ◌+◌, ◌*◌, arith}
use Rattle.argon_core.specs.Argon2.{memory_len, segment_len}
use Rattle.argon_core.specs.Memory.{segment_time}
use Rattle.argon_core.proofs.params.Instance.fill.Goals as goal

pub passes-init : goal.passes-init
passes-init c = record {
  len = c.requires.len;
  filled = record { len = c.requires.len; latest_blocks = λ lane column low short before. absurd (omega (arith, before)) };
}

pub slices-init : goal.slices-init
slices-init c =
    let p = c.args.self.now.params in
    let first : c.passes.pass * memory_len p ≡ segment_time p c.passes.pass 0 0 = omega arith in
    record { len = c.passes.invariant.len; filled = rw first at c.passes.invariant.filled }

pub lanes-init : goal.lanes-init
lanes-init c = record { len = c.slices.invariant.len; filled = c.slices.invariant.filled }

pub fill_segment-requires : goal.fill_segment-requires
fill_segment-requires c = record {
  limits = c.requires.limits;
  len = c.lanes.invariant.len;
  slice = c.slices-test.true;
  lane = c.lanes-test.true;
}

pub lanes-preserved : goal.lanes-preserved
lanes-preserved c =
    let p = c.args.self.now.params in
    let held = c.fill_segment.ensures c.lanes.invariant.filled in
    let next : segment_time p c.passes.pass c.slices.slice c.lanes.lane + segment_len p
    ≡ segment_time p c.passes.pass c.slices.slice (c.lanes.lane + 1) = omega arith in
    record { len = held.len; filled = rw next at held }

pub slices-preserved : goal.slices-preserved
slices-preserved c =
    let p = c.args.self.now.params in
    let done : c.lanes.lane ≡ p.lanes = omega arith in
    let held = rw done at c.lanes.invariant.filled in
    let whole : segment_time p c.passes.pass c.slices.slice p.lanes
    ≡ segment_time p c.passes.pass (c.slices.slice + 1) 0 = omega arith in
    record { len = c.lanes.invariant.len; filled = rw whole at held }

pub passes-preserved : goal.passes-preserved
passes-preserved c =
    let p = c.args.self.now.params in
    let done : c.slices.slice ≡ 4 = omega arith in
    let held = rw done at c.slices.invariant.filled in
    let whole : segment_time p c.passes.pass 4 0 ≡ (c.passes.pass + 1) * memory_len p = omega arith in
    record { len = c.slices.invariant.len; filled = rw whole at held }

pub returns : goal.returns
returns c =
    let done : c.passes.pass ≡ c.args.self.now.params.passes = omega arith in
    rw done at c.passes.invariant.filled
