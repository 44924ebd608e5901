use Rattle.std.proofs.Common.{◌<◌, arith}
use Rattle.argon_core.specs.Argon2.{memory_len}
use Rattle.argon_core.specs.Memory.{place_in}
use Rattle.argon_core.proofs.Limits.{memory_len-most, place_in-within}
use Rattle.argon_core.proofs.params.Instance.place_of.Goals as goal

pub overflow_mul-result : goal.overflow_mul-result
overflow_mul-result c =
    let p = c.args.self.now.params in
    let within : place_in p c.args.lane c.args.column < memory_len p = place_in-within p c.args.lane c.args.column c.requires.lane c.requires.column in
    rw c.lane_len.ensures.len (omega (arith, within, memory_len-most p c.requires.limits))

pub overflow_add-result : goal.overflow_add-result
overflow_add-result c =
    let p = c.args.self.now.params in
    let within : place_in p c.args.lane c.args.column < memory_len p = place_in-within p c.args.lane c.args.column c.requires.lane c.requires.column in
    rw c.lane_len.ensures.len (omega (arith, within, memory_len-most p c.requires.limits))

pub returns-clause-within : goal.returns-clause-within
returns-clause-within c =
    rw c.lane_len.ensures.len (place_in-within c.args.self.now.params c.args.lane c.args.column c.requires.lane c.requires.column)
