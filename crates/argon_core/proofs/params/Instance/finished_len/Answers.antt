use Rattle.std.proofs.Common.{◌<◌, ◌≤◌, arith}
use Rattle.argon_core.proofs.Limits.{some_slices-least, some_slices-most}
use Rattle.argon_core.proofs.params.Instance.finished_len.Goals as goal
use Rattle.argon_core.proofs.params.Instance.finished_len.Goals.{then-at-eq0, else-at-eq0}

pub overflow_mul-result : goal.overflow_mul-result
overflow_mul-result c =
    let few : c.if-at-eq0.slices ≤ 3 = elim c.if-at-eq0.branch [ then-at-eq0 w ↦ omega arith | else-at-eq0 w ↦ omega arith ] in
    rw c.segment_len.ensures (omega (arith, some_slices-most c.args.self.now.params c.requires.limits c.if-at-eq0.slices few))

pub returns-clause-some : goal.returns-clause-some
returns-clause-some c = λ later.
    let some : 0 < c.if-at-eq0.slices = elim c.if-at-eq0.branch [
      | then-at-eq0 w ↦ omega (arith, later w.if-at-eq0.true)
      | else-at-eq0 w ↦ omega arith
    ] in
    rw c.segment_len.ensures (some_slices-least c.args.self.now.params c.requires.limits c.if-at-eq0.slices some)

pub returns-clause-few : goal.returns-clause-few
returns-clause-few c =
    let few : c.if-at-eq0.slices ≤ 3 = elim c.if-at-eq0.branch [ then-at-eq0 w ↦ omega arith | else-at-eq0 w ↦ omega arith ] in
    rw c.segment_len.ensures (some_slices-most c.args.self.now.params c.requires.limits c.if-at-eq0.slices few)
