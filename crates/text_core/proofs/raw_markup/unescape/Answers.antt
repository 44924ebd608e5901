use Rattle.std.proofs.Common.{◌∙◌, sym, arith, append-nil}
use Rattle.text_core.proofs.Unescaping.{none_left}
use Rattle.text_core.proofs.raw_markup.unescape.Goals as goal

pub returns-clause-bytes : goal.returns-clause-bytes
returns-clause-bytes c =
    let done = none_left c.loop-rest.rest.now (sym c.is_empty.ensures ∙ c.loop-rest-test.false) in
    rw (done, c.as_bytes-rest.ensures.value, append-nil) at c.loop-rest.invariant.bytes

pub returns-clause-spare : goal.returns-clause-spare
returns-clause-spare c =
    let done = none_left c.loop-rest.rest.now (sym c.is_empty.ensures ∙ c.loop-rest-test.false) in
    omega (arith, rw (done, c.as_bytes-rest.ensures.value) at c.loop-rest.invariant.spare)
