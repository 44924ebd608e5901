use Rattle.std.proofs.Common.{◌∙◌, sym, arith}
use Rattle.text_core.proofs.Unescaping.{none_left}
use Rattle.text_core.proofs.raw_markup.unescaped_len.Goals as goal

pub returns : goal.returns
returns c =
    let done = none_left c.loop-rest.rest.now (sym c.is_empty.ensures ∙ c.loop-rest-test.false) in
    omega (arith, rw (done, c.as_bytes-rest.ensures.value) at c.loop-rest.invariant.text)
