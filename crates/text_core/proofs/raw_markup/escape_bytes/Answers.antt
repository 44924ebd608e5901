use Rattle.std.proofs.Common.{ap, sym, ◌∙◌, ◌++◌, length, arith}
use Rattle.text_core.proofs.Escaping.{split_len, whole_written, then_written, then_len, put_in_turn}
use Rattle.text_core.proofs.raw_markup.escape_bytes.Goals as goal

pub extend-requires : goal.extend-requires
extend-requires c =
    omega (arith, c.runs.invariant.room, split_len c.runs.rest.now _ _ _ c.verbatim_len.ensures.len c.split_at.ensures.front c.split_at.ensures.back)

pub returns-in_default-clause-bytes : goal.returns-in_default-clause-bytes
returns-in_default-clause-bytes c =
    let whole = whole_written c.runs.rest.now _ _ _ c.verbatim_len.ensures.len c.split_at.ensures.front c.split_at.ensures.back c.in_default.ensures.cases in
    c.extend.ensures.bytes ∙ ap (λ r. c.runs.out.bytes ++ r) (sym whole) ∙ c.runs.invariant.bytes

pub returns-in_default-clause-spare : goal.returns-in_default-clause-spare
returns-in_default-clause-spare c =
    let whole = whole_written c.runs.rest.now _ _ _ c.verbatim_len.ensures.len c.split_at.ensures.front c.split_at.ensures.back c.in_default.ensures.cases in
    omega (arith, c.extend.ensures.spare, c.runs.invariant.spare, c.runs.invariant.room, ap length whole)

pub escape_byte-requires : goal.escape_byte-requires
escape_byte-requires c =
    omega (arith, c.runs.invariant.room, c.extend.ensures.spare, then_len c.runs.rest.now _ _ _ c.verbatim_len.ensures.len c.split_at.ensures.front c.split_at.ensures.back _ _ c.in-Some.ensures.cases.0)

pub runs-preserved : goal.runs-preserved
runs-preserved c =
    let len = then_len c.runs.rest.now _ _ _ c.verbatim_len.ensures.len c.split_at.ensures.front c.split_at.ensures.back _ _ c.in-Some.ensures.cases.0 in
    let text = then_written c.runs.rest.now _ _ _ c.verbatim_len.ensures.len c.split_at.ensures.front c.split_at.ensures.back _ _ c.in-Some.ensures.cases.0 in
    record {
      bytes = rw (c.escape_byte.ensures.bytes, c.extend.ensures.bytes) (put_in_turn _ _ _ _ _ text ∙ c.runs.invariant.bytes);
      spare = omega (arith, c.escape_byte.ensures.spare, c.extend.ensures.spare, c.runs.invariant.spare, c.runs.invariant.room, len);
      room = omega (arith, c.escape_byte.ensures.spare, c.extend.ensures.spare, c.runs.invariant.room, len);
    }
