use Rattle.std.proofs.Common.{ap, length, arith}
use Rattle.text_core.proofs.Escaping.{whole_written, then_len}
use Rattle.text_core.proofs.raw_markup.escaped_bytes_len.Goals as goal

pub returns-in_default : goal.returns-in_default
returns-in_default c =
    let whole = whole_written c.runs.rest.now _ _ _ c.verbatim_len-len.ensures.len c.split_at.ensures.front c.split_at.ensures.back c.in_default.ensures.cases in
    omega (arith, c.saturating_add-total.ensures, c.runs.invariant.value, c.runs.invariant.most, ap length whole, c.split_at.ensures.front_len)

pub runs-preserved : goal.runs-preserved
runs-preserved c =
    let len = then_len c.runs.rest.now _ _ _ c.verbatim_len-len.ensures.len c.split_at.ensures.front c.split_at.ensures.back _ _ c.in-Some.ensures.cases.0 in
    record {
      value = omega (arith, c.saturating_add-total.ensures, c.saturating_add-total-in-runs.ensures, c.written_len.ensures, c.runs.invariant.value, c.runs.invariant.most, c.split_at.ensures.front_len, len);
      most = omega (arith, c.saturating_add-total-in-runs.ensures);
    }
