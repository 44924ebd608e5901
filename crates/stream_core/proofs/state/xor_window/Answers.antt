use Rattle.std.proofs.Common.{◌≡◌, ◌+◌, ◌<◌, suc, length, slice_index, slice_set, bit_xor, arith, ap, ◌∙◌}
use Rattle.stream_core.proofs.StreamLemmas.{xored_front, xored_front_more}
use Rattle.stream_core.proofs.state.xor_window.Goals as goal

pub bytes-preserved : goal.bytes-preserved
bytes-preserved c =
    let stream = slice_index c.args.window.now in
    let inside : c.bytes.i < length c.args.text.now = omega arith in
    let next : suc c.bytes.i ≡ c.bytes.i + 1 = omega arith in
    ap (λ text. slice_set text c.bytes.i (bit_xor (slice_index text c.bytes.i) (stream (c.args.from + c.bytes.i)))) c.bytes.invariant
    ∙ xored_front_more stream c.args.from c.bytes.i c.args.text.now inside
    ∙ ap (λ n. xored_front stream c.args.from n c.args.text.now) next
