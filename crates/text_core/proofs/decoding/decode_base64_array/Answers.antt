use Rattle.std.proofs.lemmas.List.{length-replicate}
use Rattle.text_core.proofs.Base64Arrays.{array_written, other_length, no_bytes}
use Rattle.text_core.proofs.decoding.decode_base64_array.Goals as goal

pub returns-in-Ok : goal.returns-in-Ok
returns-in-Ok g c =
    array_written g.row.N c.args.text.now _ _ c.decode_slice.result c.in-Ok.len (length-replicate g.row.N 0)
    c.decode_slice.ensures.value c.in-Ok.is c.if-len.true c.in-Ok.ensures.written

pub returns-in-Ok-2 : goal.returns-in-Ok-2
returns-in-Ok-2 g c =
    other_length g.row.N c.args.text.now _ c.decode_slice.result c.in-Ok.len (length-replicate g.row.N 0)
    c.decode_slice.ensures.value c.in-Ok.is c.if-len.false

pub returns-in-Err : goal.returns-in-Err
returns-in-Err g c =
    no_bytes g.row.N c.args.text.now _ c.decode_slice.result c.in-Err.field-0 (length-replicate g.row.N 0)
    c.decode_slice.ensures.value c.in-Err.is
