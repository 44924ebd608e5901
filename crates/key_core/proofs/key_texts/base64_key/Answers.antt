use Rattle.std.proofs.Common.{◌≡◌, ◌∙◌, sym, ap, length, Ok, arith, false, ◌==◌}
use Rattle.std.proofs.lemmas.Bool.Decides.{nat_tests}
use Rattle.base64.specs.GeneralPurpose.{decode_slice_of}
use Rattle.base64.specs.Engines.{standard}
use Rattle.key_core.proofs.Base64Keys.{written_key, other_len, no_bytes}
use Rattle.key_core.proofs.key_texts.base64_key.Goals as goal

pub returns-in-Ok-eq32 : goal.returns-in-Ok-eq32
returns-in-Ok-eq32 c =
    let size : length c.bytes_mut.result.now ≡ 32 = ap length (c.bytes_mut.ensures.bytes ∙ c.of-key.ensures) in
    let same : c.in-Ok-eq32.field-0 ≡ 32 = grind (arith, nat_tests) in
    let decoded = ap (λ n. decode_slice_of standard c.args.text.now n) (sym size) ∙ sym c.in-Ok-eq32.ensures.value ∙ ap Ok same in
    written_key c.args.text.now _ _ size decoded c.in-Ok-eq32.ensures.written

pub returns-in-Ok : goal.returns-in-Ok
returns-in-Ok c =
    let size : length c.bytes_mut.result.now ≡ 32 = ap length (c.bytes_mut.ensures.bytes ∙ c.of-key.ensures) in
    let other : (c.in-Ok.field-0 == 32) ≡ false = grind (arith, nat_tests) in
    c.spent.ensures ∙ sym (other_len c.args.text.now c.in-Ok.field-0
    (ap (λ n. decode_slice_of standard c.args.text.now n) (sym size) ∙ sym c.in-Ok.ensures.value) other)

pub returns-in-Err : goal.returns-in-Err
returns-in-Err c =
    let size : length c.bytes_mut.result.now ≡ 32 = ap length (c.bytes_mut.ensures.bytes ∙ c.of-key.ensures) in
    c.spent-in-Err.ensures ∙ sym (no_bytes c.args.text.now c.in-Err.field-0
    (ap (λ n. decode_slice_of standard c.args.text.now n) (sym size) ∙ sym c.in-Err.ensures.value))
