use Rattle.std.proofs.Common.{◌∙◌, sym}
use Rattle.text_core.proofs.Digits.{no_hash, hexadecimal, decimal}
use Rattle.text_core.proofs.raw_markup.referred.Goals as goal

pub returns-in_default-clause-value : goal.returns-in_default-clause-value
returns-in_default-clause-value c = c.named.ensures.value ∙ sym (no_hash c.args.name.now c.in_default.ensures)

pub returns-in-Some-strip-clause-value : goal.returns-in-Some-strip-clause-value
returns-in-Some-strip-clause-value c =
    c.numbered.ensures.value
    ∙ sym (hexadecimal c.args.name.now c.in-Some.number.now c.in-Some-strip.digits.now c.in-Some.ensures c.in-Some-strip.ensures)

pub returns-in-None-clause-value : goal.returns-in-None-clause-value
returns-in-None-clause-value c =
    c.numbered-in-None.ensures.value ∙ sym (decimal c.args.name.now c.in-Some.number.now c.in-Some.ensures c.in-None.ensures)
