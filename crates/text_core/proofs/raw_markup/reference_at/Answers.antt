use Rattle.std.proofs.Common.{◌∙◌, sym, ap, arith, ◌++◌, drop, ◌+◌, ◌∷◌}
use Rattle.std.proofs.lemmas.List.{length-take}
use Rattle.std.proofs.lemmas.Str.{length-encode, len_utf8_bounds}
use Rattle.markup_grammar.specs.Escapes.{unescaped, bytes_of}
use Rattle.text_core.proofs.Unescaping.{unended, ended}
use Rattle.text_core.proofs.raw_markup.reference_at.Goals as goal

pub returns-then-len-bytes-clause-text : goal.returns-then-len-bytes-clause-text
returns-then-len-bytes-clause-text c =
    unended c.args.bytes.now c.reference_len-len.result c.reference_len-len.ensures.len c.if-len-bytes.true

pub returns-in-Some-clause-text : goal.returns-in-Some-clause-text
returns-in-Some-clause-text c =
    let n = c.reference_len-len.result in
    let bytes = c.args.bytes.now in
    ended bytes n c.reference_len-len.ensures.len c.if-len-bytes.false c.reference_len-len.ensures.within
    ∙ ap (λ r. bytes_of r ++ unescaped (drop (n + 2) (38 ∷ bytes))) (sym c.in-Some.ensures.value)

pub returns-in-Some-clause-shorter : goal.returns-in-Some-clause-shorter
returns-in-Some-clause-shorter c =
    omega (arith, length-encode c.in-Some.character, (len_utf8_bounds c.in-Some.character).1, c.in-Some.ensures.some, length-take c.reference_len-len.result c.args.bytes.now)

pub returns-in-None-clause-text : goal.returns-in-None-clause-text
returns-in-None-clause-text c =
    let n = c.reference_len-len.result in
    let bytes = c.args.bytes.now in
    ended bytes n c.reference_len-len.ensures.len c.if-len-bytes.false c.reference_len-len.ensures.within
    ∙ ap (λ r. bytes_of r ++ unescaped (drop (n + 2) (38 ∷ bytes))) (sym c.in-None.ensures.value)
