use Rattle.std.proofs.Common.{◌∙◌}
use Rattle.text_core.proofs.Unescaping.{amp, line_end, plain_run, plain_some}
use Rattle.text_core.proofs.raw_markup.part_at.Goals as goal

pub returns-in-Some-clause-text : goal.returns-in-Some-clause-text
returns-in-Some-clause-text c = rw c.in-Some.ensures (amp c.in-Some.rest.now ∙ c.reference_at.ensures.text)

pub returns-in-Some-strip-clause-text : goal.returns-in-Some-strip-clause-text
returns-in-Some-strip-clause-text c = line_end c.args.raw.now c.in-Some-strip.rest.now c.line_feed_len.result c.in-Some-strip.ensures c.line_feed_len.ensures.text

pub returns-clause-text : goal.returns-clause-text
returns-clause-text c = rw c.plain_len-len.ensures.len (plain_run c.args.raw.now)

pub returns-clause-some : goal.returns-clause-some
returns-clause-some c =
    rw c.plain_len-len.ensures.len (plain_some c.args.raw.now c.in_default.ensures c.in_default-strip.ensures c.requires)
