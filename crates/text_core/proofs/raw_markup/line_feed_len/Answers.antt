use Rattle.text_core.proofs.Unescaping.{with_feed, without_feed}
use Rattle.text_core.proofs.raw_markup.line_feed_len.Goals as goal

pub returns-in-Some-clause-text : goal.returns-in-Some-clause-text
returns-in-Some-clause-text c = with_feed c.args.bytes.now _ c.in-Some.ensures

pub returns-in-None-clause-text : goal.returns-in-None-clause-text
returns-in-None-clause-text c = without_feed c.args.bytes.now c.in-None.ensures
