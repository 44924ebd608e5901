use Rattle.std.proofs.Common.{sym}
use Rattle.stream_core.proofs.StreamLemmas.{xored-zero}
use Rattle.stream_core.proofs.inner.InnerStream.apply.Goals as goal

pub returns-in-Clear-clause-text : goal.returns-in-Clear-clause-text
returns-in-Clear-clause-text c place at = rw c.in-Clear.is (sym (xored-zero place c.args.text.now))
