use Rattle.std.proofs.Common.{length, arith}
use Rattle.std.proofs.lemmas.List.FromFn.{fill_by_all}
use Rattle.argon_core.proofs.words.load_words.Goals as goal

pub returns : goal.returns
returns c = fill_by_all _ c.load.into (length c.args.into.now) 0 (omega arith) (λ k h. c.load.invariant k (omega arith))
