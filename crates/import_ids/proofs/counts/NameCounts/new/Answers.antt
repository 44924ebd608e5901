use Rattle.std.proofs.Common.{rules}
use Rattle.import_ids.specs.Counts.{HasCounted}
use Rattle.import_ids.proofs.counts.NameCounts.new.Goals as goal

pub returns : goal.returns
unfolding HasCounted
returns c = λ name. search rules
