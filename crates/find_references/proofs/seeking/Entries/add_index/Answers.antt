use Rattle.find_references.proofs.IndexSteps.{one_more_index}
use Rattle.find_references.specs.inside.SeenEntries.{rows_of}
use Rattle.find_references.proofs.seeking.Entries.add_index.Goals as goal

pub returns-clause-indexed : goal.returns-clause-indexed
returns-clause-indexed c =
    one_more_index (rows_of c.args.self.now) c.args.self.now.indexes _ c.args.place c.in_ok-index.index _
    c.number_of-number.ensures c.requires c.in_ok-index.ensures c.in_ok-insert.ensures.updates.0
