use Rattle.tree_steps.proofs.InPlace.{entry_put_or_not}
use Rattle.tree_steps.proofs.entries.PutEntryChange.make.Goals as goal

pub returns : goal.returns
returns c = entry_put_or_not c.args.group.now c.put_last.new.list c.args.self.entry c.put_last.result c.put_last.ensures.ok c.put_last.ensures.err
