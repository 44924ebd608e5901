use Rattle.tree_groups.proofs.GroupPuts.{group_put_or_not}
use Rattle.tree_groups.proofs.groups.PutGroupChange.make.Goals as goal

pub returns : goal.returns
returns c = group_put_or_not c.args.group.now c.put_last.new.list c.args.self.group c.put_last.result c.put_last.ensures.ok c.put_last.ensures.err
