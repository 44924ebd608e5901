use Rattle.vault_model.specs.SeenNodes.{tree_seen}
use Rattle.tree_moves.proofs.GroupsTaken.{none_taken, taken_at}
use Rattle.tree_moves.proofs.groups.take_group.Goals as goal

pub returns : goal.returns
returns c = taken_at c.args.parent c.args.id (tree_seen c.args.root.now) (tree_seen c.change_at.new.group) c.in_ok-change_at.field-0 c.in_ok-change_at.ensures.none

pub returns-in_err-change_at : goal.returns-in_err-change_at
returns-in_err-change_at c =
    let h = rw c.in_err-change_at.was at c.change_at.ensures.none in
    rw c.from_residual.ensures (none_taken c.args.parent c.args.id (tree_seen c.args.root.now) h.0, h.1)
