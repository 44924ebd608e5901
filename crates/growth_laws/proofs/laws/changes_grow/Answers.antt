use Rattle.growth_laws.proofs.Commands.{add_grows, attach_grows, change_grows, detach_grows, edit_grows, move_entry_grows, restore_grows}
use Rattle.growth_laws.proofs.GroupCommands.{make_group_grows, move_group_grows}
use Rattle.growth_laws.proofs.laws.changes_grow.Goals as goal

pub returns-clause-add : goal.returns-clause-add
returns-clause-add c = add_grows

pub returns-clause-change : goal.returns-clause-change
returns-clause-change c = change_grows

pub returns-clause-edit : goal.returns-clause-edit
returns-clause-edit c = edit_grows

pub returns-clause-attach : goal.returns-clause-attach
returns-clause-attach c = attach_grows

pub returns-clause-detach : goal.returns-clause-detach
returns-clause-detach c = detach_grows

pub returns-clause-restore : goal.returns-clause-restore
returns-clause-restore c = restore_grows

pub returns-clause-move_entry : goal.returns-clause-move_entry
returns-clause-move_entry c = move_entry_grows

pub returns-clause-make_group : goal.returns-clause-make_group
returns-clause-make_group c = make_group_grows

pub returns-clause-move_group : goal.returns-clause-move_group
returns-clause-move_group c = move_group_grows
