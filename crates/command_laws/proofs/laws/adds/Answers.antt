use Rattle.command_laws.proofs.Commands.{add_adds, attach_adds, change_adds, detach_adds, edit_adds, make_group_adds, move_entry_adds, recycling_adds, restore_adds}
use Rattle.command_laws.proofs.laws.adds.Goals as goal

pub returns-clause-add : goal.returns-clause-add
returns-clause-add c = add_adds

pub returns-clause-change : goal.returns-clause-change
returns-clause-change c = change_adds

pub returns-clause-attach : goal.returns-clause-attach
returns-clause-attach c = attach_adds

pub returns-clause-detach : goal.returns-clause-detach
returns-clause-detach c = detach_adds

pub returns-clause-edit : goal.returns-clause-edit
returns-clause-edit c = edit_adds

pub returns-clause-restore : goal.returns-clause-restore
returns-clause-restore c = restore_adds

pub returns-clause-move_entry : goal.returns-clause-move_entry
returns-clause-move_entry c = move_entry_adds

pub returns-clause-make_group : goal.returns-clause-make_group
returns-clause-make_group c = make_group_adds

pub returns-clause-recycling : goal.returns-clause-recycling
returns-clause-recycling c = recycling_adds
