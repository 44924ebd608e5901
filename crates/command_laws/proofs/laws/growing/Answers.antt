use Rattle.std.proofs.Common.{ap}
use Rattle.history_laws.specs.Current.{current_view}
use Rattle.command_laws.proofs.Edits.{attach_grows_in_current, change_grows_in_current, change_is_now, detach_grows_in_current, edit_grows_in_current, edit_is_now, restore_grows_in_current, restore_is_now}
use Rattle.command_laws.proofs.laws.growing.Goals as goal

pub returns-clause-change : goal.returns-clause-change
returns-clause-change c = change_grows_in_current

pub returns-clause-changed : goal.returns-clause-changed
returns-clause-changed c = change_is_now

pub returns-clause-attach : goal.returns-clause-attach
returns-clause-attach c = attach_grows_in_current

pub returns-clause-detach : goal.returns-clause-detach
returns-clause-detach c = detach_grows_in_current

pub returns-clause-edit : goal.returns-clause-edit
returns-clause-edit c = edit_grows_in_current

pub returns-clause-growth : goal.returns-clause-growth
returns-clause-growth c d e h = ap current_view h

pub returns-clause-event : goal.returns-clause-event
returns-clause-event c n w i e h = h

pub returns-clause-now : goal.returns-clause-now
returns-clause-now c = edit_is_now

pub returns-clause-restore : goal.returns-clause-restore
returns-clause-restore c = restore_grows_in_current

pub returns-clause-restored : goal.returns-clause-restored
returns-clause-restored c = restore_is_now
