use Rattle.std.proofs.Common.{◌+◌, ◌*◌, length}
use Rattle.import_tree.proofs.putting.+putting.Given as goal

-- a new group takes a step, and what is put into it another
abbrev pub decreases-put_new : goal.decreases-put_new
decreases-put_new l = 3 * length l.names.now + 2

abbrev pub decreases-put_filled : goal.decreases-put_filled
decreases-put_filled l = 3 * length l.names.now + 1

abbrev pub decreases-put_entry : goal.decreases-put_entry
decreases-put_entry l = 3 * length l.names.now
