use Rattle.std.proofs.Common.{drop}
use Rattle.merge_tables.specs.Databases.{databases}
use Rattle.merge_core.proofs.Marked.{IsMarking}
use Rattle.merge_join.proofs.marking.kept_marks.Given as goal

abbrev pub invariant-loop-id : goal.invariant-loop-id
invariant-loop-id l = IsMarking (databases l.members) l.known (drop l.id-index l.known) l.marked
