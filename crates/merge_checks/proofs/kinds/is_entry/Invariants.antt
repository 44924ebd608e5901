use Rattle.std.proofs.Common.{◌≡◌, drop}
use Rattle.merge_core.specs.Refusals.{is_entry}
use Rattle.merge_tables.specs.Databases.{databases}
use Rattle.merge_checks.proofs.kinds.is_entry.Given as goal

abbrev pub invariant-loop-copy : goal.invariant-loop-copy
invariant-loop-copy l = is_entry (databases l.copies) l.id ≡ is_entry (databases (drop l.copy-index l.copies)) l.id
