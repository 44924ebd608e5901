use Rattle.outside_objects.proofs.Refusals.{never_refused}
use Rattle.outside_objects.proofs.failing.MemoryFilesFileStore.size.Goals as goal

pub returns-clause-faults : goal.returns-clause-faults
returns-clause-faults c = rw (← c.self.view_is) (never_refused _ _ _ _ (c.fails.ensures.kept c.if-fails.false) c.size.ensures.faults)
