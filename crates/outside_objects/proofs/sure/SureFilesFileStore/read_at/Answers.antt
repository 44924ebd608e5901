use Rattle.outside_objects.proofs.sure.SureFilesFileStore.read_at.Goals as goal

pub returns-clause-absences : goal.returns-clause-absences
returns-clause-absences c = rw (← c.self.view_is) (record { later = c.increment-self-inside.ensures.later; rose = λ refused. c.increment-self-inside.ensures.rose; kept = tt })
