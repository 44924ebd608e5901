use Rattle.outside_host.proofs.host.HostFiles.remove_draft.Goals as goal

pub returns-in-Err-clause-faults : goal.returns-in-Err-clause-faults
returns-in-Err-clause-faults g c = rw (← c.self.view_is) (record { later = c.fault.ensures.later; rose = λ refused. c.fault.ensures.rose; kept = tt })
