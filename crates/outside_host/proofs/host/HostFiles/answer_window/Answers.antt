use Rattle.std.proofs.Common.{arith}
use Rattle.outside_host.proofs.Counting.{increased_before}
use Rattle.outside_host.proofs.host.HostFiles.answer_window.Goals as goal

pub returns-in-Err-clause-faults : goal.returns-in-Err-clause-faults
returns-in-Err-clause-faults g c = record {
  later = omega (arith, c.in_ok-opened.ensures.faults.later, c.fault.ensures.later);
  rose = λ refused. increased_before _ _ _ c.in_ok-opened.ensures.faults.later c.fault.ensures.rose;
  kept = tt;
}
