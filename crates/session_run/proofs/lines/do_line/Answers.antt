use Rattle.std.proofs.Common.{refl}
use Rattle.session_run.proofs.DoneLines.{ended_line, passed_line, printed_line, refused_reads_back, stopped_line}
use Rattle.session_run.proofs.lines.do_line.Goals as goal

pub returns-in-Ok-Ends-clause-told : goal.returns-in-Ok-Ends-clause-told
returns-in-Ok-Ends-clause-told g c = λ st dt i d isI isD.
    ended_line c.in-Ok-Ends.field-0 _ _ _ _ c.run_line.new.session _ _ refl refl c.in-Ok-Ends.field-0-is (c.in-Ok-Ends.ensures.told st dt i d isI isD)

pub returns-in-Ok-Nothing-clause-told : goal.returns-in-Ok-Nothing-clause-told
returns-in-Ok-Nothing-clause-told g c = λ st dt i d isI isD.
    passed_line c.in-Ok-Nothing.field-0 _ c.run_line.new.session _ _ refl refl c.in-Ok-Nothing.field-0-is (c.in-Ok-Nothing.ensures.told st dt i d isI isD)

pub returns-in-Ok-Printed-clause-told : goal.returns-in-Ok-Printed-clause-told
returns-in-Ok-Printed-clause-told g c = λ st dt i d isI isD.
    printed_line c.in-Ok-Printed.field-0 c.in-Ok-Printed.output c.print_line.result _ _ _ _ c.run_line.new.session _ _ (rw c.in-Ok-Printed.field-0-is at c.print_line.ensures.told) c.in-Ok-Printed.field-0-is
    (c.in-Ok-Printed.ensures.told st dt i d isI isD)

pub returns-in-Ok-Ends-clause-reads_back : goal.returns-in-Ok-Ends-clause-reads_back
returns-in-Ok-Ends-clause-reads_back g c = λ st dt m i d isM isI isD none. cc none

pub returns-in-Ok-Nothing-clause-reads_back : goal.returns-in-Ok-Nothing-clause-reads_back
returns-in-Ok-Nothing-clause-reads_back g c = λ st dt m i d isM isI isD none. c.in-Ok-Nothing.ensures.reads_back st dt m i d isM isI isD

pub returns-in-Ok-Printed-clause-reads_back : goal.returns-in-Ok-Printed-clause-reads_back
returns-in-Ok-Printed-clause-reads_back g c = λ st dt m i d isM isI isD none. c.in-Ok-Printed.ensures.reads_back st dt m i d isM isI isD

pub returns-in-Err-clause-reads_back : goal.returns-in-Err-clause-reads_back
returns-in-Err-clause-reads_back g c = λ st dt m i d isM isI isD none.
    refused_reads_back _ c.in-Err.stop c.report_stop.result _ _ _ _ _ c.run_line.new.session _ _ _ _ none c.report_stop.ensures.told (c.in-Err.ensures.told st dt i d isI isD)

pub returns-in-Err-clause-told : goal.returns-in-Err-clause-told
returns-in-Err-clause-told g c = λ st dt i d isI isD.
    stopped_line c.in-Err.stop c.report_stop.result _ _ _ _ c.run_line.new.session _ _ refl c.report_stop.ensures.told c.in-Err.ensures.cause c.in-Err.ensures.kept
    (c.in-Err.ensures.told st dt i d isI isD)
