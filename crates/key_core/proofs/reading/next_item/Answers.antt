use Rattle.key_core.proofs.Steps.{start_came, words_came, stop_came, finish_came, refusal_came}
use Rattle.key_core.proofs.reading.next_item.Goals as goal

pub returns-in-Ok-Start : goal.returns-in-Ok-Start
returns-in-Ok-Start c = start_came _ _ _ _ _ (rw c.in-Ok-Start.field-0-is at c.in-Ok-Start.ensures)

pub returns-in-Ok-Words : goal.returns-in-Ok-Words
returns-in-Ok-Words c = words_came _ _ _ _ (rw c.in-Ok-Words.field-0-is at c.in-Ok-Words.ensures)

pub returns-in-Ok-Stop : goal.returns-in-Ok-Stop
returns-in-Ok-Stop c = stop_came _ _ _ (rw c.in-Ok-Stop.field-0-is at c.in-Ok-Stop.ensures)

pub returns-in-Ok-Finish : goal.returns-in-Ok-Finish
returns-in-Ok-Finish c = let came = rw c.in-Ok-Finish.field-0-is at c.in-Ok-Finish.ensures in finish_came _ came.0

pub returns-in-Err : goal.returns-in-Err
returns-in-Err c = refusal_came c.in-Err.field-0 _ _ c.in-Err.ensures
