use Rattle.randomness_laws.proofs.DrawnOnce.{calls_draw_once, draws_few_bytes, files_are_of_pieces, ids_are_of_pieces, passwords_are_of_pieces, printed_are_of_pieces, tasks_draw_once}
use Rattle.randomness_laws.proofs.laws.draws_once.Goals as goal

pub returns-clause-task : goal.returns-clause-task
returns-clause-task c = tasks_draw_once

pub returns-clause-calls : goal.returns-clause-calls
returns-clause-calls c = calls_draw_once

pub returns-clause-id : goal.returns-clause-id
returns-clause-id c = ids_are_of_pieces

pub returns-clause-password : goal.returns-clause-password
returns-clause-password c = passwords_are_of_pieces

pub returns-clause-printed : goal.returns-clause-printed
returns-clause-printed c = printed_are_of_pieces

pub returns-clause-file : goal.returns-clause-file
returns-clause-file c = files_are_of_pieces

pub returns-clause-few : goal.returns-clause-few
returns-clause-few c = draws_few_bytes
