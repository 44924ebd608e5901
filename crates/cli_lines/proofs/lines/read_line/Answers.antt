use Rattle.std.proofs.Common.{[], ap}
use Rattle.std.specs.Prelude.{codes}
use Rattle.cli_messages.specs.declared.answers.Reason.TheVariants.{InputEnded}
use Rattle.cli_messages.specs.Messages.{refusal_of}
use Rattle.cli_lines.specs.Lines.{line_of}
use Rattle.cli_lines.specs.SeenLines.{line_seen}
use Rattle.cli_lines.proofs.Bytes.{due_missing, due_read, due_stops, refused_takes}
use Rattle.cli_lines.proofs.lines.read_line.Goals as goal

pub returns-in-Ok-Some-clause-told : goal.returns-in-Ok-Some-clause-told
returns-in-Ok-Some-clause-told g c = λ truthful i is.
    due_read c.args.number i (line_seen c.in-Ok-Some.field-0) c.in-Ok-Some.line.bytes _ (ap line_seen c.in-Ok-Some.field-0-is) (c.in-Ok-Some.ensures.told truthful i is)

pub returns-in-Ok-None-clause-told : goal.returns-in-Ok-None-clause-told
returns-in-Ok-None-clause-told g c = λ truthful i is.
    let missing = due_missing c.args.number i (line_seen c.in-Ok-None.field-0) _ (ap line_seen c.in-Ok-None.field-0-is) (c.in-Ok-None.ensures.told truthful i is) in
    refused_takes c.refused.result (refusal_of (InputEnded c.args.number) (codes "input")) _ [] (line_of c.args.number i) c.refused.ensures missing.0 missing.1

pub returns-in-Err-clause-told : goal.returns-in-Err-clause-told
returns-in-Err-clause-told g c = λ truthful i is. due_stops c.in-Err.stop c.args.number i _ (c.in-Err.ensures.told truthful i is)
