use Rattle.std.proofs.Common.{[]}
use Rattle.cli_needs.specs.SeenNeeds.{needs_seen}
use Rattle.cli_lines.specs.Lines.{field_lines}
use Rattle.cli_lines.specs.SeenLines.{line_seen, values_seen}
use Rattle.cli_lines.proofs.Inputs.{fields_given, first_stops}
use Rattle.cli_lines.proofs.lines.read_after_otp.Goals as goal

pub returns-in-Ok-clause-told : goal.returns-in-Ok-clause-told
returns-in-Ok-clause-told g c = λ truthful i t.
    let needs = needs_seen c.args.needs in
    let read = (rw c.new-fields.ensures at c.in-Ok.ensures.told) truthful i t in
    fields_given c.args.number needs (line_seen c.args.more) (line_seen c.args.otp) _ _ i (values_seen c.read_fields.new.lines) read.0 read.1

pub returns-in-Err-clause-told : goal.returns-in-Err-clause-told
returns-in-Err-clause-told g c = λ truthful i t.
    let needs = needs_seen c.args.needs in
    first_stops c.in-Err.stop _ _ (field_lines needs.fields c.args.number [] i) _ ((rw c.new-fields.ensures at c.in-Err.ensures.told) truthful i t)
