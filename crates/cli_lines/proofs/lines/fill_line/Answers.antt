use Rattle.std.proofs.Common.{◌∙◌, false, sym, true}
use Rattle.std.specs.Prelude.{codes}
use Rattle.cli_messages.specs.declared.answers.Reason.TheVariants.{LineForm, LineLimit}
use Rattle.cli_lines.specs.Lines.{next_line}
use Rattle.cli_messages.specs.Messages.{refusal_of}
use Rattle.cli_lines.proofs.Bytes.{line_read, none_read, not_text, refused_takes, text_takes}
use Rattle.cli_lines.proofs.lines.fill_line.Goals as goal

pub returns-in-Ok-None-clause-told : goal.returns-in-Ok-None-clause-told
returns-in-Ok-None-clause-told g c = λ truthful i is.
    none_read c.args.number i c.in-Ok-None.field-0 _ (c.in-Ok-None.ensures.told truthful i is) c.in-Ok-None.field-0-is

pub returns-in-Ok-true-clause-told : goal.returns-in-Ok-true-clause-told
returns-in-Ok-true-clause-told g c = λ truthful i is.
    let read = line_read c.args.number i c.in-Ok-Some.field-0 c.in-Ok-Some.first _ _ c.in-Ok-true.field-0 true c.read_from.new.line.bytes
    (c.in-Ok-Some.ensures.told (c.read_from.ensures.truthful truthful) i is) c.in-Ok-Some.field-0-is (c.in-Ok-true.ensures.told truthful) c.in-Ok-true.field-0-test in
    text_takes c.args.number c.read_from.new.line.bytes _ read.0 (next_line c.args.number i) (sym c.is_text_line.ensures ∙ c.if-is_text_line.true) read.1.1 read.1.0

pub returns-in-Ok-true-clause-text : goal.returns-in-Ok-true-clause-text
returns-in-Ok-true-clause-text g c = sym c.is_text_line.ensures ∙ c.if-is_text_line.true

pub returns-in-Ok-true-2-clause-told : goal.returns-in-Ok-true-2-clause-told
returns-in-Ok-true-2-clause-told g c = λ truthful i is.
    let read = line_read c.args.number i c.in-Ok-Some.field-0 c.in-Ok-Some.first _ _ c.in-Ok-true.field-0 true c.read_from.new.line.bytes
    (c.in-Ok-Some.ensures.told (c.read_from.ensures.truthful truthful) i is) c.in-Ok-Some.field-0-is (c.in-Ok-true.ensures.told truthful) c.in-Ok-true.field-0-test in
    refused_takes c.refused.result (refusal_of (LineForm c.args.number) (codes "input")) _ read.0 (next_line c.args.number i) c.refused.ensures
    (not_text c.args.number c.read_from.new.line.bytes read.0 (next_line c.args.number i) (sym c.is_text_line.ensures ∙ c.if-is_text_line.false) read.1.1) read.1.0

pub returns-in-Ok-false-clause-told : goal.returns-in-Ok-false-clause-told
returns-in-Ok-false-clause-told g c = λ truthful i is.
    let read = line_read c.args.number i c.in-Ok-Some.field-0 c.in-Ok-Some.first _ _ c.in-Ok-false.field-0 false c.read_from.new.line.bytes
    (c.in-Ok-Some.ensures.told (c.read_from.ensures.truthful truthful) i is) c.in-Ok-Some.field-0-is (c.in-Ok-false.ensures.told truthful) c.in-Ok-false.field-0-test in
    refused_takes c.refused-in-Ok-false.result (refusal_of LineLimit (codes "input")) _ read.0 (next_line c.args.number i) c.refused-in-Ok-false.ensures read.1.1 read.1.0
