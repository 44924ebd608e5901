use Rattle.cli_changes.proofs.RemovalLine.{removal_line}
use Rattle.cli_changes.proofs.attachments.removal_report.Goals as goal

pub returns : goal.returns
returns c = rw c.if-quiet.false
    (removal_line c.line_of.result c.as_bytes.result.now c.as_bytes-2.result.now c.args.name.now c.args.path.now c.as_bytes.ensures.value
    c.as_bytes-2.ensures.value c.line_of.ensures)
