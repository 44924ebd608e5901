use Rattle.std.proofs.Common.{◌∙◌, sym, ap, Ok}
use Rattle.key_core.specs.Reading.{says_by}
use Rattle.key_core.proofs.Roots.{key_found, plain_found}
use Rattle.key_core.proofs.key_file.read_key_file.Goals as goal

pub returns-in-Ok : goal.returns-in-Ok
returns-in-Ok c = rw (sym (key_found c.args.bytes.now (says_by c.in-Ok.document) c.in-Ok.ensures)) at c.document_key.ensures

pub returns-in-Err-Cut : goal.returns-in-Err-Cut
returns-in-Err-Cut c =
    ap Ok c.plain_key.ensures ∙ sym (plain_found c.args.bytes.now (rw c.in-Err-Cut.field-0-is at c.in-Err-Cut.ensures))
