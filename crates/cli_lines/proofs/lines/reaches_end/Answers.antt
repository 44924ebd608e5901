use Rattle.cli_lines.proofs.Bytes.{end_told}
use Rattle.cli_lines.proofs.lines.reaches_end.Goals as goal

pub returns-in-Ok-next-clause-told : goal.returns-in-Ok-next-clause-told
returns-in-Ok-next-clause-told g c = λ truthful i is.
    end_told i c.in-Ok-next.byte c.is_none.result _ (c.in-Ok-next.ensures.told truthful i is) c.is_none.ensures
