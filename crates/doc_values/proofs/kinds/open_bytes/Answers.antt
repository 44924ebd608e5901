use Rattle.std.proofs.Common.{Ok, ap, sym, ◌∙◌, ◌++◌}
use Rattle.doc_values.proofs.kinds.open_bytes.Goals as goal

pub returns-in-Ok : goal.returns-in-Ok
returns-in-Ok c = ap Ok (sym (c.in-Ok.ensures.ok ∙ ap (λ bytes. bytes ++ c.args.piece.now) c.new-bytes.ensures))
