use Rattle.std.proofs.Common.{sym, subst}
use Rattle.std.specs.Prelude.{Bool, [], not}
use Rattle.cli_lines.specs.Cutting.{Ends, cut}
use Rattle.cli_lines.proofs.Bytes.{at_end, ended}
use Rattle.cli_lines.proofs.lines.end.Goals as goal

pub returns-then-not-returned : goal.returns-then-not-returned
returns-then-not-returned c =
    subst (λ (b : Bool). Ends (not b) c.args.line.now.bytes (cut c.args.line.now.bytes b []) []) (sym c.if-not-returned.true) (at_end c.args.line.now.bytes)

pub returns-else-not-returned : goal.returns-else-not-returned
returns-else-not-returned c =
    subst (λ (b : Bool). Ends c.push.result c.push.new.line.bytes (cut c.args.line.now.bytes b []) []) (sym c.if-not-returned.false)
    (ended c.push.result c.args.line.now c.push.new.line c.push.ensures c.requires)
