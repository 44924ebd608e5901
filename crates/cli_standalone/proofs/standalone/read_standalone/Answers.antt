use Rattle.std.proofs.Common.{subst}
use Rattle.std.specs.Prelude.{IfSome, map, string_bytes}
use Rattle.cli_standalone.specs.Standalone.{IsStandalone}
use Rattle.cli_standalone.proofs.InOrder.{in_order}
use Rattle.cli_standalone.proofs.standalone.read_standalone.Goals as goal

pub returns-in-Ok-clause-in_order : goal.returns-in-Ok-clause-in_order
returns-in-Ok-clause-in_order c =
    subst (λ standalone. IfSome standalone IsStandalone) c.in-Ok.ensures (in_order (map string_bytes c.args.words.now))
