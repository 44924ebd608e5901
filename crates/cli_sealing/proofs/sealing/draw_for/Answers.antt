use Rattle.std.proofs.Common.{sym, ◌∙◌}
use Rattle.cli_sealing.proofs.DrawnParts.{draws_left}
use Rattle.cli_sealing.proofs.sealing.draw_for.Goals as goal

pub returns-in-Ok-clause-told : goal.returns-in-Ok-clause-told
returns-in-Ok-clause-told g c = λ truthful d is. draws_left c.args.settings.now c.in-Ok.draws d _ c.in-Ok.ensures.drawn (sym is ∙ c.in-Ok.ensures.stream truthful)
