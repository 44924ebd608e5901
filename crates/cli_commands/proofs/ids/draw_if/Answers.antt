use Rattle.cli_commands.proofs.Changes.{id_drawn}
use Rattle.cli_commands.proofs.ids.draw_if.Goals as goal

pub returns-in-Ok-clause-some_dice : goal.returns-in-Ok-clause-some_dice
returns-in-Ok-clause-some_dice g c =
    id_drawn c.args.is_made c.in-Ok.drawn c.new_id.result c.if-not-is_made.false c.in-Ok.ensures.long c.new_id.ensures
