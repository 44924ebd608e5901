use Rattle.std.proofs.Common.{refl}
use Rattle.cli_pages.specs.Texts.{unknown_or_near}
use Rattle.cli_pages.proofs.Steps.{added}
use Rattle.cli_pages.proofs.lines.add_unknown.Goals as goal

pub returns : goal.returns
unfolding unknown_or_near
returns c = added c.add_command.result c.args.text.now c.add_around.new.text c.add_command.new.text _ _ _ c.in_ok-add_around.ensures refl c.add_command.ensures
