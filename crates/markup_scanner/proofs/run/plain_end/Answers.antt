use Rattle.std.proofs.Common.{◌∙◌}
use Rattle.markup_scanner.proofs.Words.{text_run}
use Rattle.markup_scanner.proofs.run.plain_end.Goals as goal

pub returns-clause-run : goal.returns-clause-run
returns-clause-run c = c.quoted_end.ensures.run ∙ text_run c.args.text.now c.args.at
