use Rattle.std.proofs.Common.{◌∙◌, sym}
use Rattle.cli_options.specs.SaidWords.{reading_seen}
use Rattle.cli_options.proofs.LongNames.{long_named}
use Rattle.cli_options.proofs.words.add_name.Goals as goal

pub returns : goal.returns
returns c =
    rw (long_named c.args.command (reading_seen c.args.given.now c.args.state.now) c.args.name.now (sym c.is_empty.ensures ∙ c.if-is_empty.false))
    (rw (c.name_option.ensures, c.split_at_sign.ensures.before, c.split_at_sign.ensures.after) at c.add_long.ensures)
