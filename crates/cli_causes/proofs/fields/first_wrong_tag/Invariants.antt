use Rattle.std.proofs.Common.{◌≡◌, drop}
use Rattle.cli_options.specs.SaidWords.{texts_among}
use Rattle.cli_causes.specs.Fields.{first_wrong_tag}
use Rattle.cli_causes.proofs.fields.first_wrong_tag.Given as goal

abbrev pub invariant-loop-text : goal.invariant-loop-text
invariant-loop-text l =
    first_wrong_tag (texts_among (drop l.text-index l.repeated) l.option) ≡ first_wrong_tag (texts_among l.repeated l.option)
