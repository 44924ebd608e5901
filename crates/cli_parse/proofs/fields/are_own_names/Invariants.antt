use Rattle.std.proofs.Common.{◌≡◌, drop}
use Rattle.std.specs.List.{list_all}
use Rattle.cli_options.specs.SaidWords.{texts_among}
use Rattle.cli_parse.specs.Fields.{is_own_name}
use Rattle.cli_parse.proofs.fields.are_own_names.Given as goal

abbrev pub invariant-loop-text : goal.invariant-loop-text
invariant-loop-text l =
    list_all is_own_name (texts_among (drop l.text-index l.repeated) l.option) ≡ list_all is_own_name (texts_among l.repeated l.option)
