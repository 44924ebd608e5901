use Rattle.std.proofs.Common.{◌≡◌, drop}
use Rattle.std.specs.List.{list_all}
use Rattle.cli_options.specs.SaidWords.{texts_among}
use Rattle.tree_core.specs.Tags.{is_tag}
use Rattle.cli_parse.proofs.fields.are_tags.Given as goal

abbrev pub invariant-loop-text : goal.invariant-loop-text
invariant-loop-text l =
    list_all is_tag (texts_among (drop l.text-index l.repeated) l.option) ≡ list_all is_tag (texts_among l.repeated l.option)
