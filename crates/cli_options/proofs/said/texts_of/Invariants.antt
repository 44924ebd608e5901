use Rattle.std.proofs.Common.{◌≡◌, ◌++◌, drop}
use Rattle.cli_options.specs.SaidWords.{texts_among}
use Rattle.cli_options.proofs.said.texts_of.Given as goal

abbrev pub invariant-loop-repeated : goal.invariant-loop-repeated
invariant-loop-repeated l =
    l.texts ++ texts_among (drop l.repeated-index l.said.repeated.now) l.option ≡ texts_among l.said.repeated.now l.option
