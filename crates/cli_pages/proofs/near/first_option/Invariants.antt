use Rattle.std.proofs.Common.{◌≡◌, drop}
use Rattle.std.specs.List.{find}
use Rattle.cli_pages.specs.Texts.{is_near_option}
use Rattle.cli_pages.proofs.near.first_option.Given as goal

abbrev pub invariant-loop-option : goal.invariant-loop-option
invariant-loop-option l =
    find (is_near_option l.command l.word) (drop l.option-index l.options)
    ≡ find (is_near_option l.command l.word) l.options
