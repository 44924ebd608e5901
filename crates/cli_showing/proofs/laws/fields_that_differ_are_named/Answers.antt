use Rattle.std.proofs.Common.{◌∙◌, sym}
use Rattle.cli_showing.specs.Showing.{field_of}
use Rattle.cli_showing.proofs.NamedChanges.{apart_differ, differ_apart, told}
use Rattle.cli_showing.proofs.RisingNames.{names_rise}
use Rattle.cli_showing.proofs.laws.fields_that_differ_are_named.Goals as goal

pub returns-clause-named : goal.returns-clause-named
returns-clause-named c = λ newer older name h i. (
  λ named. differ_apart (field_of name newer) (field_of name older) (sym (told name newer older h i) ∙ named),
  λ apart. told name newer older h i ∙ apart_differ (field_of name newer) (field_of name older) apart,
)

pub returns-clause-rising : goal.returns-clause-rising
returns-clause-rising c = names_rise
