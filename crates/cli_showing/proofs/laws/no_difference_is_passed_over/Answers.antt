use Rattle.std.proofs.Common.{◌≡◌, [], subst}
use Rattle.vault_model.specs.Bare.{BareContent}
use Rattle.cli_showing.specs.History.{all_changed}
use Rattle.cli_showing.proofs.SameContents.{none_of_itself, same_contents}
use Rattle.cli_showing.proofs.laws.no_difference_is_passed_over.Goals as goal

pub returns : goal.returns
returns c = λ newer older. (
  same_contents newer older,
  λ same. subst (λ (o : BareContent). all_changed newer o ≡ []) same (none_of_itself newer),
)
