use Rattle.std.proofs.Common.{sym, ◌∙◌}
use Rattle.serde_json.specs.View.{view}
use Rattle.bitwarden_core.proofs.NotNil.{own_not_nil}
use Rattle.bitwarden_core.proofs.placing.next_id.Goals as goal

pub returns-clause-not_nil : goal.returns-clause-not_nil
returns-clause-not_nil c = λ good. c.next_id.ensures.not_nil (λ id e. own_not_nil (view c.args.item.now) good id (sym c.given_id.ensures ∙ e))
