-- A plan that names every member comes to the join of all.
use Rattle.std.proofs.Common.{◌∙◌}
use Rattle.merge_core.proofs.PlanLaws.{plan_allowed, plan_join, plan_tree, names_some}
use Rattle.merge_core.proofs.laws.plans.Goals as goal

pub returns-clause-values : goal.returns-clause-values
returns-clause-values c S p a names = (plan_allowed S a p names.0, plan_join S a p names (names_some S p names))

pub returns-clause-documents : goal.returns-clause-documents
returns-clause-documents c n S p a names fits = plan_tree S a n p names.0 fits ∙ plan_join S a p names (names_some S p names)
