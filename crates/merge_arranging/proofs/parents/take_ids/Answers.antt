use Rattle.std.proofs.Common.{ap, ◌∙◌}
use Rattle.merge_arranging.specs.Parents.{ids_under}
use Rattle.merge_arranging.proofs.PutUnder.{ids_removed}
use Rattle.merge_arranging.proofs.parents.take_ids.Goals as goal

pub returns-in-Some-clause-others : goal.returns-in-Some-clause-others
returns-in-Some-clause-others c g = ap (λ t. ids_under t g) c.remove.ensures.removed ∙ ids_removed c.args.children.now c.args.parent.now g

pub returns-in-None-clause-others : goal.returns-in-None-clause-others
returns-in-None-clause-others c g = ap (λ t. ids_under t g) c.remove.ensures.removed ∙ ids_removed c.args.children.now c.args.parent.now g
