use Rattle.std.proofs.Common.{ap, ◌∙◌}
use Rattle.std.specs.Ordering.{is_gt}
use Rattle.doc_values.proofs.keyed.comes_after.Goals as goal

pub returns : goal.returns
returns c = c.is_gt.ensures ∙ ap is_gt c.cmp.ensures
