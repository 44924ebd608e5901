use Rattle.std.proofs.Common.{◌-◌, ◌∙◌, ap, take}
use Rattle.tree_edits.proofs.cutting.cut_start.Goals as goal

pub returns : goal.returns
returns c = c.cut_end.ensures ∙ ap (λ n. take (n - c.args.excess) c.move_up.new.history) c.move_up.ensures.len ∙ c.move_up.ensures.moved
