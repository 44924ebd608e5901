use Rattle.std.proofs.Common.{◌≡◌, drop}
use Rattle.std.specs.Ordering.{eq_by_cmp}
use Rattle.vault_model.specs.Orders.{icon_cmp}
use Rattle.merge_changes.specs.Equality.{same_all}
use Rattle.merge_changes.proofs.equality.same_icons.Given as goal

abbrev pub invariant-loop-at : goal.invariant-loop-at
invariant-loop-at l = same_all (eq_by_cmp icon_cmp) l.first l.second ≡ same_all (eq_by_cmp icon_cmp) (drop l.at l.first) (drop l.at l.second)
