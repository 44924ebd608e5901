use Rattle.std.proofs.Common.{◌≡◌, ◌++◌, drop}
use Rattle.merge_building.proofs.metas.push_icons.Given as goal

abbrev pub invariant-loop-icon : goal.invariant-loop-icon
invariant-loop-icon l = l.made ++ drop l.icon-index l.icons ≡ l.icons
