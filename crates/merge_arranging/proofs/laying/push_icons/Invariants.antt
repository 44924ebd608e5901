use Rattle.std.proofs.Common.{◌≡◌, ◌++◌, map}
use Rattle.std.specs.FinMap.{values}
use Rattle.vault_model.specs.declared.metas.Icon.{Icon}
use Rattle.vault_model.specs.Db.{NodeId}
use Rattle.merge_arranging.proofs.laying.push_icons.Given as goal

abbrev pub invariant-loop-icon : goal.invariant-loop-icon
invariant-loop-icon l = values l.icons ≡ l.values.items ++ map (λ (e : NodeId × Icon). e.1) l.icon-iterator
