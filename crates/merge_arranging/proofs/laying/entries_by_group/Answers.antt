use Rattle.std.proofs.Common.{List, subst, ◌∙◌}
use Rattle.std.specs.Prelude.{IfOk}
use Rattle.vault_model.specs.Db.{NodeId}
use Rattle.merge_tables.specs.Databases.{database}
use Rattle.merge_arranging.specs.Parents.{AreUnder}
use Rattle.merge_arranging.proofs.laying.entries_by_group.Goals as goal

pub returns : goal.returns
returns c =
    subst (λ (us : List NodeId). IfOk c.by_parent.result (AreUnder (database c.args.laid.now) us)) (c.as_slice.ensures.value ∙ c.in_ok-ids.ensures) c.by_parent.ensures
