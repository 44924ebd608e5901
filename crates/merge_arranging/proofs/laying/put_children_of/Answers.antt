use Rattle.std.proofs.Common.{List, ap, ◌∙◌}
use Rattle.vault_model.specs.Db.{NodeId}
use Rattle.vault_model.specs.Shape.{ids_in_group}
use Rattle.merge_tables.specs.Databases.{database}
use Rattle.merge_arranging.proofs.laying.put_children_of.Goals as goal

pub fill_children-requires-clause-groups : goal.fill_children-requires-clause-groups
fill_children-requires-clause-groups c g = c.in_ok-groups.ensures g ∙ ap (λ (us : List NodeId). ids_in_group (database c.args.laid.now) g us) c.requires.ids
