-- Both lists, each in order.
use Rattle.std.proofs.Common.{◌∙◌}
use Rattle.vault_model.specs.Shape.{in_order, laid_children}
use Rattle.merge_tables.specs.Databases.{database}
use Rattle.merge_nodes.specs.Shapes.{shape}
use Rattle.merge_arranging.proofs.laying.laid_children.Goals as goal

pub returns-in-Ok : goal.returns-in-Ok
returns-in-Ok c =
    let g = c.args.group.now in
    let entries = c.in_ok-ordered_entries.ensures ∙ (λ i. in_order (c.old_entries-entries.ensures i) ((c.ids_under.ensures ∙ c.requires.entries g) i)) in
    let groups = c.in-Ok.ensures ∙ (λ i. in_order (c.old_groups.ensures i) ((c.ids_under-2.ensures ∙ c.requires.groups g) i)) in
    c.new.ensures
    ∙ (λ i. record (laid_children (database c.args._laid.now) (shape c.args.older.now) g) { entries = entries i; groups = groups i })
