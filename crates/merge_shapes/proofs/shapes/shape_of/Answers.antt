-- Part by part.
use Rattle.std.proofs.Common.{refl, ◌∙◌}
use Rattle.merge_shapes.proofs.OwnShape.{of_parts}
use Rattle.merge_shapes.proofs.shapes.shape_of.Goals as goal

pub returns-in-Ok : goal.returns-in-Ok
returns-in-Ok c =
    let has = c.in_ok-nodes.ensures in
    c.in-Ok.ensures ∙ of_parts c.args.doc.now _ refl has.0 has.1.0 has.1.1 refl refl
