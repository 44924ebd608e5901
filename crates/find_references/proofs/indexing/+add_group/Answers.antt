use Rattle.std.proofs.Common.{List, ℕ, refl}
use Rattle.std.specs.List.{find}
use Rattle.find_references.proofs.IndexSteps.{adds_child, adds_end, adds_group, adds_none, rows_among}
use Rattle.find_references.specs.inside.Indexed.{has_compared}
use Rattle.vault_model.specs.declared.nodes.Group.{Group, out-Group}
use Rattle.find_references.proofs.indexing.+add_group.Goals as goal

pub loop-child-init : goal.loop-child-init
loop-child-init t c = adds_none _ _ (λ bytes. refl)

pub loop-child-preserved : goal.loop-child-preserved
loop-child-preserved t c =
    adds_child _ _ _ (has_compared c.args.place) _ _ c.child-item.result c.loop-child-test.true c.child-item.is
    c.loop-child.invariant c.in_ok-add_group.ensures

pub returns : goal.returns
returns t c =
    adds_group _ _ _ (has_compared c.args.place) c.args.group.now _ c.as_slice.ensures c.in_ok-add_entries.ensures
    (adds_end _ _ (λ (gs : List Group) (bytes : List ℕ). find (has_compared c.args.place bytes) (rows_among gs)) _
    (out-Group c.args.group.now).groups _ c.loop-child-test.false c.as_slice-child-items.ensures c.loop-child.invariant)
