use Rattle.std.proofs.Common.{◌≡◌, ◌<◌, refl, sym, ◌∙◌, ap, arith, Some}
use Rattle.std.specs.Option.{option_copied_mut}
use Rattle.std.specs.Prelude.{slice_get}
use Rattle.vault_model.specs.SeenNodes.{tree_seen}
use Rattle.vault_model.specs.Tree.{height}
use Rattle.vault_model.specs.declared.nodes.Group.{out-Group}
use Rattle.tree_steps.proofs.InPlace.{changed_here, either_below, lower, none_below, not_there}
use Rattle.tree_steps.proofs.changes.+change_at.Goals as goal

pub returns-then-is_same : goal.returns-then-is_same
returns-then-is_same g t c = record {
  none = changed_here c.args.id (g.C.Change.makes c.args.change c.make.result) c.args.group.now (tree_seen c.make.new.group) (sym c.is_same.ensures ∙ c.if-is_same.true) c.make.ensures;
}

pub returns-in_err-at : goal.returns-in_err-at
returns-in_err-at g t c =
    let absent = not_there c.args.id c.args.group.now (sym c.is_same.ensures ∙ c.if-is_same.false) (sym c.way_to.ensures ∙ c.in_err-at.was) in
    rw c.from_residual.ensures (record { none = (absent, refl) })

pub returns-in_err-get_mut : goal.returns-in_err-get_mut
returns-in_err-get_mut g t c =
    none_below c.args.id c.args.group.now c.in_ok-at.at (sym c.way_to.ensures ∙ c.in_ok-at.was) (sym c.get_mut.ensures.item ∙ ap option_copied_mut c.in_err-get_mut.was)

pub change_at-requires : goal.change_at-requires
change_at-requires g t c κs within =
    let is : slice_get (out-Group c.args.group.now).groups c.in_ok-at.at ≡ Some c.in_ok-get_mut.field-0.now = sym c.get_mut.ensures.item ∙ ap option_copied_mut c.in_ok-get_mut.was in
    let d : height (tree_seen c.args.group.now) ≡ t = c.decreases in
    let below = lower c.args.group.now c.in_ok-at.at c.in_ok-get_mut.field-0.now is in
    let falls : height (tree_seen c.in_ok-get_mut.field-0.now) < t = omega (arith, d, below) in
    (falls, (within.0, within.1))

pub returns : goal.returns
returns g t c =
    let is : slice_get (out-Group c.args.group.now).groups c.in_ok-at.at ≡ Some c.in_ok-get_mut.field-0.now = sym c.get_mut.ensures.item ∙ ap option_copied_mut c.in_ok-get_mut.was in
    record {
      none = either_below c.args.id (g.C.Change.makes c.args.change) c.args.group.now c.in_ok-at.at c.in_ok-get_mut.field-0.now c.change_at.new.group
          (sym c.is_same.ensures ∙ c.if-is_same.false) (sym c.way_to.ensures ∙ c.in_ok-at.was) is c.change_at.result c.change_at.ensures.none;
    }
